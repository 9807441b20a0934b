use Prim.Native.Nat.{◌-◌}
use Rattle.examination.specs.Meetings.{MetUpTo}
use Rattle.tables.specs.Views.{view_of}
use Rattle.examination.proofs.chains.rule5_place.Given as goal

abbrev pub invariant-loop-i : goal.invariant-loop-i
invariant-loop-i l = MetUpTo (view_of l.b.places l.b.raw.now) l.met (l.i - 1)
