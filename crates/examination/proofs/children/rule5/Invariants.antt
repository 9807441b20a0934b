use Prim.Native.Nat.{◌-◌}
use Rattle.examination.specs.Met.{Passed}
use Rattle.tables.specs.Views.{view_of}
use Rattle.examination.proofs.children.rule5.Given as goal

abbrev pub invariant-loop-i : goal.invariant-loop-i
invariant-loop-i l = Passed (view_of l.b.places l.b.raw.now) l.seen (l.i - 1)
