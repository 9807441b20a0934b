use Rattle.tables.specs.Views.{view_of}
use Rattle.examination.specs.Slots.{Leading}
use Rattle.examination.proofs.pointers.slots_valid.Given as goal

abbrev pub invariant-loop-j : goal.invariant-loop-j
invariant-loop-j l = Leading (view_of l.b.places l.b.raw.now) l.t l.at l.j
