use Rattle.tables.specs.Views.{view_of}
use Rattle.marks.specs.Marks.{MarksAdded}
use Rattle.marks.specs.WithheldList.{first_withheld}
use Rattle.marks.proofs.withheld.mark_withheld.Given as goal

abbrev pub invariant-loop-s : goal.invariant-loop-s
invariant-loop-s l = MarksAdded l.initial.m l.m (first_withheld (view_of l.b.places l.b.raw.now) l.withheld l.s-index)
