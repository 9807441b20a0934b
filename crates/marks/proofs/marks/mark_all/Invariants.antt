use Rattle.tables.specs.Views.{view_of}
use Rattle.marks.specs.Marks.{MarksAdded, over_tables}
use Rattle.marks.proofs.marks.mark_all.Given as goal

abbrev pub invariant-loop-k : goal.invariant-loop-k
invariant-loop-k l = MarksAdded l.initial.m l.m (over_tables (view_of l.b.places l.b.raw.now) l.k)
