use Rattle.tables.specs.Views.{cov}
use Rattle.marks.specs.Marks.{MarksAdded}
use Rattle.examination.proofs.owned.mark_below.Given as goal

abbrev pub invariant-loop-i : goal.invariant-loop-i
invariant-loop-i l = MarksAdded l.initial.m l.m (cov l.q.start.0 l.i)
