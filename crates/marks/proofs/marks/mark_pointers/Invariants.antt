use Rattle.marks.specs.Marks.{MarksAdded, over_first}
use Rattle.marks.proofs.marks.mark_pointers.Given as goal

abbrev pub invariant-loop-j : goal.invariant-loop-j
invariant-loop-j l = MarksAdded l.initial.m l.m (over_first l.t l.base l.j)
