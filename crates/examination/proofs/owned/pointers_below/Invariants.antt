use Rattle.marks.specs.Marks.{over_first}
use Rattle.examination.specs.Limits.{Lowers}
use Rattle.examination.proofs.owned.pointers_below.Given as goal

abbrev pub invariant-loop-j : goal.invariant-loop-j
invariant-loop-j l = Lowers l.initial.m l.initial.low.0 (over_first l.t l.base l.j) l.m l.low.0
