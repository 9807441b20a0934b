use Prim.Native.Nat.{◌≤◌, ◌-◌}
use Rattle.tables.specs.Views.{cov}
use Rattle.marks.specs.Marks.{MarksAdded}
use Rattle.marks.proofs.marks.mark_run.Given as goal

abbrev pub invariant-loop-i : goal.invariant-loop-i
invariant-loop-i l = (l.i ≤ l.q.count) × MarksAdded l.initial.m l.m (cov l.q.start.0 l.i)

abbrev pub decreases-loop-i : goal.decreases-loop-i
decreases-loop-i l = l.q.count - l.i
