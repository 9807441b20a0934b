use Rattle.files.proofs.ReleaseLaws.{Clearing}
use Rattle.files.proofs.release.clear_runs.Given as goal

abbrev pub invariant-loop-j : goal.invariant-loop-j
invariant-loop-j l = Clearing l.p l.initial.b l.i.0 l.n l.at l.b l.j
