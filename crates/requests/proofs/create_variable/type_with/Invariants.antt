use Rattle.requests.proofs.FixedLaws.{NoneTo}
use Rattle.requests.proofs.create_variable.type_with.Given as goal

abbrev pub invariant-loop-t : goal.invariant-loop-t
invariant-loop-t l = NoneTo l.n l.t
