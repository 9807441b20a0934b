use Rattle.tables.proofs.ExtentLaws.{Summed}
use Rattle.tables.proofs.extent.sectors_of.Given as goal

abbrev pub invariant-loop-j : goal.invariant-loop-j
invariant-loop-j l = Summed l.t l.base l.j l.sum
