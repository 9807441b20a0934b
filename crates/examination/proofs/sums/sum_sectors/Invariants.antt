use Rattle.tables.specs.Views.{view_of}
use Rattle.examination.specs.Surveys.{Summed}
use Rattle.examination.proofs.sums.sum_sectors.Given as goal

abbrev pub invariant-loop-k : goal.invariant-loop-k
invariant-loop-k l = Summed (view_of l.b.places l.b.raw.now) l.k l.s
