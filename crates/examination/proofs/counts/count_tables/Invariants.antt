use Rattle.tables.specs.Views.{view_of}
use Rattle.examination.specs.Counted.{Counted}
use Rattle.examination.proofs.counts.count_tables.Given as goal

abbrev pub invariant-loop-k : goal.invariant-loop-k
invariant-loop-k l = Counted (view_of l.b.places l.b.raw.now) l.k l.c
