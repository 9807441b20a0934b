use Rattle.tables.specs.Views.{view_of}
use Rattle.examination.specs.Surveys.{TypesMarked}
use Rattle.examination.proofs.types.mark_files.Given as goal

abbrev pub invariant-loop-k : goal.invariant-loop-k
invariant-loop-k l = TypesMarked (view_of l.b.places l.b.raw.now) l.k l.m
