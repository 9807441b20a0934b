use Rattle.tables.specs.Views.{view_of}
use Rattle.marks.specs.Marks.{over_tables}
use Rattle.examination.specs.Limits.{Lowers}
use Rattle.examination.proofs.owned.mark_tables.Given as goal

abbrev pub invariant-loop-k : goal.invariant-loop-k
invariant-loop-k l = Lowers l.initial.m l.initial.low.0 (over_tables (view_of l.b.places l.b.raw.now) l.k) l.m l.low.0
