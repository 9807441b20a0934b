use Rattle.tables.specs.Views.{view_of}
use Rattle.files.proofs.SeekLaws.{Seeking}
use Rattle.files.proofs.spot.seek.Given as goal

abbrev pub invariant-loop-n : goal.invariant-loop-n
invariant-loop-n l = Seeking (view_of l.b.places l.b.raw.now) l.initial.c.table.0 l.k l.c l.rest l.n

abbrev pub decreases-loop-n : goal.decreases-loop-n
decreases-loop-n l = l.rest
