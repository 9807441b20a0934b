use Rattle.examination.proofs.FreeLaws.{Walking}
use Rattle.examination.proofs.MetLaws.{clear}
use Rattle.tables.specs.Views.{view_of}
use Rattle.examination.proofs.free.free_chain.Given as goal

abbrev pub invariant-loop-at : goal.invariant-loop-at
invariant-loop-at l = Walking (view_of l.b.places l.b.raw.now) l.seen l.at.0

abbrev pub decreases-loop-at : goal.decreases-loop-at
decreases-loop-at l = clear l.seen
