use Rattle.examination.proofs.ChildLaws.{Going}
use Rattle.examination.proofs.MetLaws.{clear}
use Rattle.tables.specs.Views.{view_of}
use Rattle.examination.proofs.children.mark_chain.Given as goal

abbrev pub invariant-loop-at : goal.invariant-loop-at
invariant-loop-at l = Going (view_of l.b.places l.b.raw.now) l.of.0 l.initial.seen l.seen l.last.0 l.at.0

abbrev pub decreases-loop-at : goal.decreases-loop-at
decreases-loop-at l = clear l.seen
