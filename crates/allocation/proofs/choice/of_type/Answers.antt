use Rattle.allocation.proofs.NeighbourLaws.{of_other, of_this}
use Rattle.allocation.proofs.choice.of_type.Goals as goal

pub returns-then-e-t : goal.returns-then-e-t
returns-then-e-t c = search of_other

pub returns : goal.returns
returns c = search of_this
