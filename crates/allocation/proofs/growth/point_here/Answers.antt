use Rattle.allocation.proofs.ReadyLaws.{point_present}
use Rattle.allocation.proofs.growth.point_here.Goals as goal

pub returns : goal.returns
returns c = search point_present
