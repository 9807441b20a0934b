use Rattle.requests.specs.Space.{used_sectors}
use Rattle.requests.proofs.used.used_sectors.Goals as goal

pub returns : goal.returns
unfolding used_sectors
returns c = cc
