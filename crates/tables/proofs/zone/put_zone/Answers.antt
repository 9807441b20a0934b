use Rattle.tables.specs.Zones.{put_zone}
use Rattle.tables.proofs.zone.put_zone.Goals as goal

pub returns : goal.returns
unfolding put_zone
returns c = cc
