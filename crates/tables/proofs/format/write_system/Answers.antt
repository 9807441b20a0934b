use Rattle.tables.specs.Format.{put_system_zones}
use Rattle.tables.proofs.format.write_system.Goals as goal

pub returns : goal.returns
unfolding put_system_zones
returns c = cc
