use Rattle.tables.specs.Zones.{zone_at}
use Rattle.tables.proofs.zone.zone_entry.Goals as goal

pub returns : goal.returns
unfolding zone_at
returns c = cc
