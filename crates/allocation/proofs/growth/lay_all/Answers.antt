use Rattle.allocation.proofs.GrowthLaws.{lay_laws}
use Rattle.allocation.proofs.growth.lay_all.Goals as goal

pub add_all-requires : goal.add_all-requires
add_all-requires c = record { laws = lay_laws; ready = c.requires }
