use Rattle.allocation.proofs.GrowthLaws.{plan_laws}
use Rattle.allocation.proofs.growth.plan_all.Goals as goal

pub add_all-requires : goal.add_all-requires
add_all-requires c = record { laws = plan_laws; ready = c.requires }
