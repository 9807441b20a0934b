use Rattle.allocation.proofs.PlanLaws.{copied_both}
use Rattle.allocation.proofs.plan.copy_tables.Goals as goal

pub returns : goal.returns
returns c = search copied_both
