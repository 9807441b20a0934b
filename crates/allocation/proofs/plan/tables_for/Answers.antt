use Rattle.allocation.proofs.PlanLaws.{copies_plannable, copies_tables}
use Rattle.allocation.proofs.plan.tables_for.Goals as goal

pub plan_all-requires : goal.plan_all-requires
plan_all-requires c = search copies_plannable

pub returns : goal.returns
returns c = search copies_tables
