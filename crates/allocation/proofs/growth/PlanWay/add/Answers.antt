use Rattle.allocation.proofs.PlanLaws.{sectors_few, planned_one}
use borrow.Author.Rules.{rules}
use Rattle.allocation.proofs.growth.PlanWay.add.Goals as goal

pub push_block-requires : goal.push_block-requires
push_block-requires c = (search rules, search rules, search sectors_few)

pub returns : goal.returns
returns c = search planned_one
