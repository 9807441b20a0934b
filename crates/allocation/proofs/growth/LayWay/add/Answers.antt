use Rattle.allocation.proofs.PlanLaws.{sectors_few}
use Rattle.allocation.proofs.ReadyLaws.{lay_layout, lay_head, lay_in_table, lay_end}
use borrow.Author.Rules.{rules}
use Rattle.allocation.proofs.growth.LayWay.add.Goals as goal

pub push_block-r-requires : goal.push_block-r-requires
push_block-r-requires c = (search rules, search rules, search sectors_few)

pub point-requires : goal.point-requires
point-requires c = record { layout = search lay_layout; head_for = search lay_head; in_table = search lay_in_table; le_table = search rules }

pub returns : goal.returns
returns c = search lay_end
