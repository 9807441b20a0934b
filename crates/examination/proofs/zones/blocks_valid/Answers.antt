use Rattle.examination.proofs.WholeLaws.{count_says}
use borrow.Author.Rules.{rules}
use Rattle.examination.proofs.zones.blocks_valid.Goals as goal

pub returns-then-blocks_whole : goal.returns-then-blocks_whole
returns-then-blocks_whole c = search (count_says, rules)
