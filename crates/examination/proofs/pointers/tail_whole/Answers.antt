use Rattle.examination.proofs.ZonePartLaws.{tail_here}
use borrow.Author.Rules.{rules}
use Rattle.examination.proofs.pointers.tail_whole.Goals as goal

pub returns-else-first-end : goal.returns-else-first-end
returns-else-first-end c = search (tail_here, rules)
