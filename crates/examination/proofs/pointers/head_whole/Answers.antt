use Rattle.examination.proofs.ZonePartLaws.{head_here}
use borrow.Author.Rules.{rules}
use Rattle.examination.proofs.pointers.head_whole.Goals as goal

pub returns-else-le : goal.returns-else-le
returns-else-le c = search (head_here, rules)
