use borrow.Author.Rules.{rules}
use Rattle.tables.proofs.index.pointer_at.Goals as goal

pub returns : goal.returns
returns c = (cc, search rules)
