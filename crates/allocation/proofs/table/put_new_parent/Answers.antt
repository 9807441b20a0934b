use Rattle.allocation.specs.NewTables.{put_new_parent}
use borrow.Author.Rules.{rules}
use Rattle.allocation.proofs.table.put_new_parent.Goals as goal

pub returns : goal.returns
unfolding put_new_parent
returns c = (search rules, cc)
