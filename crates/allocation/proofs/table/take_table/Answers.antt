use Rattle.allocation.specs.NewTables.{take_table}
use borrow.Author.Rules.{rules}
use Rattle.allocation.proofs.table.take_table.Goals as goal

pub returns : goal.returns
unfolding take_table
returns c = (search rules, cc)
