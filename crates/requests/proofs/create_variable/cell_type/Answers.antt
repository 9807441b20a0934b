use borrow.Author.Rules.{rules}
use Rattle.requests.proofs.FixedLaws.{cell_below}
use Rattle.requests.proofs.create_variable.cell_type.Goals as goal

pub returns-in_err-cell : goal.returns-in_err-cell
returns-in_err-cell c = search (cell_below, rules)
