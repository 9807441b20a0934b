use Rattle.std.proofs.lemmas.Result.{err_from_is_err_and}
use Rattle.requests.proofs.CreateLaws.{create_stops}
use Rattle.requests.proofs.ArgumentLaws.{argument_good}
use Rattle.requests.proofs.FixedLaws.{variable_typed, variable_new, variable_ends, cell_is, cell_some}
use borrow.Author.Rules.{rules}
use Rattle.requests.proofs.create_variable.create_variable.Goals as goal

pub returns-in_err-check_argument : goal.returns-in_err-check_argument
returns-in_err-check_argument c =
    let p = err_from_is_err_and c.from_residual.result c.from_residual.ensures.1 in rw (p.1, p.2) (create_stops _ _ _ _ _ _ c.variable_allowed.ensures _ c.in_err-check_argument.ensures)

pub only_counts-requires : goal.only_counts-requires
only_counts-requires c = search (variable_typed, c.in_ok-check_argument.ensures, rules)

pub make_file-requires : goal.make_file-requires
make_file-requires c = search (argument_good, variable_new, c.in_ok-check_argument.ensures, rules)

pub returns : goal.returns
returns c = search (variable_ends, cell_is, c.in_ok-check_argument.ensures, rules)

pub unwrap-requires : goal.unwrap-requires
unwrap-requires c = search (cell_some, c.in_ok-check_argument.ensures, rules)
