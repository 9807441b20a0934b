use Rattle.std.proofs.lemmas.Result.{err_from_is_err_and}
use Rattle.requests.proofs.CreateLaws.{create_stops}
use Rattle.requests.proofs.ArgumentLaws.{argument_good}
use Rattle.requests.proofs.FixedLaws.{fixed_counted, fixed_new, fixed_ends}
use borrow.Author.Rules.{rules}
use Rattle.requests.proofs.create_fixed.create_fixed.Goals as goal

pub returns-in_err-check_argument : goal.returns-in_err-check_argument
returns-in_err-check_argument c =
    let p = err_from_is_err_and c.from_residual.result c.from_residual.ensures.1 in rw (p.1, p.2) (create_stops _ _ _ _ _ _ c.fixed_allowed.ensures _ c.in_err-check_argument.ensures)

pub counts_for-requires : goal.counts_for-requires
counts_for-requires c = fixed_counted _ _ _ _ _ _ _ c.fixed_allowed.result c.fixed_allowed.ensures c.in_ok-check_argument.ensures

pub make_file-requires : goal.make_file-requires
make_file-requires c = search (argument_good, fixed_new, c.in_ok-check_argument.ensures, rules)

pub returns : goal.returns
returns c = search (fixed_ends, c.in_ok-check_argument.ensures, rules)
