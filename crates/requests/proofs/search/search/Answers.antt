use Rattle.std.proofs.lemmas.Result.{err_from_is_err_and}
use borrow.Author.Rules.{rules}
use Rattle.requests.proofs.SearchRequestLaws.{argument_layout, search_refused, search_done}
use Rattle.requests.proofs.ArgumentLaws.{argument_room}
use Rattle.requests.proofs.search.search.Goals as goal

pub returns-in_err-check_argument : goal.returns-in_err-check_argument
returns-in_err-check_argument c =
    let p = err_from_is_err_and c.from_residual.result c.from_residual.ensures.1 in rw (p.1, p.2) (search_refused _ _ _ _ _ c.pattern_allowed.ensures _ c.in_err-check_argument.ensures)

pub read_places-p-requires : goal.read_places-p-requires
read_places-p-requires c = search (argument_room, c.in_ok-check_argument.ensures, rules)

pub invariant_of-find_files : goal.invariant_of-find_files
invariant_of-find_files c = record { layout = search (argument_layout, c.in_ok-check_argument.ensures, rules) }

pub returns : goal.returns
returns c = search (search_done, c.in_ok-check_argument.ensures, rules)
