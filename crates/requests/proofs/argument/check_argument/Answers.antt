use borrow.Author.Rules.{rules}
use Rattle.tables.proofs.RefusalLaws.{refused}
use Rattle.requests.proofs.ArgumentLaws.{argument_stops, argument_refused, argument_fine}
use Rattle.requests.proofs.argument.check_argument.Goals as goal

pub returns-in_err-check_use : goal.returns-in_err-check_use
returns-in_err-check_use c = search (argument_stops, refused, rules)

pub returns-then-not-allowed : goal.returns-then-not-allowed
returns-then-not-allowed c = search (argument_refused, rules)

pub returns : goal.returns
returns c = search (argument_fine, rules)
