use Rattle.requests.proofs.SearchRequestLaws.{argument_layout}
use borrow.Author.Rules.{rules}
use Rattle.tables.proofs.RefusalLaws.{refused}
use Rattle.requests.proofs.ArgumentLaws.{argument_room, argued_good}
use Rattle.requests.proofs.NamedLaws.{asked_stops, asked_goes}
use Rattle.requests.proofs.named.check_asked.Goals as goal

pub returns-in_err-check_argument : goal.returns-in_err-check_argument
returns-in_err-check_argument c = search (asked_stops, refused, rules)

pub read_places-p-requires : goal.read_places-p-requires
read_places-p-requires c = search (argument_room, c.in_ok-check_argument.ensures, rules)

pub invariant_of-check_state : goal.invariant_of-check_state
invariant_of-check_state c = record { layout = search (argument_layout, c.in_ok-check_argument.ensures, rules) }

pub check_state-requires : goal.check_state-requires
check_state-requires c = search (argued_good, c.in_ok-check_argument.ensures)

pub returns : goal.returns
returns c = search (asked_goes, rules)
