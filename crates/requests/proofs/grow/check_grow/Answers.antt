use Rattle.requests.proofs.SearchRequestLaws.{argument_layout}
use borrow.Author.Rules.{rules}
use Rattle.tables.proofs.RefusalLaws.{refused}
use Rattle.requests.proofs.ArgumentLaws.{argued_good, argument_room}
use Rattle.requests.proofs.GrowLaws.{grow_stops, grow_goes}
use Rattle.requests.proofs.grow.check_grow.Goals as goal

pub returns-in_err-check_argument : goal.returns-in_err-check_argument
returns-in_err-check_argument c = search (grow_stops, refused, rules)

pub read_places-p-requires : goal.read_places-p-requires
read_places-p-requires c = search (argument_room, c.in_ok-check_argument.ensures, rules)

pub invariant_of-check_file : goal.invariant_of-check_file
invariant_of-check_file c = record { layout = search (argument_layout, c.in_ok-check_argument.ensures, rules) }

pub check_file-requires : goal.check_file-requires
check_file-requires c = search (argued_good, c.in_ok-check_argument.ensures, rules)

pub returns : goal.returns
returns c = search (grow_goes, rules)
