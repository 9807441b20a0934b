use Rattle.requests.proofs.SearchRequestLaws.{argument_layout}
use Rattle.tables.proofs.RefusalLaws.{refused}
use Rattle.requests.proofs.ArgumentLaws.{argument_good, argued_good, argument_room}
use Rattle.requests.proofs.BodyLaws.{body_other, body_goes}
use Rattle.requests.proofs.ReadLaws.{read_stops, read_goes, read_unusable, read_past, read_fine}
use Rattle.requests.proofs.NamedLaws.{usable_parent}
use borrow.Author.Rules.{rules}
use Rattle.requests.proofs.read.check_read.Goals as goal

pub returns-in_err-check_argument : goal.returns-in_err-check_argument
returns-in_err-check_argument c = search (read_stops, refused, rules)

pub body_sized-requires : goal.body_sized-requires
body_sized-requires c = search (argument_good, c.in_ok-check_argument.ensures, rules)

pub returns-then-not-body_sized : goal.returns-then-not-body_sized
returns-then-not-body_sized c = search (read_goes, body_other, rules)

pub read_places-p-requires : goal.read_places-p-requires
read_places-p-requires c = search (argument_room, c.in_ok-check_argument.ensures, rules)

pub invariant_of-v : goal.invariant_of-v
invariant_of-v c = record { layout = search (argument_layout, c.in_ok-check_argument.ensures, rules) }

pub check_usable-requires : goal.check_usable-requires
check_usable-requires c = record { good_some = search (argued_good, c.in_ok-check_argument.ensures, rules); w_nonzero = search rules }

pub returns-in_err-check_usable : goal.returns-in_err-check_usable
returns-in_err-check_usable c = search (read_goes, body_goes, read_unusable, refused, rules)

pub end_of-requires : goal.end_of-requires
end_of-requires c = search (argued_good, usable_parent, c.in_ok-check_argument.ensures, c.in_ok-check_usable.ensures, rules)

pub returns-then-unwrap_or-end_of : goal.returns-then-unwrap_or-end_of
returns-then-unwrap_or-end_of c = search (read_goes, body_goes, read_past, rules)

pub returns : goal.returns
returns c = search (read_goes, body_goes, read_fine, rules)
