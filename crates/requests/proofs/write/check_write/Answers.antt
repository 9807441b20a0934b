use Rattle.requests.proofs.SearchRequestLaws.{argument_layout}
use borrow.Author.Rules.{rules}
use Rattle.tables.proofs.RefusalLaws.{refused}
use Rattle.requests.proofs.ArgumentLaws.{argument_good, argued_good, argument_room}
use Rattle.requests.proofs.BodyLaws.{body_other, body_goes}
use Rattle.requests.proofs.WriteLaws.{write_stops, write_goes, write_early, write_short, write_these}
use Rattle.requests.proofs.write.check_write.Goals as goal

pub returns-in_err-check_argument : goal.returns-in_err-check_argument
returns-in_err-check_argument c = search (write_stops, refused, rules)

pub body_sized-requires : goal.body_sized-requires
body_sized-requires c = search (argument_good, c.in_ok-check_argument.ensures, rules)

pub returns-then-not-body_sized : goal.returns-then-not-body_sized
returns-then-not-body_sized c = search (write_goes, body_other, rules)

pub read_places-p-requires : goal.read_places-p-requires
read_places-p-requires c = search (argument_room, c.in_ok-check_argument.ensures, rules)

pub invariant_of-check_move : goal.invariant_of-check_move
invariant_of-check_move c = record { layout = search (argument_layout, c.in_ok-check_argument.ensures, rules) }

pub check_move-requires : goal.check_move-requires
check_move-requires c = search (argued_good, write_early, write_short, c.in_ok-check_argument.ensures, rules)

pub returns : goal.returns
returns c = search (write_goes, body_goes, write_these, rules)
