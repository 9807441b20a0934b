use borrow.Author.Rules.{rules}
use Rattle.tables.proofs.RefusalLaws.{refused}
use Rattle.requests.proofs.StateLaws.{recover_stops, recover_goes}
use Rattle.requests.proofs.BodyLaws.{lent_good_at, lent_room, lent_layout}
use Rattle.requests.proofs.deleted.check_recover.Goals as goal

pub returns-in_err-check_lent : goal.returns-in_err-check_lent
returns-in_err-check_lent c = search (recover_stops, refused, rules)

pub read_places-p-requires : goal.read_places-p-requires
read_places-p-requires c = search (lent_room, c.in_ok-check_lent.ensures, rules)

pub invariant_of-check_state : goal.invariant_of-check_state
invariant_of-check_state c = record { layout = search (lent_layout, c.in_ok-check_lent.ensures, rules) }

pub check_state-requires : goal.check_state-requires
check_state-requires c = search (lent_good_at, c.in_ok-check_lent.ensures, rules)

pub returns : goal.returns
returns c = search (recover_goes, rules)
