use borrow.Author.Rules.{rules}
use Rattle.tables.proofs.RefusalLaws.{refused}
use Rattle.requests.proofs.StateLaws.{remove_stops, remove_goes}
use Rattle.requests.proofs.BodyLaws.{lent_good_at, lent_room, lent_layout}
use native.Mathlib.Omega.{arith}
use Rattle.requests.proofs.temporary_delete.check_remove.Goals as goal

pub returns-in_err-check_lent : goal.returns-in_err-check_lent
returns-in_err-check_lent c = search (remove_stops, refused, rules)

pub read_places-p-requires : goal.read_places-p-requires
read_places-p-requires c = search (lent_room, c.in_ok-check_lent.ensures, rules)

pub invariant_of-check_usable : goal.invariant_of-check_usable
invariant_of-check_usable c = record { layout = search (lent_layout, c.in_ok-check_lent.ensures, rules) }

pub check_usable-requires : goal.check_usable-requires
check_usable-requires c = record { good_some = search (lent_good_at, c.in_ok-check_lent.ensures, rules); w_nonzero = omega arith }

pub returns : goal.returns
returns c = search (remove_goes, rules)
