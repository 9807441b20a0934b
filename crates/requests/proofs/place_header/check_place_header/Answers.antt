use Rattle.tables.proofs.RefusalLaws.{refused}
use Rattle.requests.proofs.PlaceHeaderLaws.{placing_stops, placing_few, placing_unusable, placing_here, placing_full, placing_roomy}
use Rattle.requests.proofs.BodyLaws.{lent_good_at, lent_room, lent_layout}
use native.Mathlib.Omega.{arith}
use borrow.Author.Rules.{rules}
use Rattle.requests.proofs.place_header.check_place_header.Goals as goal

pub returns-in_err-check_lent : goal.returns-in_err-check_lent
returns-in_err-check_lent c = search (placing_stops, refused, rules)

pub read_places-p-requires : goal.read_places-p-requires
read_places-p-requires c = search (lent_room, c.in_ok-check_lent.ensures, rules)

pub invariant_of-v : goal.invariant_of-v
invariant_of-v c = record { layout = search (lent_layout, c.in_ok-check_lent.ensures, rules) }

pub check_usable-requires : goal.check_usable-requires
check_usable-requires c = record { good_some = search (lent_good_at, c.in_ok-check_lent.ensures, rules); w_nonzero = omega arith }

pub returns-in_err-check_usable : goal.returns-in_err-check_usable
returns-in_err-check_usable c = search (placing_unusable, refused, rules)

pub header_sectors-requires : goal.header_sectors-requires
header_sectors-requires c = search (placing_few, c.in_ok-check_lent.ensures, c.in_ok-check_usable.ensures, rules)

pub header_place-requires : goal.header_place-requires
header_place-requires c = record { le_n = search rules }

pub returns-in_default-clause-gate : goal.returns-in_default-clause-gate
returns-in_default-clause-gate c = search (placing_full, rules)

pub returns-clause-gate : goal.returns-clause-gate
returns-clause-gate c = search (placing_roomy, rules)

pub returns-clause-place : goal.returns-clause-place
returns-clause-place c = search (placing_here, rules)
