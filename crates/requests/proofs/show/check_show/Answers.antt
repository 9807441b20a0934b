use borrow.Author.Rules.{rules}
use Rattle.tables.proofs.RefusalLaws.{refused}
use Rattle.requests.specs.Show.{show_tests}
use Rattle.requests.proofs.BodyLaws.{body_other, body_goes}
use Rattle.requests.proofs.JudgedLaws.{use_good, use_room, use_layout, use_stops, use_goes}
use Rattle.requests.proofs.LocateLaws.{sector_refused, sector_past, sector_fine}
use native.Mathlib.Omega.{arith}
use Rattle.requests.proofs.show.check_show.Goals as goal

pub returns-in_err-check_use : goal.returns-in_err-check_use
unfolding show_tests
returns-in_err-check_use c = search (use_stops, refused, rules)

pub body_sized-requires : goal.body_sized-requires
body_sized-requires c = search (use_good, c.in_ok-check_use.ensures, rules)

pub returns-then-not-body_sized : goal.returns-then-not-body_sized
unfolding show_tests
returns-then-not-body_sized c = search (use_goes, body_other, rules)

pub read_places-p-requires : goal.read_places-p-requires
read_places-p-requires c = search (use_room, c.in_ok-check_use.ensures, rules)

pub invariant_of-v : goal.invariant_of-v
invariant_of-v c = record { layout = search (use_layout, c.in_ok-check_use.ensures, rules) }

pub check_usable-requires : goal.check_usable-requires
check_usable-requires c = record { good_some = search (use_good, c.in_ok-check_use.ensures, rules); w_nonzero = omega arith }

pub returns-in_err-check_usable : goal.returns-in_err-check_usable
unfolding show_tests
returns-in_err-check_usable c = search (use_goes, body_goes, sector_refused, refused, rules)

pub returns-then-k-file_sectors : goal.returns-then-k-file_sectors
unfolding show_tests
returns-then-k-file_sectors c = search (use_goes, body_goes, sector_past, rules)

pub returns : goal.returns
unfolding show_tests
returns c = search (use_goes, body_goes, sector_fine, rules)
