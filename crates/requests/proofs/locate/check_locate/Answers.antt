use borrow.Author.Rules.{rules}
use Rattle.tables.proofs.RefusalLaws.{refused}
use Rattle.requests.specs.Locate.{locate_tests}
use Rattle.requests.proofs.JudgedLaws.{use_good, use_room, use_layout, use_stops, use_goes}
use Rattle.requests.proofs.LocateLaws.{sector_refused, sector_past, sector_fine}
use Rattle.requests.proofs.locate.check_locate.Goals as goal

pub returns-in_err-check_use : goal.returns-in_err-check_use
unfolding locate_tests
returns-in_err-check_use c = search (use_stops, refused, rules)

pub read_places-p-requires : goal.read_places-p-requires
read_places-p-requires c = search (use_room, c.in_ok-check_use.ensures, rules)

pub invariant_of-v : goal.invariant_of-v
invariant_of-v c = record { layout = search (use_layout, c.in_ok-check_use.ensures, rules) }

pub check_state-requires : goal.check_state-requires
check_state-requires c = search (use_good, c.in_ok-check_use.ensures, rules)

pub returns-in_err-check_state : goal.returns-in_err-check_state
unfolding locate_tests
returns-in_err-check_state c = search (use_goes, sector_refused, refused, rules)

pub returns-then-k-file_sectors : goal.returns-then-k-file_sectors
unfolding locate_tests
returns-then-k-file_sectors c = search (use_goes, sector_past, rules)

pub returns : goal.returns
unfolding locate_tests
returns c = search (use_goes, sector_fine, rules)
