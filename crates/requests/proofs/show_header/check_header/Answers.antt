use borrow.Author.Rules.{rules}
use Rattle.tables.proofs.RefusalLaws.{refused}
use mathlib.Core.Path.{refl}
use Rattle.requests.specs.Header.{show_header_tests}
use Rattle.requests.proofs.BodyLaws.{body_other, body_goes}
use Rattle.requests.proofs.JudgedLaws.{use_good, use_room, use_stops, use_goes, use_layout}
use Rattle.requests.proofs.ShowHeaderLaws.{header_unusable, header_table, header_none, header_some}
use native.Mathlib.Omega.{arith}
use Rattle.requests.proofs.show_header.check_header.Goals as goal

pub returns-in_err-check_use : goal.returns-in_err-check_use
unfolding show_header_tests
returns-in_err-check_use c = search (use_stops, refused, rules)

pub body_sized-requires : goal.body_sized-requires
body_sized-requires c = search (use_good, c.in_ok-check_use.ensures, rules)

pub returns-then-not-body_sized : goal.returns-then-not-body_sized
unfolding show_header_tests
returns-then-not-body_sized c = search (use_goes, body_other, rules)

pub read_places-p-requires : goal.read_places-p-requires
read_places-p-requires c = search (use_room, c.in_ok-check_use.ensures, rules)

pub invariant_of-v : goal.invariant_of-v
invariant_of-v c = record { layout = search (use_layout, c.in_ok-check_use.ensures, rules) }

pub check_usable-requires : goal.check_usable-requires
check_usable-requires c = record { good_some = search (use_good, c.in_ok-check_use.ensures, rules); w_nonzero = omega arith }

pub returns-in_err-check_usable : goal.returns-in_err-check_usable
unfolding show_header_tests
returns-in_err-check_usable c = search (use_goes, body_goes, header_unusable, refused, rules)

pub table-requires : goal.table-requires
table-requires c = let asks = header_table _ _ _ _ c.in_ok-check_usable.ensures refl _ c.in_ok-check_use.ensures refl _ c.read_places-p.ensures in record { le_i = asks.1 }

pub returns-then-q-eq0 : goal.returns-then-q-eq0
unfolding show_header_tests
returns-then-q-eq0 c = search (use_goes, body_goes, header_none, rules)

pub returns : goal.returns
unfolding show_header_tests
returns c = search (use_goes, body_goes, header_some, rules)
