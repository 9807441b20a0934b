use borrow.Author.Rules.{rules}
use mathlib.Core.Path.{refl}
use Rattle.requests.proofs.StateLaws.{remove_room, remove_few, remove_marks, remove_asks}
use Rattle.requests.proofs.temporary_delete.temporary_delete.Goals as goal

pub read_places-p-requires : goal.read_places-p-requires
read_places-p-requires c = search (remove_room, c.in_ok-check_remove.ensures, rules)

pub invariant_of-mark_header : goal.invariant_of-mark_header
invariant_of-mark_header c = record { layout = (remove_marks _ _ _ _ _ _ c.in_ok-check_remove.ensures refl _ c.read_places-p.ensures).0 }

pub minus-requires : goal.minus-requires
minus-requires c = remove_few _ _ _ _ _ _ c.in_ok-check_remove.ensures refl

pub mark_header-requires : goal.mark_header-requires
mark_header-requires c = let asks = remove_marks _ _ _ _ _ _ c.in_ok-check_remove.ensures refl _ c.read_places-p.ensures in record { le_f = asks.1.0; header_in_body = asks.1.1 }

pub remove-requires : goal.remove-requires
remove-requires c = let asks = remove_asks _ _ _ _ _ _ c.in_ok-check_remove.ensures refl _ c.read_places-p.ensures in record { good_some = asks.0; parent = asks.1.0; f_value = asks.1.1.0; date_len = asks.1.1.1 }
