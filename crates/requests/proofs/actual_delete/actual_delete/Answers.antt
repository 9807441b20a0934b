use borrow.Author.Rules.{rules}
use mathlib.Core.Path.{refl}
use Rattle.requests.proofs.StateLaws.{recover_room, recover_marks}
use Rattle.requests.proofs.DeleteLaws.{delete_asks}
use Rattle.requests.proofs.actual_delete.actual_delete.Goals as goal

pub read_places-p-requires : goal.read_places-p-requires
read_places-p-requires c = search (recover_room, c.in_ok-check_recover.ensures, rules)

pub invariant_of-mark_header : goal.invariant_of-mark_header
invariant_of-mark_header c = record { layout = (recover_marks _ _ _ _ _ _ c.in_ok-check_recover.ensures refl _ c.read_places-p.ensures).0 }

pub mark_header-requires : goal.mark_header-requires
mark_header-requires c = let asks = recover_marks _ _ _ _ _ _ c.in_ok-check_recover.ensures refl _ c.read_places-p.ensures in record { le_f = asks.1.0; header_in_body = asks.1.1 }

pub release_file-requires : goal.release_file-requires
release_file-requires c = let asks = delete_asks _ _ _ _ _ _ c.in_ok-check_recover.ensures refl _ c.read_places-p.ensures in record { layout = asks.0; lawful_some = asks.1.0; parent = asks.1.1.0; f_value = asks.1.1.1.0; date_len = asks.1.1.1.1 }
