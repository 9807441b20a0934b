use borrow.Author.Rules.{rules}
use mathlib.Core.Path.{refl}
use Rattle.requests.proofs.StateLaws.{protect_room, protect_asks}
use Rattle.requests.proofs.set_protection.set_protection.Goals as goal

pub read_places-p-requires : goal.read_places-p-requires
read_places-p-requires c = search (protect_room, c.in_ok-check_protect.ensures, rules)

pub protect-requires : goal.protect-requires
protect-requires c = let asks = protect_asks _ _ _ _ _ _ c.in_ok-check_protect.ensures refl _ c.read_places-p.ensures in record { good_some = asks.0; parent = asks.1.0; w_bound = asks.1.1 }
