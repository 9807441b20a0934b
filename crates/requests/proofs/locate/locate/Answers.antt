use borrow.Author.Rules.{rules}
use Rattle.requests.proofs.LocateLaws.{locate_room, locate_asks}
use Rattle.requests.proofs.locate.locate.Goals as goal

pub read_places-p-requires : goal.read_places-p-requires
read_places-p-requires c = search (locate_room, c.in_ok-check_locate.ensures, rules)

pub invariant_of-kth_sector : goal.invariant_of-kth_sector
invariant_of-kth_sector c = record { layout = (locate_asks _ _ _ _ c.in_ok-check_locate.ensures _ c.read_places-p.ensures).0.1.layout }

pub kth_sector-requires : goal.kth_sector-requires
kth_sector-requires c = let asks = locate_asks _ _ _ _ c.in_ok-check_locate.ensures _ c.read_places-p.ensures in record { good_some = asks.0; parent = asks.1.0; k_bound = asks.1.1 }
