use Rattle.tables.proofs.RefusalLaws.{number_ok}
use borrow.Author.Rules.{rules}
use Rattle.requests.proofs.LocateLaws.{show_room, show_asks}
use Rattle.requests.proofs.show.show_part.Goals as goal

pub read_places-p-requires : goal.read_places-p-requires
read_places-p-requires c = search (show_room, rules)

pub invariant_of-kth_sector : goal.invariant_of-kth_sector
invariant_of-kth_sector c = record { layout = (show_asks _ _ _ _ _ _ c.check_show.ensures (number_ok _ (search rules)) _ c.read_places-p.ensures).0.1.layout }

pub kth_sector-requires : goal.kth_sector-requires
kth_sector-requires c = let asks = show_asks _ _ _ _ _ _ c.check_show.ensures (number_ok _ (search rules)) _ c.read_places-p.ensures in record { good_some = asks.0; parent = asks.1.0; k_bound = asks.1.1 }
