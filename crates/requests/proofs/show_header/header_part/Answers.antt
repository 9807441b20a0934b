use Rattle.tables.proofs.RefusalLaws.{number_ok}
use borrow.Author.Rules.{rules}
use Rattle.requests.proofs.ShowHeaderLaws.{header_room, header_asks, header_low}
use Rattle.requests.proofs.show_header.header_part.Goals as goal

pub read_places-p-requires : goal.read_places-p-requires
read_places-p-requires c = search (header_room, rules)

pub invariant_of-table : goal.invariant_of-table
invariant_of-table c = record { layout = (header_asks _ _ _ _ _ c.check_header.ensures (number_ok _ (search rules)) _ c.read_places-p.ensures).0 }

pub table-requires : goal.table-requires
table-requires c = let asks = header_asks _ _ _ _ _ c.check_header.ensures (number_ok _ (search rules)) _ c.read_places-p.ensures in record { le_i = asks.1 }

pub body_place-requires : goal.body_place-requires
body_place-requires c = search (header_low, rules)
