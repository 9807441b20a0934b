use mathlib.Core.Path.{refl}
use Rattle.requests.proofs.PlaceHeaderLaws.{placed_few, placed_room, placing_layout, placing_at, placing_start, placing_low, placing_inside, placing_marks, placing_asks, placing_done}
use borrow.Author.Rules.{rules}
use Rattle.requests.proofs.place_header.place_header.Goals as goal

pub read_places-p-requires : goal.read_places-p-requires
read_places-p-requires c = search (placed_room, c.in_ok-k.ensures.gate, rules)

pub header_sectors-n-requires : goal.header_sectors-n-requires
header_sectors-n-requires c = search (placed_few, c.in_ok-k.ensures.gate, rules)

pub run_start-requires : goal.run_start-requires
run_start-requires c =
    placing_start _ _ _ _ _ _ _ c.in_ok-k.ensures.gate refl _ c.read_places-p.ensures _ c.header_sectors-n.ensures.0 _
    (placing_at _ _ _ _ _ _ _ c.in_ok-k.ensures.gate refl _ c.read_places-p.ensures _ c.header_sectors-n.ensures.0 _ c.in_ok-k.ensures.place.0)

pub body_place-requires : goal.body_place-requires
body_place-requires c = search (placing_low, c.in_ok-k.ensures.gate, rules)

pub lay_header-requires : goal.lay_header-requires
lay_header-requires c =
    let inside = placing_inside _ _ _ _ _ _ _ c.in_ok-k.ensures.gate refl _ c.read_places-p.ensures _
    c.header_sectors-n.ensures.0 _ (placing_at _ _ _ _ _ _ _ c.in_ok-k.ensures.gate refl _ c.read_places-p.ensures _ c.header_sectors-n.ensures.0 _ c.in_ok-k.ensures.place.0) _ c.run_start.ensures _ c.body_place.ensures in record { bytes_in_bounds = inside; bytes_len_bound = search (placed_few, rules) }

pub invariant_of-mark_header : goal.invariant_of-mark_header
invariant_of-mark_header c = record { layout = search (placing_layout, c.in_ok-k.ensures.gate, rules) }

pub mark_header-requires : goal.mark_header-requires
mark_header-requires c =
    let asks = placing_marks _ _ _ _ _ _ _ c.in_ok-k.ensures.gate refl _ c.read_places-p.ensures c.lay_header.new.body c.lay_header.auto.body in record { le_f = asks.1.0; header_in_body = asks.1.1 }

pub put_headed-requires : goal.put_headed-requires
put_headed-requires c =
    let asks = placing_asks _ _ _ _ _ _ _ c.in_ok-k.ensures.gate refl _ c.read_places-p.ensures _ c.header_sectors-n.ensures.0 _
    (placing_at _ _ _ _ _ _ _ c.in_ok-k.ensures.gate refl _ c.read_places-p.ensures _ c.header_sectors-n.ensures.0 _ c.in_ok-k.ensures.place.0) in record { good_some = asks.0; parent = asks.1.0; le_n = asks.1.1.0; k_value = asks.1.1.1.0; date_len = asks.1.1.1.1 }

pub returns : goal.returns
returns c = search (placing_done, rules)
