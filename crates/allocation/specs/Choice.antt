-- "Blocks are taken type H first, C last, one at a time: the lowest free block of the lowest zone of that type that isn't open; else the
-- lowest open zone gets the type and gives block 0." "Before the usual choice, try the block that starts where the file's last pointer ends, if
-- it is free, of the wanted type, in a zone that isn't open; a new file's first block is chosen as before." (W4)
use Rattle.std.specs.Prelude.{Bool, cond, not, ◌&&◌, List, [], ◌∷◌, ◌++◌, ℕ, ◌+◌, ◌-◌, ◌*◌, ◌/◌, ◌%◌, eqb, leb, ltb, length, replicate}
use Rattle.tables.specs.declared.places.Places.{Places}
use Rattle.tables.specs.declared.zone.ZoneEntry.{ZoneEntry}
use Rattle.tables.specs.Kinds.{zone_of, first_of}
use Rattle.tables.specs.Blocks.{type_at, block_of, per_zone}
use Rattle.tables.specs.Zones.{put_zone}
use Rattle.tables.specs.Sectors.{put_sectors}
use Rattle.tables.specs.Views.{View}
use Rattle.tables.specs.Open.{is_open}
use Rattle.tables.specs.Room.{spare_in}
use Rattle.allocation.specs.declared.choice.Found.{Found}
use Rattle.allocation.specs.declared.tail.Tail.{Tail}
use Rattle.allocation.specs.Find.{find}
use Rattle.allocation.specs.NextPointer.{end_sector}

-- "type H first, C last": the types of the blocks that are counted H to C
unfoldable pub in_order : List ℕ → List ℕ
in_order [] = []
in_order (n ∷ ns) = replicate n (type_at (length ns)) ++ in_order ns

-- "one at a time": a step for each type of the list
unfoldable pub in_turn : {A : Type 0} → (ℕ → A → A) → List ℕ → A → A
in_turn step [] x = x
in_turn step (t ∷ ts) x = in_turn step ts (step t x)

-- ---- the next block

-- zone z is of type t, isn't open and has a free block
unfoldable pub begun : View → ℕ → ℕ → Bool
begun v t z = ltb 0 (spare_in t (v.zone z))

-- the lowest such zone, Z where there is none
unfoldable pub lowest_begun : View → ℕ → ℕ
unfolding begun find
lowest_begun v t = find (begun v t) (v.zones - 2) 2

-- the lowest open zone, Z where there is none
unfoldable pub lowest_open : View → ℕ
unfolding find
lowest_open v = find (λ z. is_open (v.zone z)) (v.zones - 2) 2

-- block k of zone z, of type t, is free: its first sector's bit is clear, and by R3 the others' too
unfoldable pub is_clear : View → ℕ → ℕ → ℕ → Bool
is_clear v t z k = eqb (v.bit (first_of z + k * block_of t)) 0

-- the zone's lowest free block
unfoldable pub lowest_clear : View → ℕ → ℕ → ℕ
unfolding is_clear find
lowest_clear v t z = find (is_clear v t z) (per_zone t) 0

-- a block, by its zone, its number in the zone, and the free blocks that the zone has without it
unfoldable pub begun_block : View → ℕ → ℕ → Found
unfolding lowest_clear
begun_block v t z = record { zone = record { 0 = z }; number = lowest_clear v t z; free = (v.zone z).free - 1 }

unfoldable pub open_block : View → ℕ → Found
unfolding lowest_open
open_block v t = record { zone = record { 0 = lowest_open v }; number = 0; free = per_zone t - 1 }

unfoldable pub next_block : View → ℕ → Found
unfolding lowest_begun begun_block open_block
next_block v t =
    let z = lowest_begun v t in
    let here = begun_block v t z in
    let there = open_block v t in
    cond (ltb z v.zones) here there

-- ---- the neighbour

-- "a zone that has the wanted type and isn't open"
unfoldable pub of_type : ℕ → ZoneEntry → Bool
unfolding is_open
of_type t e = eqb e.ztype t && not (is_open e)

-- "If e starts a block of a zone that has the wanted type and isn't open, and that block is free": e is the sector behind the last pointer's
-- last, in neither of the system zones 1 and Z; the block is free where the bit of e is clear, and by R3 the others' too. A new file has no
-- pointer, and its tail ends at sector 0
unfoldable pub has_neighbour : View → Tail → ℕ → Bool
unfolding of_type
has_neighbour v l t =
    let e = end_sector l in
    leb 1024 e && (ltb e (1024 * (v.zones - 1)) && (of_type t (v.zone (zone_of e)) && (eqb (e % 1024 % block_of t) 0 && eqb (v.bit e) 0)))

-- that block
unfoldable pub neighbour : View → Tail → ℕ → Found
neighbour v l t =
    let z = zone_of (end_sector l) in
    record { zone = record { 0 = z }; number = end_sector l % 1024 / block_of t; free = (v.zone z).free - 1 }

-- the block of type t that is added after the tail l: "it is taken. Else the usual choice."
unfoldable pub choose : View → Tail → ℕ → Found
unfolding has_neighbour neighbour next_block
choose v l t =
    let here = neighbour v l t in
    let there = next_block v t in
    cond (has_neighbour v l t) here there

-- ---- taken

-- the first sector of a block of type t
unfoldable pub block_start : ℕ → Found → ℕ
block_start t k = first_of k.zone.0 + k.number * block_of t

-- the books with it taken: its zone's entry, and its sectors in use
unfoldable pub put_block : Places → List ℕ → ℕ → Found → List ℕ
unfolding block_start
put_block p b t k = put_sectors p (put_zone p b k.zone.0 t k.free 0) (block_start t k) (block_of t) 1
