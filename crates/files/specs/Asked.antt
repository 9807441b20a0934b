-- What functions of this crate ask of a spot and of a table.
use Rattle.std.specs.Prelude.{◌≡◌, List, ℕ, ◌+◌, ◌-◌, ◌*◌, ◌≤◌, ◌<◌}
use Rattle.tables.specs.declared.places.Places.{Places}
use Rattle.tables.specs.Kinds.{zone_of}
use Rattle.tables.specs.Blocks.{ZoneType}
use Rattle.tables.specs.Indexes.{word_of, slots_of, start_of, count_of, header_start, header_count}
use Rattle.tables.specs.Views.{View}
use Rattle.files.specs.declared.spot.Spot.{Spot}
use Rattle.files.specs.Spots.{spot_start, spot_count}

-- the spot names a pointer's place in a table
pub record OnTable (v : View) (c : Spot) : Type 0 where
  pub low : 1 ≤ c.table.0
  pub high : c.table.0 ≤ v.indexes
  pub slot' : c.slot < slots_of c.table.0 (v.table c.table.0)

-- it is a sector under that pointer, between the system zones
pub record OnSector (v : View) (c : Spot) : Type 0 where
  pub table' : OnTable v c
  pub off' : c.off < spot_count v c
  pub from : 1024 ≤ spot_start v c
  pub to : spot_start v c + spot_count v c ≤ 1024 * (v.zones - 1)

-- the sectors under the pointers of table i, whose bytes are t, are sectors of the volume, and so are a parent's header's
pub record RunsWithin (p : Places) (i : ℕ) (t : List ℕ) : Type 0 where
  pub runs : (j : ℕ) → j < slots_of i t → start_of i t j + count_of i t j ≤ 1024 * p.zones
  pub header : word_of t ≡ i → header_start t + header_count t ≤ 1024 * p.zones

-- the c sectors from a on lie between the system zones, and their zone's entry can count them as free blocks of one sector
pub record Recountable (v : View) (a c : ℕ) : Type 0 where
  pub low : 1024 ≤ a
  pub high : a + c ≤ 1024 * (v.zones - 1)
  pub typed : ZoneType (v.zone (zone_of a)).ztype
  pub few : (v.zone (zone_of a)).free + c ≤ 1024
