-- Where the tables stand.
use Rattle.std.specs.Prelude.{ℕ, ◌+◌, ◌*◌, ◌≤◌, List}
use Rattle.tables.specs.declared.places.Places.{Places}
use Rattle.tables.specs.Sector0.{zones_of, zone_start_of, sector_start_of, index_start_of}
use Rattle.tables.specs.Sector1.{indexes_of}

-- what sectors 0 and 1 of the books say; a start sector becomes the byte it begins at
abbrev pub places_of : List ℕ → Places
places_of b = record {
  zones = zones_of b;
  indexes = indexes_of b;
  zonetable = 1024 * zone_start_of b;
  sectortable = 1024 * sector_start_of b;
  indextable = 1024 * index_start_of b;
}

-- the tables that the places name stand within books of len bytes: Z zone entries, a bit for each of 1024 Z sectors, N index tables,
-- after sectors 0 and 1 and one after the other, in sizes that are allowed
pub record Layout (p : Places) (len : ℕ) : Type 0 where
  pub least : 3 ≤ p.zones
  pub most : p.zones ≤ 256
  pub some : 1 ≤ p.indexes
  pub few : p.indexes ≤ 4096
  pub zone : 2048 ≤ p.zonetable
  pub sector : p.zonetable + 6 * p.zones ≤ p.sectortable
  pub index : p.sectortable + 128 * p.zones ≤ p.indextable
  pub end : p.indextable + 128 * p.indexes ≤ len
  pub small : len ≤ 1048576
