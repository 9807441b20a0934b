-- R1 "The three tables stand in the order zone, sector, index, from sector 2 on, without overlap, within S.
-- They take ceil(6Z/1024), ceil(Z/8), ceil(N/8) sectors. Tails of the first two are null."
use Rattle.std.specs.Prelude.{ℕ, ◌+◌, ◌-◌, ◌*◌, ◌/◌, ◌≤◌, List, length}
use Rattle.field.specs.Parts.{AllBytes}
use Rattle.tables.specs.declared.places.Places.{Places}

-- a / b, rounded up
abbrev pub ceil : ℕ → ℕ → ℕ
ceil a b = (a + (b - 1)) / b

-- the bytes that the three tables take, in whole sectors
abbrev pub zone_bytes : ℕ → ℕ
zone_bytes z = 1024 * ceil (6 * z) 1024

abbrev pub sector_bytes : ℕ → ℕ
sector_bytes z = 1024 * ceil z 8

abbrev pub index_bytes : ℕ → ℕ
index_bytes n = 1024 * ceil n 8

-- the first two sentences, for books of len bytes; gaps are lawful
pub record Stand (p : Places) (len : ℕ) : Type 0 where
  pub zone : 2048 ≤ p.zonetable
  pub sector : p.zonetable + zone_bytes p.zones ≤ p.sectortable
  pub index : p.sectortable + sector_bytes p.zones ≤ p.indextable
  pub end : p.indextable + index_bytes p.indexes ≤ len

-- the last sentence: what the zone and the sector table leave of their sectors
pub record Tails (p : Places) (b : List ℕ) : Type 0 where
  pub zone : AllBytes b (p.zonetable + 6 * p.zones) (zone_bytes p.zones - 6 * p.zones) 0
  pub sector : AllBytes b (p.sectortable + 128 * p.zones) (sector_bytes p.zones - 128 * p.zones) 0

pub record R1 (p : Places) (b : List ℕ) : Type 0 where
  pub stand : Stand p (length b)
  pub tails : Tails p b
