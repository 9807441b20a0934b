-- A run of sectors by the zones it meets: what rule R6 says of a run, zone by zone.
use Rattle.std.specs.Prelude.{◌≡◌, ◌⊎◌, ℕ, ◌+◌, ◌-◌, ◌*◌, ◌%◌, ◌≤◌, ◌<◌}
use Rattle.tables.specs.Kinds.{zone_of, first_of}
use Rattle.tables.specs.Blocks.{DataType, block_of, Whole}
use Rattle.tables.specs.Each.{Each}
use Rattle.tables.specs.Views.{View, cov}

-- the c sectors from a on, one at least, lie between zones 1 and Z
pub record Inside (zones a c : ℕ) : Type 0 where
  pub some : 1 ≤ c
  pub low : 1024 ≤ a
  pub high : a + c ≤ 1024 * (zones - 1)

-- they lie in one zone
pub record Lone (a c : ℕ) : Type 0 where
  pub some : 1 ≤ c
  pub one : a % 1024 + c ≤ 1024

-- one of them at least lies in the zone whose first sector is `from`
pub record Meets (a c from : ℕ) : Type 0 where
  pub some : 1 ≤ c
  pub low : a < from + 1024
  pub high : from < a + c

-- before sector `end` an edge of the blocks of the zone whose first sector is `from`, or the zone's end
abbrev pub Edge : ℕ → ℕ → ℕ → Type 0
Edge end from size = (from + 1024 ≤ end) ⊎ ((end - from) % size ≡ 0)

-- "lies in zones of type 3-8; its part in each zone is whole blocks", of zone z
pub record Part (v : View) (a c z : ℕ) : Type 0 where
  pub typed : DataType (v.zone z).ztype
  pub whole : Whole (cov a c) (first_of z) (block_of (v.zone z).ztype)

-- the same of each zone from that of the first sector to that of the last
abbrev pub Parts : View → ℕ → ℕ → Type 0
Parts v a c = Each (Part v a c) (zone_of a) (zone_of (a + c - 1) + 1)
