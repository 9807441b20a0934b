-- Two views that rules R2 to R8 cannot tell apart: they agree on zones 1 to Z, sectors 0 to 1024 Z - 1, index tables 1 to N and the first free
-- index. Of other numbers nothing is asked, since there the readers run into another table's bytes; sector 1's counts and flag are R9's alone.
use Rattle.std.specs.Prelude.{◌≡◌, ℕ, ◌*◌, ◌≤◌, ◌<◌}
use Rattle.tables.specs.Views.{View}

pub record Same (v v' : View) : Type 0 where
  pub zones : v'.zones ≡ v.zones
  pub indexes : v'.indexes ≡ v.indexes
  pub zone : (z : ℕ) → 1 ≤ z → z ≤ v.zones → v'.zone z ≡ v.zone z
  pub bit : (s : ℕ) → s < 1024 * v.zones → v'.bit s ≡ v.bit s
  pub table : (i : ℕ) → 1 ≤ i → i ≤ v.indexes → v'.table i ≡ v.table i
  pub head : v'.head ≡ v.head

-- the part of it that rules R2 and R3 and the choice of blocks see: zone entries and sectors
pub record Ground (v v' : View) : Type 0 where
  pub zones : v'.zones ≡ v.zones
  pub zone : (z : ℕ) → 1 ≤ z → z ≤ v.zones → v'.zone z ≡ v.zone z
  pub bit : (s : ℕ) → s < 1024 * v.zones → v'.bit s ≡ v.bit s
