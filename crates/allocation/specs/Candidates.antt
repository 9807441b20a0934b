-- What the functions that choose and take a block ask of it, and what the choice answers.
use Rattle.std.specs.Prelude.{◌≡◌, false, ℕ, ◌≤◌, ◌<◌}
use Rattle.tables.specs.Blocks.{DataType, per_zone}
use Rattle.tables.specs.Views.{View}
use Rattle.allocation.specs.declared.choice.Choice.{Choice}
use Rattle.allocation.specs.declared.choice.Found.{Found}
use Rattle.allocation.specs.declared.tail.Tail.{Tail}
use Rattle.allocation.specs.Choice.{begun, is_clear, choose}

-- a block that may be taken
pub record Proper (v : View) (t : ℕ) (k : Found) : Type 0 where
  pub typed : DataType t
  pub low : 2 ≤ k.zone.0
  pub high : k.zone.0 < v.zones
  pub within : k.number < per_zone t
  pub free : k.free < per_zone t

-- no zone below k's has a free block of type t without being open, and k's zone has no free block below k
pub record Behind (v : View) (t : ℕ) (k : Found) : Type 0 where
  pub low : 2 ≤ k.zone.0
  pub high : k.zone.0 ≤ v.zones
  pub zones : (z : ℕ) → z < k.zone.0 → 2 ≤ z → begun v t z ≡ false
  pub blocks : (j : ℕ) → j < k.number → is_clear v t k.zone.0 j ≡ false
  pub number : k.number ≤ per_zone t

-- r is the block chosen after the tail l, and where the search for the next one of its type may begin: in no higher zone, so that it may
-- begin there also once the block is taken
pub record Chooses (v : View) (l : Tail) (t : ℕ) (r : Choice) : Type 0 where
  pub block : r.block ≡ choose v l t
  pub behind : Behind v t r.from
  pub before : r.from.zone.0 ≤ r.block.zone.0
