-- "A list of withheld blocks, strictly ascending by first sector, at most 512, the same throughout, is lent read-only with each request but
-- format." (W7) A block is named by its first sector; how many sectors it has, its zone's type says, "by the zone table as it reads".
use Rattle.std.specs.Prelude.{◌≡◌, List, ℕ, suc, ◌+◌, ◌-◌, ◌*◌, ◌%◌, ◌≤◌, ◌<◌, get_or, length}
use Rattle.field.specs.Sum.{sum_to}
use Rattle.tables.specs.Kinds.{zone_of}
use Rattle.tables.specs.Blocks.{DataType, block_of}
use Rattle.tables.specs.Views.{View, cov}

-- the sectors of a block that begins at sector s
abbrev pub block_at : View → ℕ → ℕ
block_at v s = block_of (v.zone (zone_of s)).ztype

-- sector s starts "a block of a type 3-8 zone"
pub record StartsBlock (v : View) (s : ℕ) : Type 0 where
  pub inside : s < 1024 * v.zones
  pub typed : DataType (v.zone (zone_of s)).ztype
  pub start : s % 1024 % block_at v s ≡ 0

-- "More, unordered, or not starting a block of a type 3-8 zone is 7"
pub record Withholds (v : View) (withheld : List ℕ) : Type 0 where
  pub few : length withheld ≤ 512
  pub ascending : (k : ℕ) → suc k < length withheld → get_or withheld k 0 < get_or withheld (suc k) 0
  pub starts : (k : ℕ) → k < length withheld → StartsBlock v (get_or withheld k 0)

-- how many of the withheld blocks lie over sector s
unfoldable pub withheld_over : View → List ℕ → ℕ → ℕ
withheld_over v withheld s = sum_to (length withheld) (λ k. cov (get_or withheld k 0) (block_at v (get_or withheld k 0)) s)

-- sector s is of a withheld block, the k-th
pub record WithheldAt (v : View) (withheld : List ℕ) (k s : ℕ) : Type 0 where
  pub one : k < length withheld
  pub from : get_or withheld k 0 ≤ s
  pub to : s < get_or withheld k 0 + block_at v (get_or withheld k 0)

-- it is a withheld sector
abbrev pub Withheld : View → List ℕ → ℕ → Type 0
Withheld v withheld s = (k : ℕ) × WithheldAt v withheld k s

-- "a zone with a withheld block keeps its type": between v and v' every zone outside 1 and Z does that has a sector which is set besides
abbrev pub KeepsTypes : (ℕ → ℕ) → View → View → Type 0
KeepsTypes extra v v' = (s : ℕ) → s < 1024 * (v.zones - 1) → 1024 ≤ s → 0 < extra s → (v'.zone (zone_of s)).ztype ≡ (v.zone (zone_of s)).ztype
