-- "12 is answered exactly when no set of distinct free blocks, with each open zone given one type, supplies the counts."
-- The choice as this sentence has it, and the criterion over the zone table that it comes to (proofs/RoomLaws). The counts are a function
-- of the type, 3 to 8.
use Rattle.std.specs.Prelude.{◌≡◌, Bool, true, cond, ℕ, ◌+◌, ◌-◌, ◌*◌, ◌≤◌, ◌<◌, List, eqb, get_or}
use Rattle.field.specs.Sum.{sum_to}
use Rattle.tables.specs.declared.zone.ZoneEntry.{ZoneEntry}
use Rattle.tables.specs.Kinds.{first_of}
use Rattle.tables.specs.Blocks.{DataType, type_at, block_of, per_zone}
use Rattle.tables.specs.Each.{Each}
use Rattle.tables.specs.Views.{View, only_if}
use Rattle.tables.specs.Open.{is_open, open_zones}
use Rattle.tables.specs.Rules.R1.{ceil}

-- the count for type t in a list of the six, H to C
abbrev pub count_at : List ℕ → ℕ → ℕ
count_at counts t = get_or counts (8 - t) 0

-- ---- the choice

-- the type of zone z where each open zone has the type given: its own if it is not open
unfoldable pub type_in : View → (ℕ → ℕ) → ℕ → ℕ
type_in v given z = cond (is_open (v.zone z)) (given z) (v.zone z).ztype

-- (z, k) is a free block: block k of zone z, one of 2 to Z - 1 that is of type 3-8, and the bits of its sectors are clear
pub record FreeBlock (v : View) (given : ℕ → ℕ) (z k : ℕ) : Type 0 where
  pub low : 2 ≤ z
  pub high : z < v.zones
  pub typed : DataType (type_in v given z)
  pub within : k < per_zone (type_in v given z)
  pub clear : (j : ℕ) → j < block_of (type_in v given z) → v.bit (first_of z + k * block_of (type_in v given z) + j) ≡ 0

-- how many of the taken blocks are of type t
unfoldable pub taken_of : View → (ℕ → ℕ) → (ℕ → ℕ → Bool) → ℕ → ℕ
taken_of v given taken t =
    sum_to (v.zones - 2) (λ i. only_if (eqb (type_in v given (i + 2)) t) (sum_to (per_zone t) (λ k. only_if (taken (i + 2) k) 1)))

-- "a set of distinct free blocks, with each open zone given one type, supplies the counts": the set is a test of zone and block,
-- so that its members are distinct
pub record Supply (v : View) (c : ℕ → ℕ) : Type 0 where
  pub given : ℕ → ℕ
  pub types : Each (λ z. is_open (v.zone z) ≡ true → DataType (given z)) 2 v.zones
  pub taken : ℕ → ℕ → Bool
  pub free : (z k : ℕ) → taken z k ≡ true → FreeBlock v given z k
  pub supplies : (t : ℕ) → DataType t → taken_of v given taken t ≡ c t

-- ---- the criterion

-- the free blocks that a zone with this entry has for type t, unless it is open: R3 makes the entry's number true
unfoldable pub spare_in : ℕ → ZoneEntry → ℕ
spare_in t e = cond (is_open e) 0 (only_if (eqb e.ztype t) e.free)

-- those of zones 2 to Z - 1
unfoldable pub spare_of : View → ℕ → ℕ
spare_of v t = sum_to (v.zones - 2) (λ i. spare_in t (v.zone (i + 2)))

-- the open zones that n blocks of type t take besides
unfoldable pub lack_of : View → ℕ → ℕ → ℕ
lack_of v t n = ceil (n - spare_of v t) (per_zone t)

-- the open zones are enough for what all six types lack
abbrev pub Enough : View → (ℕ → ℕ) → Type 0
Enough v c = sum_to 6 (λ k. lack_of v (type_at k) (c (type_at k))) ≤ open_zones v
