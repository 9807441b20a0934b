-- "Types 3 to 8 are C to H, with blocks of 1, 4, 16, 64, 256, 1024 sectors." "Zone type 2 (B) becomes lawful, free field = free sectors" (W1):
-- a zone of type 2 has blocks of one sector.
use Rattle.std.specs.Prelude.{◌≡◌, Bool, ◌&&◌, List, [], ◌∷◌, ℕ, ◌+◌, ◌-◌, ◌*◌, ◌/◌, ◌≤◌, ◌<◌, leb, get_or}

-- a type that a zone in use may have, 2 to 8: what R2, R3, open zones and the giving back of blocks ask
pub record ZoneType (t : ℕ) : Type 0 where
  pub low : 2 ≤ t
  pub high : t ≤ 8

-- the same as a test
unfoldable pub is_zone_type : ℕ → Bool
is_zone_type t = leb 2 t && leb t 8

-- a type of the zones in which files lie, "C to H": what R6 asks of a run ("lies in zones of type 3-8"), and what counts and room ask
pub record DataType (t : ℕ) : Type 0 where
  pub low : 3 ≤ t
  pub high : t ≤ 8

-- the type of the zones in which headers lie, "Zone type 2 (B)"
abbrev pub header_type : ℕ
header_type = 2

-- the six types in order, C to H, by how many come before; lists of counts run from H to C, so the type of a list's head is the one at the
-- length of its tail
abbrev pub type_at : ℕ → ℕ
type_at k = k + 3

-- one sector for type 2, then "blocks of 1, 4, 16, 64, 256, 1024 sectors", by type from 2 on
abbrev pub block_sizes : List ℕ
block_sizes = 1 ∷ 1 ∷ 4 ∷ 16 ∷ 64 ∷ 256 ∷ 1024 ∷ []

-- the sectors of a block of zones of type t; one for a number that is no type, so that no block is empty
unfoldable pub block_of : ℕ → ℕ
block_of t = get_or block_sizes (t - 2) 1

-- the blocks of a zone of type t
abbrev pub per_zone : ℕ → ℕ
per_zone t = 1024 / block_of t

-- a zone is made of whole blocks of so many sectors: all that is ever used of the sizes
pub record Block (size : ℕ) : Type 0 where
  pub some : 0 < size
  pub whole : 1024 / size * size ≡ 1024

-- f has one value on each block of `size` sectors of the zone whose first sector is `from`
abbrev pub Whole : (ℕ → ℕ) → ℕ → ℕ → Type 0
Whole f from size = (k : ℕ) → k < 1024 / size → (j : ℕ) → j < size → f (from + k * size + j) ≡ f (from + k * size)
