-- The marks by which R7 is examined: a table of bits of their own, one a sector, 64 a word, to which the run of each pointer and of each
-- header pointer is added.
use Rattle.std.specs.Prelude.{◌≡◌, Bool, true, false, ℕ, ◌+◌, ◌-◌, ◌*◌, ◌/◌, ◌%◌, ◌≤◌, ◌<◌, List, get_or, length}
use Rattle.field.specs.Numbers.{u16_at, u32_at}
use Rattle.field.specs.Bits.{bit_of}
use Rattle.field.specs.Sum.{sum_to}
use Rattle.tables.specs.declared.places.Places.{Places}
use Rattle.tables.specs.Sectors.{sector_at}
use Rattle.tables.specs.Indexes.{word_of, slots_of, start_of, count_of, header_start, header_count}
use Rattle.tables.specs.Views.{View, cov, claims_of}

-- ---- a word of marks

-- the w marks from mark `at` on stand in one word
pub record InWord (at w : ℕ) : Type 0 where
  pub some : 0 < w
  pub high : at % 64 + w ≤ 64

-- so many of the marks that are left
pub record Piece (at left w : ℕ) : Type 0 where
  pub few : w ≤ left
  pub one : InWord at w

-- ---- the table of marks

-- sector n's mark, the lowest n at the highest bit as in the sector table
unfoldable pub mark_at : List ℕ → ℕ → ℕ
mark_at m n = bit_of (get_or m (n / 64) 0) (63 - n % 64)

-- the word of the eight bytes from o on
unfoldable pub word_at : List ℕ → ℕ → ℕ
word_at b o = u32_at b o * 4294967296 + u32_at b (o + 4)

-- the marks of m' are those of m and D
pub record MarksAdded (m m' : List ℕ) (D : ℕ → ℕ) : Type 0 where
  pub len : length m' ≡ length m
  pub bits : (n : ℕ) → mark_at m' n ≡ mark_at m n + D n

-- the marks are D
pub record MarksAre (m : List ℕ) (D : ℕ → ℕ) : Type 0 where
  pub long : length m ≡ 4096
  pub bits : (n : ℕ) → mark_at m n ≡ D n

-- true: D was added; false: a sector would be marked twice
abbrev pub Adds : Bool → List ℕ → List ℕ → (ℕ → ℕ) → Type 0
Adds true m m' D = MarksAdded m m' D
Adds false m m' D = ((n : ℕ) → mark_at m n + D n ≤ 1) → ⊥

-- how many of the first n pointers from `base` on lie over sector s, and how many of the first n tables
unfoldable pub over_first : List ℕ → ℕ → ℕ → ℕ → ℕ
over_first t base n s = sum_to n (λ j. cov (u32_at t (base + 6 * j)) (u16_at t (base + 6 * j + 4)) s)

unfoldable pub over_tables : View → ℕ → ℕ → ℕ
over_tables v n s = sum_to n (λ k. claims_of (k + 1) (v.table (k + 1)) s)

-- the pointers of table i end within the marks, and so does a parent's header; after a pointer with no sectors there is none with any
pub record TableFits (i : ℕ) (t : List ℕ) (len : ℕ) : Type 0 where
  pub size : length t ≡ 128
  pub long : len ≡ 4096
  pub fit : (j : ℕ) → j < slots_of i t → start_of i t j + count_of i t j ≤ 262144
  pub rest : (j : ℕ) → count_of i t j ≡ 0 → (k : ℕ) → k < slots_of i t → j ≤ k → count_of i t k ≡ 0
  pub header : word_of t ≡ i → header_start t + header_count t ≤ 262144

-- outside zones 1 and Z the marks are the sector table's bits
abbrev pub Agrees : Places → List ℕ → List ℕ → Type 0
Agrees p b m = (s : ℕ) → s < 1024 * (p.zones - 1) → 1024 ≤ s → mark_at m s ≡ sector_at p b s
