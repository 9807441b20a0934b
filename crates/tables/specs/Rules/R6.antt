-- R6 "Used pointers come first, unused ones are zero. A parent has one at least, and a zero header pointer. Each used pointer has a count
-- of 1 to 32,767 and lies in zones of type 3-8; its part in each zone is whole blocks." "A header is the fewest consecutive sectors, 1 to 32,
-- within one B zone" (W1): a parent's header pointer is six zero bytes, or such a run; whether it is the fewest the body tells, not the books.
use Rattle.std.specs.Prelude.{◌≡◌, ℕ, suc, ◌+◌, ◌-◌, ◌*◌, ◌≤◌, ◌<◌, List}
use Rattle.tables.specs.Kinds.{zone_of, first_of}
use Rattle.tables.specs.Blocks.{ZoneType, DataType, header_type, block_of, Whole}
use Rattle.tables.specs.Indexes.{word_of, slots_of, start_of, count_of, Used, header_start, header_count, HasHeader}
use Rattle.tables.specs.Each.{Each}
use Rattle.tables.specs.Views.{View, cov}

-- the c sectors from a on: a lawful run
pub record Run (v : View) (a c : ℕ) : Type 0 where
  pub some : 1 ≤ c
  pub few : c ≤ 32767
  pub low : 1024 ≤ a
  pub high : a + c ≤ 1024 * (v.zones - 1)
  pub typed : (s : ℕ) → s < a + c → a ≤ s → DataType (v.zone (zone_of s)).ztype
  pub whole : (z : ℕ) → z < v.zones → 2 ≤ z → ZoneType (v.zone z).ztype → Whole (cov a c) (first_of z) (block_of (v.zone z).ztype)

-- a header's c sectors from a on: "1 to 32, within one B zone"
pub record HeaderRun (v : View) (a c : ℕ) : Type 0 where
  pub some : 1 ≤ c
  pub few : c ≤ 32
  pub low : 1024 ≤ a
  pub high : a + c ≤ 1024 * (v.zones - 1)
  pub one : zone_of (a + (c - 1)) ≡ zone_of a
  pub typed : (v.zone (zone_of a)).ztype ≡ header_type

-- the header pointer of a parent whose bytes are t, unless it is zero
pub record HeaderLaw (v : View) (t : List ℕ) : Type 0 where
  pub run : HasHeader t → HeaderRun v (header_start t) (header_count t)

-- index i, whose bytes are t; an unused pointer is zero by what unused means
pub record Shape (v : View) (i : ℕ) (t : List ℕ) : Type 0 where
  pub first : (j : ℕ) → suc j < slots_of i t → Used i t (suc j) → Used i t j
  pub used : (j : ℕ) → j < slots_of i t → Used i t j → Run v (start_of i t j) (count_of i t j)
  pub one : word_of t ≡ i → Used i t 0
  pub header : word_of t ≡ i → HeaderLaw v t

abbrev pub PointerLaw : View → ℕ → Type 0
PointerLaw v i = Shape v i (v.table i)

abbrev pub R6 : View → Type 0
R6 v = Each (PointerLaw v) 1 (v.indexes + 1)
