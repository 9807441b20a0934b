-- A table's places for pointers, n of them from byte `at` on: what rule R6 says of them, wherever they begin.
use Rattle.std.specs.Prelude.{ℕ, suc, ◌+◌, ◌*◌, ◌<◌, List}
use Rattle.field.specs.Numbers.{u16_at, u32_at}
use Rattle.tables.specs.Indexes.{UsedAt}
use Rattle.tables.specs.Views.{View}
use Rattle.tables.specs.Rules.R6.{Run, HeaderLaw}

-- "Used pointers come first, unused ones are zero", and each used one is a lawful run
pub record SlotsLaw (v : View) (t : List ℕ) (at n : ℕ) : Type 0 where
  pub first : (j : ℕ) → suc j < n → UsedAt t (at + 6 * suc j) → UsedAt t (at + 6 * j)
  pub used : (j : ℕ) → j < n → UsedAt t (at + 6 * j) → Run v (u32_at t (at + 6 * j)) (u16_at t (at + 6 * j + 4))

-- the pointer at o is used, and a lawful run
pub record GoodSlot (v : View) (t : List ℕ) (o : ℕ) : Type 0 where
  pub used : UsedAt t o
  pub run : Run v (u32_at t o) (u16_at t (o + 4))

-- the first j pointers are
abbrev pub Leading : View → List ℕ → ℕ → ℕ → Type 0
Leading v t at j = (k : ℕ) → k < j → GoodSlot v t (at + 6 * k)

-- "A parent has one at least", and a header pointer that is zero or a header's run
pub record Heads (v : View) (t : List ℕ) : Type 0 where
  pub one : UsedAt t 64
  pub header : HeaderLaw v t
