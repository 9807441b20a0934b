-- R4 "Index i begins with 0 (then its bytes 4-123 are zero), i or -i. The free chain starts from sector 1 and meets every free index
-- once, nothing else."
use Rattle.std.specs.Prelude.{◌≡◌, ◌⊎◌, ℕ, ◌+◌, ◌<◌}
use Rattle.field.specs.Parts.{AllBytes}
use Rattle.tables.specs.Indexes.{word_of, minus}
use Rattle.tables.specs.Each.{Each}
use Rattle.tables.specs.Views.{View, Free, walk, next}

-- the chain from sector 1's first free index has m members, all free, and every free index is among them;
-- that it meets each only once follows, since it ends (ChainLaws.free-once)
pub record FreeChain (v : View) (m : ℕ) : Type 0 where
  pub ends : walk (next v) v.head m ≡ 0
  pub each : (k : ℕ) → k < m → Free v (walk (next v) v.head k)
  pub every : (i : ℕ) → Free v i → (k : ℕ) × (k < m) × (walk (next v) v.head k ≡ i)

-- index i's own bytes: what it begins with, and the zeros of a free one
pub record Own (v : View) (i : ℕ) : Type 0 where
  pub word : (word_of (v.table i) ≡ 0) ⊎ ((word_of (v.table i) ≡ i) ⊎ (word_of (v.table i) ≡ minus i))
  pub blank : word_of (v.table i) ≡ 0 → AllBytes (v.table i) 4 120 0

pub record R4 (v : View) : Type 0 where
  pub own : Each (Own v) 1 (v.indexes + 1)
  pub long : ℕ
  pub chain : FreeChain v long
