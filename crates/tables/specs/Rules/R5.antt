-- R5 "Every child stands exactly once in all parents' chains together, and names that chain's parent. These chains hold only children.
-- All tables before the last in a chain are full of pointers; a child has at least one."
use Rattle.std.specs.Prelude.{◌≡◌, ℕ, suc, ◌<◌}
use Rattle.tables.specs.Indexes.{parent_of, slots_of, Used}
use Rattle.tables.specs.Views.{View, Parent, Child, walk, next}

-- every place for a pointer is used
abbrev pub Full : View → ℕ → Type 0
Full v i = (j : ℕ) → j < slots_of i (v.table i) → Used i (v.table i) j

-- parent p has m children: the chain ends after them, holds only children that name p, and each table before the last is full
pub record FileChain (v : View) (p m : ℕ) : Type 0 where
  pub ends : walk (next v) p (suc m) ≡ 0
  pub each : (k : ℕ) → k < m → Child v (walk (next v) p (suc k))
  pub names : (k : ℕ) → k < m → parent_of (v.table (walk (next v) p (suc k))) ≡ p
  pub full : (k : ℕ) → k < m → Full v (walk (next v) p k)

-- child c stands at a place of the chain of p, which has m children
pub record Stands (v : View) (p m c : ℕ) : Type 0 where
  pub parent : Parent v p
  pub place : ℕ
  pub below : place < m
  pub here : walk (next v) p (suc place) ≡ c

-- every chain names its parent, so a child stands in the chain of the parent it names and in no other, and there once
-- (ChainLaws.child-once)
pub record R5 (v : View) : Type 0 where
  pub long : ℕ → ℕ
  pub chain : (p : ℕ) → Parent v p → FileChain v p (long p)
  pub stands : (c : ℕ) → Child v c → Stands v (parent_of (v.table c)) (long (parent_of (v.table c))) c
  pub one : (c : ℕ) → Child v c → (j : ℕ) × (j < slots_of c (v.table c)) × Used c (v.table c) j
