-- R5 at one index table. "R5 (the failing child, or the table with a bad link or a gap)". R5 holds exactly when this holds of each table
-- (ChainedLaws: R5-each, each-R5).
use Rattle.std.specs.Prelude.{◌≡◌, ◌⊎◌, ◌≢◌, ℕ, suc, ◌<◌}
use Rattle.tables.specs.Indexes.{parent_of}
use Rattle.tables.specs.Views.{View, Parent, Child, walk, next}
use Rattle.tables.specs.Rules.R5.{Full}
use Rattle.examination.specs.Met.{SomeUsed}

-- c is the k-th child after parent p, from 0 on: so many links lead to it, over children alone. A chain that runs in a circle meets the
-- circle's tables for ever
pub record StandsAt (v : View) (p k c : ℕ) : Type 0 where
  pub parent : Parent v p
  pub children : (j : ℕ) → j < suc k → Child v (walk (next v) p (suc j))
  pub here : walk (next v) p (suc k) ≡ c

-- "Every child stands exactly once in all parents' chains together, and names that chain's parent"; "a child has at least one": child c
pub record ChildLaw (v : View) (c : ℕ) : Type 0 where
  pub parent : ℕ
  pub place : ℕ
  pub stands : StandsAt v parent place c
  pub once : (p k : ℕ) → StandsAt v p k c → (p ≡ parent) × (k ≡ place)
  pub names : parent_of (v.table c) ≡ parent
  pub one : SomeUsed c (v.table c)

-- "These chains hold only children. All tables before the last in a chain are full of pointers": table i, which has a link
pub record LinkLaw (v : View) (i : ℕ) : Type 0 where
  pub child : Child v (next v i)
  pub full : Full v i

-- index i, if it is a child, and if it is a parent or a child with a link
pub record ChainLaw (v : View) (i : ℕ) : Type 0 where
  pub child : Child v i → ChildLaw v i
  pub link : (Parent v i) ⊎ (Child v i) → next v i ≢ 0 → LinkLaw v i
