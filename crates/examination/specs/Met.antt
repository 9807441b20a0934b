-- What the examinations of chains know of their marks: a byte for each index, 0 until a chain has met the index.
use Rattle.std.specs.Prelude.{◌≡◌, Bool, true, false, ℕ, suc, ◌-◌, ◌≤◌, ◌<◌, List, get_or, length}
use Rattle.tables.specs.Indexes.{parent_of, slots_of, Used}
use Rattle.tables.specs.Views.{View, Free, Parent, Child, walk, next}
use Rattle.tables.specs.Rules.R5.{Full, FileChain, R5}

abbrev pub MarkedAt : List ℕ → ℕ → Type 0
MarkedAt seen i = get_or seen i 0 ≡ 0 → ⊥

-- R4: index i is met if it is free
abbrev pub FreeMet : View → List ℕ → ℕ → Type 0
FreeMet v seen i = Free v i → MarkedAt seen i

-- ---- R5

-- "a child has at least one": some place of table t, of number i, is used
abbrev pub SomeUsed : ℕ → List ℕ → Type 0
SomeUsed i t = (j : ℕ) × (j < slots_of i t) × Used i t j

-- index i, if it is a child, is met and has a pointer
abbrev pub ChildMet : View → List ℕ → ℕ → Type 0
ChildMet v seen i = Child v i → MarkedAt seen i × SomeUsed i (v.table i)

-- cur may stand after prev in the chain of p
pub record Follows (v : View) (p prev cur : ℕ) : Type 0 where
  pub child : Child v cur
  pub names : parent_of (v.table cur) ≡ p
  pub full : Full v prev

-- c stands in the chain of a parent up to i
pub record InChain (v : View) (i c : ℕ) : Type 0 where
  pub p : ℕ
  pub upto : p ≤ i
  pub parent : Parent v p
  pub long : ℕ
  pub chain : FileChain v p long
  pub place : ℕ
  pub below : place < long
  pub here : walk (next v) p (suc place) ≡ c

-- the chains of the parents up to i are lawful, and what they hold is marked, nothing else
pub record Passed (v : View) (seen : List ℕ) (i : ℕ) : Type 0 where
  pub chains : (p : ℕ) → p ≤ i → Parent v p → (m : ℕ) × FileChain v p m
  pub hit : (p : ℕ) → p ≤ i → Parent v p → (m : ℕ) → FileChain v p m → (k : ℕ) → k < m → MarkedAt seen (walk (next v) p (suc k))
  pub only : (c : ℕ) → MarkedAt seen c → InChain v i c
  pub long : length seen ≡ 4097

-- index i is the next to be passed
pub record Before (v : View) (seen : List ℕ) (i : ℕ) : Type 0 where
  pub low : 1 ≤ i
  pub high : i ≤ v.indexes
  pub passed : Passed v seen (i - 1)

-- it is a parent
pub record Starts (v : View) (seen : List ℕ) (p : ℕ) : Type 0 where
  pub parent : Parent v p
  pub passed : Passed v seen (p - 1)

-- index i is passed too, or the rule is broken
abbrev pub Passes : Bool → View → List ℕ → ℕ → Type 0
Passes true v seen i = Passed v seen i
Passes false v seen i = R5 v → ⊥
