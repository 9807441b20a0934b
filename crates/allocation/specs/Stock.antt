-- What a choice of blocks asks of the books, so that there is a next block at every step.
use Rattle.std.specs.Prelude.{List, [], ◌∷◌, ℕ, ◌+◌, ◌≤◌, eqb, length}
use Rattle.tables.specs.declared.places.Places.{Places}
use Rattle.tables.specs.Blocks.{DataType}
use Rattle.tables.specs.Places.{Layout}
use Rattle.tables.specs.Views.{View, view_of, only_if}
use Rattle.tables.specs.Room.{Enough}
use Rattle.tables.specs.Rules.R2.{R2}
use Rattle.tables.specs.Rules.R3.{R3}
use Rattle.allocation.specs.declared.tail.Tail.{Tail}

-- how many of the types are t
unfoldable pub how_many : List ℕ → ℕ → ℕ
how_many [] t = 0
how_many (u ∷ ts) t = only_if (eqb u t) 1 + how_many ts t

-- each is one of C to H
unfoldable pub AllTyped : List ℕ → Type 0
AllTyped [] = Unit {0}
AllTyped (t ∷ ts) = DataType t × AllTyped ts

-- zones and sectors that keep R2 and R3 and have room for blocks of these types
pub record Stocked (v : View) (ts : List ℕ) : Type 0 where
  pub r2 : R2 v
  pub r3 : R3 v
  pub typed : AllTyped ts
  pub enough : Enough v (how_many ts)

-- a plan can go on from tail l with blocks of these types; the bound keeps the number of tables within a machine's number
pub record Plannable (p : Places) (b : List ℕ) (l : Tail) (ts : List ℕ) : Type 0 where
  pub layout : Layout p (length b)
  pub stocked : Stocked (view_of p b) ts
  pub count : l.last.count ≤ 32767
  pub few : l.tables + length ts ≤ 1099511627776
