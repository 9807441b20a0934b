-- What a file that gets blocks asks of the books, so that each step finds a block and, where it needs one, an index table.
use Rattle.std.specs.Prelude.{◌≡◌, ◌≢◌, List, ℕ, ◌+◌, ◌≤◌, ◌<◌, length}
use Rattle.tables.specs.declared.places.Places.{Places}
use Rattle.tables.specs.Blocks.{block_of}
use Rattle.tables.specs.Indexes.{word_of, table_at}
use Rattle.tables.specs.Places.{Layout}
use Rattle.tables.specs.Sector1.{free_of, first_free_of}
use Rattle.tables.specs.Views.{view_of, tally}
use Rattle.tables.specs.Rules.R4.{R4}
use Rattle.tables.specs.Rules.R9.{free_one}
use Rattle.allocation.specs.declared.choice.Found.{Found}
use Rattle.allocation.specs.declared.tail.Tail.{Tail}
use Rattle.allocation.specs.declared.tail.Pushed.{Pushed}
use Rattle.allocation.specs.declared.tail.Pushed.TheVariants.{Joined, Beside, Further}
use Rattle.allocation.specs.Choice.{block_start}
use Rattle.allocation.specs.NextPointer.{push, place_of}
use Rattle.allocation.specs.Growth.{Growth}
use Rattle.allocation.specs.Plans.{tables_for}
use Rattle.allocation.specs.Stock.{Stocked}
use Rattle.allocation.specs.Candidates.{Proper}

-- the free chain has a head, which can be taken
pub record Head (p : Places) (b : List ℕ) : Type 0 where
  pub low : 1 ≤ first_free_of b
  pub high : first_free_of b ≤ p.indexes
  pub some : 1 ≤ free_of b

-- it is asked where a further child is
abbrev pub HeadFor : Places → List ℕ → Pushed → Type 0
HeadFor p b (Joined l) = Unit {0}
HeadFor p b (Beside l) = Unit {0}
HeadFor p b (Further l) = Head p b

-- the tail is of a parent, or of a child that has a pointer: it stands after what a table has before its pointers
pub record InTable (l : Tail) : Type 0 where
  pub count : l.last.count ≤ 32767
  pub within : l.slot ≤ l.capacity
  pub most : l.capacity ≤ 17
  pub from : 22 ≤ place_of l

-- block k of type t can be taken for a file and pointed at: where it needs a further table, there is one
pub record Laying (p : Places) (t : ℕ) (k : Found) (g : Growth) : Type 0 where
  pub layout : Layout p (length g.books)
  pub proper : Proper (view_of p g.books) t k
  pub low : 1 ≤ g.cursor.table.0
  pub high : g.cursor.table.0 ≤ p.indexes
  pub tail : InTable g.cursor.tail
  pub few : g.cursor.tail.tables < 1099511627776
  pub head : HeadFor p g.books (push g.cursor.tail (block_start t k) (block_of t))

-- the free chain is lawful, and sector 1 has its number
pub record Chained (p : Places) (b : List ℕ) : Type 0 where
  pub r4 : R4 (view_of p b)
  pub free : free_of b ≡ tally (view_of p b) free_one

-- file f's blocks of these types can be added
pub record Ready (p : Places) (f : ℕ) (g : Growth) (ts : List ℕ) : Type 0 where
  pub layout : Layout p (length g.books)
  pub stocked : Stocked (view_of p g.books) ts
  pub chained : Chained p g.books
  pub low : 1 ≤ g.cursor.table.0
  pub high : g.cursor.table.0 ≤ p.indexes
  pub used : word_of (table_at p g.books g.cursor.table.0) ≢ 0
  pub tail : InTable g.cursor.tail
  pub few : g.cursor.tail.tables + length ts ≤ 1099511627776
  pub enough : tables_for p g.books g.cursor.tail ts ≤ g.cursor.tail.tables + free_of g.books
  pub file : f < 4294967296

-- ---- a block only planned

-- block k of type t can be taken, and the tail go on
pub record Planning (p : Places) (t : ℕ) (k : Found) (g : Growth) : Type 0 where
  pub layout : Layout p (length g.books)
  pub proper : Proper (view_of p g.books) t k
  pub count : g.cursor.tail.last.count ≤ 32767
  pub few : g.cursor.tail.tables < 1099511627776
