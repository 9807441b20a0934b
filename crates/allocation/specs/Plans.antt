-- How many tables a choice of blocks takes: 13 is known before a byte is altered. A plan is a growth of which only the zone and the sector
-- table are written, and no index table.
use Rattle.std.specs.Prelude.{List, ℕ}
use Rattle.tables.specs.declared.places.Places.{Places}
use Rattle.tables.specs.Blocks.{block_of}
use Rattle.tables.specs.Views.{view_of}
use Rattle.allocation.specs.declared.choice.Found.{Found}
use Rattle.allocation.specs.declared.tail.Tail.{Tail}
use Rattle.allocation.specs.Choice.{choose, block_start, put_block, in_turn}
use Rattle.allocation.specs.NextPointer.{push, tail_of}
use Rattle.allocation.specs.Growth.{Growth}

-- block k of type t planned
unfoldable pub planned : Places → ℕ → Found → Growth → Growth
unfolding push block_start put_block
planned p t k g = record {
  books = put_block p g.books t k;
  cursor = record { tail = tail_of (push g.cursor.tail (block_start t k) (block_of t)); table = g.cursor.table };
}

-- the block of type t that is chosen
unfoldable pub plan_block : Places → ℕ → Growth → Growth
unfolding choose planned
plan_block p t g = let k = choose (view_of p g.books) g.cursor.tail t in planned p t k g

-- a plan from tail l on; it is in no table
abbrev pub plan_from : List ℕ → Tail → Growth
plan_from b l = record { books = b; cursor = record { tail = l; table = record { 0 = 0 } } }

-- the tables taken when blocks of these types are added after l
unfoldable pub tables_for : Places → List ℕ → Tail → List ℕ → ℕ
unfolding plan_block in_turn
tables_for p b l ts = (in_turn (plan_block p) ts (plan_from b l)).cursor.tail.tables
