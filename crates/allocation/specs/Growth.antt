-- A file that gets blocks: each is chosen, taken, and pointed at.
use Rattle.std.specs.Prelude.{List, ℕ}
use Rattle.tables.specs.declared.places.Places.{Places}
use Rattle.tables.specs.Blocks.{block_of}
use Rattle.tables.specs.Indexes.{put_pointer}
use Rattle.tables.specs.Sector1.{first_free_of}
use Rattle.tables.specs.Views.{view_of}
use Rattle.allocation.specs.declared.choice.Found.{Found}
use Rattle.allocation.specs.declared.tail.Tail.{Tail}
use Rattle.allocation.specs.declared.tail.Pushed.{Pushed}
use Rattle.allocation.specs.declared.tail.Pushed.TheVariants.{Joined, Beside, Further}
use Rattle.allocation.specs.declared.growth.Cursor.{Cursor}
use Rattle.allocation.specs.Choice.{choose, block_start, put_block}
use Rattle.allocation.specs.NextPointer.{push, place_of}
use Rattle.allocation.specs.NewTables.{put_child}

-- the books, and where the file's pointers end in them: the tail, and the file's last table
pub record Growth : Type 0 where
  pub books : List ℕ
  pub cursor : Cursor

-- the last pointer written where l has it: in the present table
unfoldable pub point_here : Places → List ℕ → Cursor → Tail → Growth
point_here p b c l = record { books = put_pointer p b c.table.0 (place_of l) l.last; cursor = record { tail = l; table = c.table } }

-- in a further child of file f
unfoldable pub point_further : Places → ℕ → List ℕ → Cursor → Tail → Growth
point_further p f b c l = record {
  books = put_pointer p (put_child p b f c.table.0) (first_free_of b) (place_of l) l.last;
  cursor = record { tail = l; table = record { 0 = first_free_of b } };
}

-- a block after the tail c, pointed at
unfoldable pub pointed : Places → ℕ → List ℕ → Cursor → Pushed → Growth
unfolding point_here point_further
pointed p f b c (Joined l) = point_here p b c l
pointed p f b c (Beside l) = point_here p b c l
pointed p f b c (Further l) = point_further p f b c l

-- file f with block k of type t
unfoldable pub laid : Places → ℕ → ℕ → Found → Growth → Growth
unfolding put_block push block_start pointed
laid p f t k g = pointed p f (put_block p g.books t k) g.cursor (push g.cursor.tail (block_start t k) (block_of t))

-- with the block of type t that is chosen
unfoldable pub add_block : Places → ℕ → ℕ → Growth → Growth
unfolding choose laid
add_block p f t g = let k = choose (view_of p g.books) g.cursor.tail t in laid p f t k g
