-- A new file, and a file that grows.
use Rattle.std.specs.Prelude.{◌≡◌, List, [], ◌∷◌, ℕ, zero, suc, ◌-◌, ◌*◌, ◌≤◌, eqb, length}
use Rattle.tables.specs.declared.places.Places.{Places}
use Rattle.tables.specs.Blocks.{type_at}
use Rattle.tables.specs.Counts.{block_bytes}
use Rattle.tables.specs.Places.{Layout}
use Rattle.tables.specs.Room.{count_at, Enough}
use Rattle.tables.specs.Sector1.{free_of, first_free_of, put_latest}
use Rattle.tables.specs.Indexes.{file_of, sectors_of, put_changed, put_length, directory_bit, system_bit}
use Rattle.tables.specs.Views.{View, view_of, only_if}
use Rattle.tables.specs.Lawful.{LawfulWith}
use Rattle.tables.specs.Rules.R1.{ceil}
use Rattle.tables.specs.Rules.R8.{file_sectors, file_type}
use Rattle.allocation.specs.declared.tail.Tail.{Tail}
use Rattle.allocation.specs.Choice.{in_order, in_turn}
use Rattle.allocation.specs.NextPointer.{no_pointer}
use Rattle.allocation.specs.NewTables.{New, put_new_parent, count_file}
use Rattle.allocation.specs.Growth.{Growth, add_block}
use Rattle.allocation.specs.Plans.{tables_for}
use Rattle.allocation.specs.Last.{cursor_of}

-- of the first k types, the last of them first: n for type t, and none for the others
unfoldable pub only_among : ℕ → ℕ → ℕ → List ℕ
only_among zero t n = []
only_among (suc k) t n = only_if (eqb (type_at k) t) n ∷ only_among k t n

-- n blocks of type t and of no other, H to C; of a type that is none, no block
unfoldable pub only_counts : ℕ → ℕ → List ℕ
unfolding only_among
only_counts t n = only_among 6 t n

-- the free index tables are enough for blocks of these counts after l
abbrev pub TablesEnough : Places → List ℕ → Tail → List ℕ → Type 0
TablesEnough p b l counts = tables_for p b l (in_order counts) ≤ free_of b

-- blocks of these counts can be had, and so can the tables for them, with `extra` set besides
pub record ProvidedWith (extra : ℕ → ℕ) (p : Places) (b : List ℕ) (l : Tail) (counts : List ℕ) : Type 0 where
  pub layout : Layout p (length b)
  pub lawful : LawfulWith extra p b
  pub six : length counts ≡ 6
  pub room : Enough (view_of p b) (count_at counts)
  pub tables : TablesEnough p b l counts

-- whatever is set besides
abbrev pub ProvidedSome : Places → List ℕ → Tail → List ℕ → Type 0
ProvidedSome p b l counts = (extra : ℕ → ℕ) × ProvidedWith extra p b l counts

-- ---- a new file: "Index tables come off the free chain's head, parent first"

unfoldable pub started : Places → List ℕ → New → Growth
unfolding put_new_parent count_file
started p b n = record {
  books = count_file (put_new_parent p b n) (system_bit n.attribute) (directory_bit n.attribute) n.date;
  cursor = record { tail = no_pointer; table = record { 0 = first_free_of b } };
}

-- with its blocks
unfoldable pub created : Places → List ℕ → New → List ℕ → List ℕ
unfolding started add_block in_turn in_order
created p b n counts = (in_turn (add_block p (first_free_of b)) (in_order counts) (started p b n)).books

-- ---- "add the fewest blocks of the file's type, and set the length"

-- the sectors of file f that table i, whose bytes are t, has: what `file_sectors` sums
abbrev pub own_sectors : ℕ → ℕ → List ℕ → ℕ
own_sectors f i t = only_if (eqb (file_of i t) f) (sectors_of i t)

-- how many blocks file f lacks for so many bytes
unfoldable pub blocks_for : View → ℕ → ℕ → ℕ
blocks_for v f long = ceil (long - 1024 * file_sectors v f) (block_bytes (file_type v f))

-- the file's change date and byte length, and the latest update
unfoldable pub put_change : Places → List ℕ → ℕ → ℕ → List ℕ → List ℕ
put_change p b f long date = put_latest (put_length p (put_changed p b f date) f long) date

unfoldable pub grown : Places → List ℕ → ℕ → List ℕ → ℕ → List ℕ → List ℕ
unfolding put_change add_block in_turn in_order cursor_of
grown p b f counts long date =
    put_change p (in_turn (add_block p f) (in_order counts) (record { books = b; cursor = cursor_of p b f })).books f long date
