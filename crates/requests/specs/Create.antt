-- Create fixed and create variable. "Both creates take a kind: 0 plain, 1 directory, 2 system."
use Rattle.std.specs.Prelude.{◌≡◌, List, [], ◌∷◌, ◌++◌, ℕ, ◌+◌, ◌*◌, ◌≤◌, eqb, replicate, Option, Some, None, Result, Ok, Err, IfOk}
use Rattle.tables.specs.declared.refusal.Refusal.{Refusal}
use Rattle.tables.specs.declared.kinds.Index.{Index}
use Rattle.tables.specs.declared.places.Places.{Places}
use Rattle.tables.specs.declared.entry.Size.{Size}
use Rattle.tables.specs.declared.entry.Size.TheVariants.{Fixed, Variable}
use Rattle.tables.specs.Blocks.{DataType}
use Rattle.tables.specs.Counts.{counts_of, block_bytes, Countable}
use Rattle.tables.specs.Dates.{Date}
use Rattle.tables.specs.Names.{NewName}
use Rattle.tables.specs.Places.{places_of}
use Rattle.tables.specs.Sector1.{first_free_of}
use Rattle.tables.specs.Gates.{Test, asks, Gate}
use Rattle.tables.specs.Refusals.{number_of}
use Rattle.tables.specs.Room.{count_at, Supply}
use Rattle.tables.specs.Views.{view_of}
use Rattle.allocation.specs.declared.tail.Tail.{Tail}
use Rattle.allocation.specs.Find.{find}
use Rattle.allocation.specs.NextPointer.{no_pointer}
use Rattle.allocation.specs.NewTables.{New}
use Rattle.allocation.specs.MadeFiles.{only_counts, TablesEnough, created}
use Rattle.requests.specs.Answers.{after, argument_tests}
use Rattle.requests.specs.Amounts.{amount_value}

-- ---- what both share

-- 12 "no room", of the paper's own sentence, and 13 "too few free index tables"
unfoldable pub room_tests : Places → List ℕ → Tail → List ℕ → List Test
room_tests p b l counts = asks 12 (Supply (view_of p b) (count_at counts)) ∷ asks 13 (TablesEnough p b l counts) ∷ []

-- what both ask of their name, kind and date
pub record NewFile (name : List ℕ) (kind : ℕ) (date : List ℕ) : Type 0 where
  pub name' : NewName name
  pub kind' : kind ≤ 2
  pub date' : Date date

-- this paper's value of an answer, the new file's id, 0 beside a refusal
abbrev pub id_value : Result Index Refusal → ℕ
id_value (Ok i) = i.0
id_value (Err e) = 0

-- a create, after these tests: a file n with blocks of these counts is made where there is room for them
pub record Creates (tests : List Test) (b : List ℕ) (counts : List ℕ) (n : New) (r : Result Index Refusal) (b' : List ℕ) : Type 0 where
  pub number : Gate (tests ++ room_tests (places_of b) b no_pointer counts) (number_of r)
  pub answer : IfOk r (λ (i : Index). i.0 ≡ first_free_of b)
  pub books : b' ≡ after (number_of r) (created (places_of b) b n counts) b

-- "weight 16 variable size": how often the attribute of a file of this size has it
abbrev pub size_bit : Size → ℕ
size_bit Fixed = 0
size_bit Variable = 1

-- "weight 16 variable size, 32 directory file, 64 system file": kinds 0, 1 and 2 have weights 0, 32 and 64
abbrev pub attribute_for : ℕ → ℕ → ℕ
attribute_for variable kind = 16 * variable + 32 * kind

-- ---- create fixed

-- "file size, fixed: 1 to 2,147,483,647"; "any sum of 4 (C), 8, 16, 32, 64, 128 (H)", which the default is too
abbrev pub HasCounts : Option ℕ → Option ℕ → Type 0
HasCounts (Some w) (Some n) = Countable w n
HasCounts (Some w) None = ⊥
HasCounts None size = ⊥

pub record FixedAllowed (name : List ℕ) (size types : Option ℕ) (kind : ℕ) (date : List ℕ) : Type 0 where
  pub file : NewFile name kind date
  pub counted : HasCounts types size

-- the blocks of each type; none where an argument is not allowed
abbrev pub counts_for : Option ℕ → Option ℕ → List ℕ
counts_for (Some w) (Some n) = counts_of w n
counts_for (Some w) None = replicate 6 0
counts_for None size = replicate 6 0

abbrev pub CreatedFixed : List ℕ → List ℕ → List ℕ → Option ℕ → Option ℕ → ℕ → List ℕ → Result Index Refusal → List ℕ → Type 0
CreatedFixed b withheld name size types kind date r b' =
    Creates (argument_tests b withheld (FixedAllowed name size types kind date)) b (counts_for types size) (record { name = name; date = date; length = amount_value size; attribute = attribute_for 0 kind }) r b'

-- ---- create variable: "the cell is a block's bytes, else 7; one block, length 0"

-- the type whose blocks have so many bytes, 9 where there is none
unfoldable pub cell_type : Option ℕ → ℕ
unfolding find
cell_type (Some n) = find (λ t. eqb (block_bytes t) n) 6 3
cell_type None = 9

pub record VariableAllowed (name : List ℕ) (cell : Option ℕ) (kind : ℕ) (date : List ℕ) : Type 0 where
  pub file : NewFile name kind date
  pub cell' : DataType (cell_type cell)

abbrev pub CreatedVariable : List ℕ → List ℕ → List ℕ → Option ℕ → ℕ → List ℕ → Result Index Refusal → List ℕ → Type 0
CreatedVariable b withheld name cell kind date r b' =
    Creates (argument_tests b withheld (VariableAllowed name cell kind date)) b (only_counts (cell_type cell) 1) (record { name = name; date = date; length = 0; attribute = attribute_for 1 kind }) r b'
