-- What the examination of R8 gathers of all files in a pass over the index tables, and what it then asks of each parent.
use Rattle.std.specs.Prelude.{◌≡◌, Bool, true, false, ℕ, ◌+◌, ◌*◌, ◌≤◌, ◌<◌, List, eqb, get_or, length}
use Rattle.field.specs.Says.{Says}
use Rattle.field.specs.Sum.{sum_to}
use Rattle.tables.specs.Kinds.{zone_of}
use Rattle.tables.specs.Dates.{Date}
use Rattle.tables.specs.Names.{Name}
use Rattle.tables.specs.Indexes.{word_of, name_of, created_of, changed_of, length_of, attribute_of, slots_of, start_of, count_of, sectors_of, file_of, variable_bit, directory_bit, system_bit}
use Rattle.tables.specs.Views.{View, only_if}
use Rattle.tables.specs.Rules.R8.{file_type}

-- ---- zone types

-- each of the c sectors from a on lies in a zone of type ty
abbrev pub RunType : View → ℕ → ℕ → ℕ → Type 0
RunType v a c ty = (s : ℕ) → s < a + c → a ≤ s → (v.zone (zone_of s)).ztype ≡ ty

-- so does each sector under the pointers of index i, whose bytes are t
abbrev pub TableType : View → ℕ → List ℕ → ℕ → Type 0
TableType v i t ty = (j : ℕ) → j < slots_of i t → RunType v (start_of i t j) (count_of i t j) ty

-- index f is the parent of a variable file
pub record VariableFile (v : View) (f : ℕ) : Type 0 where
  pub low : 1 ≤ f
  pub high : f ≤ v.indexes
  pub word : word_of (v.table f) ≡ f
  pub bit : variable_bit (attribute_of (v.table f)) ≡ 1

-- ---- the first k tables

-- the sectors that they have of file f
abbrev pub sectors_to : View → ℕ → ℕ → ℕ
sectors_to v k f = sum_to k (λ n. only_if (eqb (file_of (n + 1) (v.table (n + 1))) f) (sectors_of (n + 1) (v.table (n + 1))))

-- those that are file f's lie in zones of the type that its first sector's has
abbrev pub InTypeTo : View → ℕ → ℕ → Type 0
InTypeTo v k f = (n : ℕ) → n < k → file_of (n + 1) (v.table (n + 1)) ≡ f → TableType v (n + 1) (v.table (n + 1)) (file_type v f)

-- s has the sectors of each file at the file's number
pub record Summed (v : View) (k : ℕ) (s : List ℕ) : Type 0 where
  pub long : length s ≡ 4097
  pub sum : (f : ℕ) → f ≤ v.indexes → 1 ≤ f → get_or s f 0 ≡ sectors_to v k f

-- m has 0 at the number of each variable file that lies in one zone type
pub record TypesMarked (v : View) (k : ℕ) (m : List ℕ) : Type 0 where
  pub long : length m ≡ 4097
  pub mark : (f : ℕ) → VariableFile v f → Says (eqb (get_or m f 0) 0) (InTypeTo v k f)

-- ---- a parent

-- a file of so many bytes and sectors, of variable size or not; mark is 0 if it lies in one zone type
pub record LengthLaw (bytes : ℕ) (size : Bool) (sectors mark : ℕ) : Type 0 where
  pub least : bytes < 2147483648
  pub most : bytes ≤ 1024 * sectors
  pub fixed : size ≡ false → 1 ≤ bytes
  pub variable : size ≡ true → mark ≡ 0

-- "No other attribute weight; not both 32 and 64."
pub record Weighted (a : ℕ) : Type 0 where
  pub weights : a < 128
  pub both : directory_bit a + system_bit a ≤ 1

-- a parent whose bytes are t
pub record ParentLaw (t : List ℕ) (size : Bool) (sectors mark : ℕ) : Type 0 where
  pub name : Name (name_of t)
  pub lengths : LengthLaw (length_of t) size sectors mark
  pub weights : Weighted (attribute_of t)
  pub created : Date (created_of t)
  pub changed : Date (changed_of t)
