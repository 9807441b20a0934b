-- R8 "Names are 1 to 24 non-null bytes, then nulls. Byte length is at most 1,024 × the file's sectors, at least 0, and at least 1 if fixed.
-- A variable file has one zone type. No other attribute weight; not both 32 and 64. Both dates valid."
use Rattle.std.specs.Prelude.{◌≡◌, ℕ, ◌+◌, ◌*◌, ◌≤◌, ◌<◌, List, eqb}
use Rattle.tables.specs.Kinds.{zone_of}
use Rattle.tables.specs.Dates.{Date}
use Rattle.tables.specs.Names.{Name}
use Rattle.tables.specs.Each.{Each}
use Rattle.tables.specs.Indexes.{word_of, name_of, created_of, changed_of, length_of, attribute_of, variable_bit, directory_bit, system_bit, start_of, sectors_of, file_of}
use Rattle.tables.specs.Views.{View, only_if, tally, Under}

-- the file's sectors: those under the pointers of its tables
unfoldable pub file_sectors : View → ℕ → ℕ
file_sectors v p = tally v (λ i t. only_if (eqb (file_of i t) p) (sectors_of i t))

-- the type of the zone in which the file's first sector lies
unfoldable pub file_type : View → ℕ → ℕ
file_type v p = (v.zone (zone_of (start_of p (v.table p) 0))).ztype

-- every sector of file f lies in a zone of type t
abbrev pub InType : View → ℕ → ℕ → Type 0
InType v f t = (i j s : ℕ) → file_of i (v.table i) ≡ f → Under v i j s → (v.zone (zone_of s)).ztype ≡ t

-- parent p, whose bytes are t; a length below 0 is read as 2147483648 or more
pub record File (v : View) (p : ℕ) (t : List ℕ) : Type 0 where
  pub name : Name (name_of t)
  pub least : length_of t < 2147483648
  pub most : length_of t ≤ 1024 * file_sectors v p
  pub fixed : variable_bit (attribute_of t) ≡ 0 → 1 ≤ length_of t
  pub variable : variable_bit (attribute_of t) ≡ 1 → InType v p (file_type v p)
  pub weights : attribute_of t < 128
  pub both : directory_bit (attribute_of t) + system_bit (attribute_of t) ≤ 1
  pub created : Date (created_of t)
  pub changed : Date (changed_of t)

-- index p, if it is a parent
abbrev pub FileLaw : View → ℕ → Type 0
FileLaw v p = word_of (v.table p) ≡ p → File v p (v.table p)

abbrev pub R8 : View → Type 0
R8 v = Each (FileLaw v) 1 (v.indexes + 1)
