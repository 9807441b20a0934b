-- "Report: lines as below, or `refused=` and the number", each line ended by one line feed.
use Rattle.std.specs.Prelude.{◌≡◌, ℕ, zero, suc, ◌*◌, ◌≤◌, List, [], ◌∷◌, ◌++◌, length}
use Rattle.tables.specs.declared.places.Places.{Places}
use Rattle.tables.specs.Sector1.{active_of, deleted_of, free_of, system_of, directory_of, flag_of}
use Rattle.tables.specs.Places.{places_of}
use Rattle.tables.specs.Gates.{Gate}
use Rattle.tables.specs.Books.{book_tests}
use Rattle.tables.specs.Views.{view_of}
use Rattle.tables.specs.Open.{open_zones}
use Rattle.requests.specs.declared.report.Figures.{Figures}
use Rattle.requests.specs.declared.text.Text.{Text}
use Rattle.requests.specs.Space.{used_sectors}
use Rattle.requests.specs.Text.{line_of}

-- what the report tells of the books b, whose tables stand at p
abbrev pub figures_of : Places → List ℕ → Figures
figures_of p b = record {
  zones = p.zones;
  sectors = 1024 * p.zones;
  used = used_sectors p b;
  indexes = p.indexes;
  free = free_of b;
  active = active_of b;
  deleted = deleted_of b;
  system = system_of b;
  directory = directory_of b;
  openzones = open_zones (view_of p b);
  mounted = flag_of b;
}

-- the eleven lines, each a name, a number and a line feed

-- zones=
abbrev pub zones_line : Figures → List ℕ
zones_line f = line_of (122 ∷ 111 ∷ 110 ∷ 101 ∷ 115 ∷ 61 ∷ []) f.zones

-- sectors=
abbrev pub sectors_line : Figures → List ℕ
sectors_line f = line_of (115 ∷ 101 ∷ 99 ∷ 116 ∷ 111 ∷ 114 ∷ 115 ∷ 61 ∷ []) f.sectors

-- used=
abbrev pub used_line : Figures → List ℕ
used_line f = line_of (117 ∷ 115 ∷ 101 ∷ 100 ∷ 61 ∷ []) f.used

-- indexes=
abbrev pub indexes_line : Figures → List ℕ
indexes_line f = line_of (105 ∷ 110 ∷ 100 ∷ 101 ∷ 120 ∷ 101 ∷ 115 ∷ 61 ∷ []) f.indexes

-- free_indexes=
abbrev pub free_line : Figures → List ℕ
free_line f = line_of (102 ∷ 114 ∷ 101 ∷ 101 ∷ 95 ∷ 105 ∷ 110 ∷ 100 ∷ 101 ∷ 120 ∷ 101 ∷ 115 ∷ 61 ∷ []) f.free

-- active=
abbrev pub active_line : Figures → List ℕ
active_line f = line_of (97 ∷ 99 ∷ 116 ∷ 105 ∷ 118 ∷ 101 ∷ 61 ∷ []) f.active

-- deleted=
abbrev pub deleted_line : Figures → List ℕ
deleted_line f = line_of (100 ∷ 101 ∷ 108 ∷ 101 ∷ 116 ∷ 101 ∷ 100 ∷ 61 ∷ []) f.deleted

-- system=
abbrev pub system_line : Figures → List ℕ
system_line f = line_of (115 ∷ 121 ∷ 115 ∷ 116 ∷ 101 ∷ 109 ∷ 61 ∷ []) f.system

-- directory=
abbrev pub directory_line : Figures → List ℕ
directory_line f = line_of (100 ∷ 105 ∷ 114 ∷ 101 ∷ 99 ∷ 116 ∷ 111 ∷ 114 ∷ 121 ∷ 61 ∷ []) f.directory

-- open_zones=
abbrev pub open_line : Figures → List ℕ
open_line f = line_of (111 ∷ 112 ∷ 101 ∷ 110 ∷ 95 ∷ 122 ∷ 111 ∷ 110 ∷ 101 ∷ 115 ∷ 61 ∷ []) f.openzones

-- mounted=
abbrev pub mounted_line : Figures → List ℕ
mounted_line f = line_of (109 ∷ 111 ∷ 117 ∷ 110 ∷ 116 ∷ 101 ∷ 100 ∷ 61 ∷ []) f.mounted

-- in three parts, in this order
unfoldable pub size_lines : Figures → List ℕ
size_lines f = zones_line f ++ (sectors_line f ++ (used_line f ++ indexes_line f))

unfoldable pub file_lines : Figures → List ℕ
file_lines f = free_line f ++ (active_line f ++ (deleted_line f ++ system_line f))

unfoldable pub state_lines : Figures → List ℕ
state_lines f = directory_line f ++ (open_line f ++ mounted_line f)

unfoldable pub lines_of : Figures → List ℕ
lines_of f = size_lines f ++ (file_lines f ++ state_lines f)

-- refused=
unfoldable pub refused_line : ℕ → List ℕ
refused_line n = line_of (114 ∷ 101 ∷ 102 ∷ 117 ∷ 115 ∷ 101 ∷ 100 ∷ 61 ∷ []) n

-- figures of lawful books, which bound the length of their lines
pub record Small (f : Figures) : Type 0 where
  pub zones : f.zones ≤ 256
  pub sectors : f.sectors ≤ 262144
  pub used : f.used ≤ 262144
  pub indexes : f.indexes ≤ 4096
  pub free : f.free ≤ 4096
  pub active : f.active ≤ 4096
  pub deleted : f.deleted ≤ 4096
  pub system : f.system ≤ 4096
  pub directory : f.directory ≤ 4096
  pub openzones : f.openzones ≤ 254
  pub mounted : f.mounted ≤ 1

-- the report of books that are answered n
abbrev pub report_of : ℕ → List ℕ → List ℕ
report_of zero b = lines_of (figures_of (places_of b) b)
report_of (suc k) b = refused_line (suc k)

-- report's promise: every byte of its text, which has room
pub record Reported (b withheld : List ℕ) (t : Text) : Type 0 where
  pub number : ℕ
  pub gate : Gate (book_tests b withheld) number
  pub text : t ≡ report_of number b
  pub short : length (report_of number b) ≤ 192
