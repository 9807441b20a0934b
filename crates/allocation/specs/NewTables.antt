-- New index tables: "Index tables come off the free chain's head, parent first." "New tables get the zeros."
use Rattle.std.specs.Prelude.{List, ℕ, ◌+◌, ◌-◌}
use Rattle.tables.specs.declared.places.Places.{Places}
use Rattle.allocation.specs.declared.new_parent.NewParent.{NewParent}
use Rattle.tables.specs.Sector1.{free_of, put_free, first_free_of, put_first_free, active_of, put_active, system_of, put_system, directory_of, put_directory, put_latest}
use Rattle.tables.specs.Indexes.{table_at, link_of, minus, erased, put_word, put_parent, put_link, put_name, put_created, put_changed, put_length, put_attribute}

-- the free chain without its head, which is one table fewer and whose bytes are zero
unfoldable pub take_table : Places → List ℕ → List ℕ
take_table p b = erased p (put_free (put_first_free b (link_of (table_at p b (first_free_of b)))) (free_of b - 1)) (first_free_of b) 128

-- that table is a child of file f, after the file's last table: "minus its own number 0-3, parent 4-7"
unfoldable pub put_child : Places → List ℕ → ℕ → ℕ → List ℕ
unfolding take_table
put_child p b f last =
    put_link p (put_parent p (put_word p (take_table p b) (first_free_of b) (minus (first_free_of b))) (first_free_of b) f) last (first_free_of b)

-- ---- a new file

-- what it is called, its date, its byte length and attribute
pub record New : Type 0 where
  pub name : List ℕ
  pub date : List ℕ
  pub length : ℕ
  pub attribute : ℕ

-- as the code hands it on
abbrev pub new_of : NewParent → New
new_of n = record { name = n.name.now; date = n.date.now; length = n.length; attribute = n.attribute }

-- "id 0-3, name 4-27 padded with nulls": table i, all zeros, with the file's id and name
unfoldable pub put_named : Places → List ℕ → ℕ → List ℕ → List ℕ
put_named p b i name = put_name p (put_word p b i i) i name

-- "created 28-33, changed 34-39": "stored as its change date (in a create as creation date too)"
unfoldable pub put_dates : Places → List ℕ → ℕ → List ℕ → List ℕ
put_dates p b i date = put_changed p (put_created p b i date) i date

-- "byte length 40-43, attribute 44-45"
unfoldable pub put_size : Places → List ℕ → ℕ → ℕ → ℕ → List ℕ
put_size p b i long attribute = put_attribute p (put_length p b i long) i attribute

-- the free chain's head becomes the parent of a file that has no pointers yet
unfoldable pub put_new_parent : Places → List ℕ → New → List ℕ
unfolding take_table put_named put_dates put_size
put_new_parent p b n =
    put_size p (put_dates p (put_named p (take_table p b) (first_free_of b) n.name) (first_free_of b) n.date) (first_free_of b) n.length n.attribute

-- sector 1 with an active file more, s of them system and d directory files, and the date as latest update
unfoldable pub count_file : List ℕ → ℕ → ℕ → List ℕ → List ℕ
count_file b s d date = put_latest (put_directory (put_system (put_active b (active_of b + 1)) (system_of b + s)) (directory_of b + d)) date
