-- Temporary delete, recover and set protection: a file's attribute changes, with its change date and the latest update, and where the file
-- comes or goes sector 1's counts. Pointers and data stay; of a header the id tells whether its file is deleted: "Where the file has a header,
-- temporary delete writes minus the file's id into its first four bytes in the body, recover writes the id" (W1).
use Rattle.std.specs.Prelude.{◌≡◌, List, ◌++◌, ℕ, ◌+◌, ◌-◌, ◌*◌, ◌/◌, ◌%◌, ◌≤◌}
use Rattle.tables.specs.declared.places.Places.{Places}
use Rattle.tables.specs.Dates.{Date}
use Rattle.tables.specs.Indexes.{table_at, attribute_of, put_changed, put_attribute, directory_bit, system_bit, minus}
use Rattle.tables.specs.Places.{places_of}
use Rattle.tables.specs.Sector1.{active_of, deleted_of, system_of, directory_of, put_active, put_deleted, put_system, put_directory, put_latest}
use Rattle.tables.specs.Gates.{Test, Gate}
use Rattle.tables.specs.Views.{view_of}
use Rattle.files.specs.HeaderBytes.{header_marked}
use Rattle.requests.specs.Answers.{after}
use Rattle.requests.specs.Body.{lent_tests}
use Rattle.requests.specs.Named.{state_tests, usable_tests, asked_tests}

-- ---- the bytes

-- the attribute of file f, the date as its change date, and as latest update
unfoldable pub put_state : Places → List ℕ → ℕ → ℕ → List ℕ → List ℕ
put_state p b f a date = put_latest (put_attribute p (put_changed p b f date) f a) date

-- sector 1's active, temporarily deleted, system and directory files
unfoldable pub put_counts : List ℕ → ℕ → ℕ → ℕ → ℕ → List ℕ
put_counts b active deleted system directory = put_directory (put_system (put_deleted (put_active b active) deleted) system) directory

-- "Temporary delete": weight 1 comes to the attribute; "system and directory counts take active files only"
unfoldable pub removed : Places → List ℕ → ℕ → List ℕ → List ℕ
unfolding put_state put_counts
removed p b f date =
    let a = attribute_of (table_at p b f) in
    put_state p (put_counts b (active_of b - 1) (deleted_of b + 1) (system_of b - system_bit a) (directory_of b - directory_bit a)) f (a + 1) date

-- "recover undoes it"
unfoldable pub recovered : Places → List ℕ → ℕ → List ℕ → List ℕ
unfolding put_state put_counts
recovered p b f date =
    let a = attribute_of (table_at p b f) in
    put_state p (put_counts b (active_of b + 1) (deleted_of b - 1) (system_of b + system_bit a) (directory_of b + directory_bit a)) f (a - 1) date

-- "replaces weights 4 and 8": the weights above them, w, the weights below them
unfoldable pub protection_of : ℕ → ℕ → ℕ
protection_of a w = a / 16 * 16 + w + a % 4

unfoldable pub protected : Places → List ℕ → ℕ → ℕ → List ℕ → List ℕ
unfolding put_state protection_of
protected p b f w date = put_state p b f (protection_of (attribute_of (table_at p b f)) w) date

-- ---- the promises

-- the body with w in the first four bytes of the file's header, where it has one
abbrev pub marked_body : List ℕ → ℕ → ℕ → List ℕ → List ℕ
marked_body b id w body = header_marked (view_of (places_of b) b) id w body

-- 1 to 5, 7, 15, 8, 9, then 10 "if write-protected"
unfoldable pub remove_tests : List ℕ → List ℕ → List ℕ → ℕ → List ℕ → List Test
remove_tests b withheld body id date = lent_tests b withheld body (Date date) ++ usable_tests 4 b id

-- temporary delete's promise
pub record Removed (b withheld body : List ℕ) (id : ℕ) (date : List ℕ) (r : ℕ) (b' body' : List ℕ) : Type 0 where
  pub number : Gate (remove_tests b withheld body id date) r
  pub books : b' ≡ after r (removed (places_of b) b id date) b
  pub body'' : body' ≡ after r (marked_body b id (minus id) body) body

-- 1 to 5, 7, 15, then 8 and 9: "Recover and actual delete need a deleted file"
unfoldable pub recover_tests : List ℕ → List ℕ → List ℕ → ℕ → List ℕ → List Test
recover_tests b withheld body id date = lent_tests b withheld body (Date date) ++ state_tests 1 b id

-- recover's promise
pub record Recovered (b withheld body : List ℕ) (id : ℕ) (date : List ℕ) (r : ℕ) (b' body' : List ℕ) : Type 0 where
  pub number : Gate (recover_tests b withheld body id date) r
  pub books : b' ≡ after r (recovered (places_of b) b id date) b
  pub body'' : body' ≡ after r (marked_body b id id body) body

-- "Set protection takes 0, 4, 8 or 12, else 7"
pub record ProtectAllowed (w : ℕ) (date : List ℕ) : Type 0 where
  pub fours : w % 4 ≡ 0
  pub most : w ≤ 12
  pub date' : Date date

-- 1 to 5, 7, then 8 and 9
unfoldable pub protect_tests : List ℕ → List ℕ → ℕ → ℕ → List ℕ → List Test
protect_tests b withheld id w date = asked_tests 0 b withheld (ProtectAllowed w date) id

-- set protection's promise
pub record Protected (b withheld : List ℕ) (id w : ℕ) (date : List ℕ) (r : ℕ) (b' : List ℕ) : Type 0 where
  pub number : Gate (protect_tests b withheld id w date) r
  pub books : b' ≡ after r (protected (places_of b) b id w date) b
