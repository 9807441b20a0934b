-- What a request leaves of files: the index tables of a file that it does not name, and the places of a file's sectors and of its header.
use Rattle.std.specs.Prelude.{◌≡◌, ◌≢◌, ℕ, ◌≤◌, ◌<◌}
use Rattle.tables.specs.Indexes.{file_of, header_start, header_count}
use Rattle.tables.specs.Rules.R8.{file_sectors}
use Rattle.tables.specs.Views.{View}
use Rattle.files.specs.Spots.{kth_sector}

-- the index tables of every file but f are byte for byte as they were, and no other file has another; f is 0 where no file is named
pub record Untouched (v v' : View) (f : ℕ) : Type 0 where
  pub indexes : v'.indexes ≡ v.indexes
  pub was : (j : ℕ) → 1 ≤ j → j ≤ v.indexes → file_of j (v.table j) ≢ 0 → file_of j (v.table j) ≢ f → v'.table j ≡ v.table j
  pub now : (j : ℕ) → 1 ≤ j → j ≤ v.indexes → file_of j (v'.table j) ≢ 0 → file_of j (v'.table j) ≢ f → v'.table j ≡ v.table j

-- file f has its sectors where it had them; it may have more after them
pub record SamePlaces (v v' : View) (f : ℕ) : Type 0 where
  pub most : file_sectors v f ≤ file_sectors v' f
  pub place : (k : ℕ) → k < file_sectors v f → kth_sector v' f k ≡ kth_sector v f k

-- file f's header pointer is what it was
pub record HeaderKept (v v' : View) (f : ℕ) : Type 0 where
  pub start : header_start (v'.table f) ≡ header_start (v.table f)
  pub count : header_count (v'.table f) ≡ header_count (v.table f)
