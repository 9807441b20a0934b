-- "Locate gives the volume sector of the file's k-th sector (k unsigned, from 0), 14 past its last under a pointer."
use Rattle.std.specs.Prelude.{◌≡◌, List, [], ◌∷◌, ◌++◌, ℕ, ◌<◌, Result, Ok, Err, IfOk}
use Rattle.tables.specs.declared.refusal.Refusal.{Refusal}
use Rattle.tables.specs.declared.kinds.Sector.{Sector}
use Rattle.tables.specs.Refusals.{number_of}
use Rattle.tables.specs.Places.{places_of}
use Rattle.tables.specs.Gates.{Test, asks, Gate}
use Rattle.tables.specs.Views.{view_of}
use Rattle.tables.specs.Rules.R8.{file_sectors}
use Rattle.files.specs.Spots.{kth_sector}
use Rattle.requests.specs.Answers.{use_tests}
use Rattle.requests.specs.Named.{named_tests}

-- the file has a k-th sector, and which it is
abbrev pub HasSector : List ℕ → ℕ → ℕ → Type 0
HasSector b id k = k < file_sectors (view_of (places_of b) b) id

abbrev pub kth_of : List ℕ → ℕ → ℕ → ℕ
kth_of b id k = kth_sector (view_of (places_of b) b) id k

-- 1 to 5, 8, 9, then 14
unfoldable pub locate_tests : List ℕ → List ℕ → ℕ → ℕ → List Test
locate_tests b withheld id k = use_tests b withheld ++ (named_tests b id ++ (asks 14 (HasSector b id k) ∷ []))

-- this paper's value of an answer, 0 beside a refusal
abbrev pub sector_value : Result Sector Refusal → ℕ
sector_value (Ok s) = s.0
sector_value (Err e) = 0

-- locate's promise
pub record Locates (b withheld : List ℕ) (id k : ℕ) (r : Result Sector Refusal) : Type 0 where
  pub number : Gate (locate_tests b withheld id k) (number_of r)
  pub answer : IfOk r (λ (s : Sector). s.0 ≡ kth_of b id k)
