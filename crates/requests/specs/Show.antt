-- "Show hands back that sector as it lies in the body, an empty part on refusal; read-protected is 10. Its number comes from a second call
-- with the same arguments."
use Rattle.std.specs.Prelude.{◌≡◌, List, [], ◌∷◌, ◌++◌, ℕ, zero, suc, ◌*◌}
use Rattle.tables.specs.Gates.{Test, asks, Gate}
use Rattle.files.specs.Moves.{body_place, sectors_content}
use Rattle.requests.specs.declared.show.Part.{Part}
use Rattle.requests.specs.Answers.{use_tests}
use Rattle.requests.specs.Body.{body_test}
use Rattle.requests.specs.Locate.{HasSector, kth_of}
use Rattle.requests.specs.Named.{usable_tests}

-- 1 to 5, 15, 8, 9, 10, then 14
unfoldable pub show_tests : List ℕ → List ℕ → List ℕ → ℕ → ℕ → List Test
show_tests b withheld body id k = use_tests b withheld ++ (body_test b body ∷ (usable_tests 8 b id ++ (asks 14 (HasSector b id k) ∷ [])))

-- where the part lies in the body: n sectors from s on where the number is 0, else none, at 0
abbrev pub part_of : ℕ → ℕ → ℕ → Part
part_of zero s n = record { at = body_place s; len = 1024 * n }
part_of (suc k) s n = record { at = 0; len = 0 }

-- the promise of the place
pub record ShownAt (b withheld body : List ℕ) (id k : ℕ) (r : Part) : Type 0 where
  pub number : ℕ
  pub gate : Gate (show_tests b withheld body id k) number
  pub part : r ≡ part_of number (kth_of b id k) 1

-- the part itself
abbrev pub bytes_of : ℕ → List ℕ → ℕ → ℕ → List ℕ
bytes_of zero body s n = sectors_content body s n
bytes_of (suc k) body s n = []

-- show's promise
pub record Shown (b withheld body : List ℕ) (id k : ℕ) (part : List ℕ) : Type 0 where
  pub number : ℕ
  pub gate : Gate (show_tests b withheld body id k) number
  pub bytes : part ≡ bytes_of number body (kth_of b id k) 1
