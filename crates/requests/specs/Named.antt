-- Requests that name a file: "8 id outside 1..N, or not a parent", "9 temporarily deleted where active is needed", "10 protected".
use Rattle.std.specs.Prelude.{◌≡◌, List, [], ◌∷◌, ◌++◌, ℕ}
use Rattle.tables.specs.Indexes.{table_at, attribute_of, weight, deleted_bit, variable_bit}
use Rattle.tables.specs.Places.{places_of}
use Rattle.tables.specs.Gates.{Test, asks}
use Rattle.tables.specs.Views.{view_of, Parent}
use Rattle.requests.specs.declared.named.State.{State}
use Rattle.requests.specs.declared.named.State.TheVariants.{Active, Deleted}
use Rattle.requests.specs.Answers.{argument_tests}

-- the bytes of index table id
abbrev pub file_bytes : List ℕ → ℕ → List ℕ
file_bytes b id = table_at (places_of b) b id

-- weight 1 of a file's attribute in the state that is needed
abbrev pub state_bit : State → ℕ
state_bit Active = 0
state_bit Deleted = 1

-- 8, then 9: a file whose weight 1 is d: 0 where an active file is needed, 1 where a deleted one is
unfoldable pub state_tests : ℕ → List ℕ → ℕ → List Test
state_tests d b id = asks 8 (Parent (view_of (places_of b) b) id) ∷ asks 9 (deleted_bit (attribute_of (file_bytes b id)) ≡ d) ∷ []

-- an active file
abbrev pub named_tests : List ℕ → ℕ → List Test
named_tests b id = state_tests 0 b id

-- "weight 4 write-protected, 8 read-protected": the weight w is not in the file's attribute
abbrev pub Unprotected : ℕ → List ℕ → ℕ → Type 0
Unprotected w b id = weight (attribute_of (file_bytes b id)) w ≡ 0

-- "weight 16 variable size"
abbrev pub VariableSize : List ℕ → ℕ → Type 0
VariableSize b id = variable_bit (attribute_of (file_bytes b id)) ≡ 1

-- 1 to 5, 7, then 8 and 9
abbrev pub asked_tests : ℕ → List ℕ → List ℕ → Type 0 → ℕ → List Test
asked_tests d b withheld allowed id = argument_tests b withheld allowed ++ state_tests d b id

-- 8, 9, then 10 where the file is protected by weight w
unfoldable pub usable_tests : ℕ → List ℕ → ℕ → List Test
usable_tests w b id = named_tests b id ++ (asks 10 (Unprotected w b id) ∷ [])
