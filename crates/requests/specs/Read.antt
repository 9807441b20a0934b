-- "Read: the end is the byte length rounded up to 1,024. Position negative or no multiple of 1,024, or wanted length negative: 7. Position at
-- or past the end: 14. The wanted length is rounded down to a multiple of 1,024; a shorter output buffer gives 7; the smaller of it and what
-- remains is moved and answered, byte pairs exchanged if asked; the rest of the buffer stays. Read-protected: 10."
use Rattle.std.specs.Prelude.{◌≡◌, Bool, cond, List, [], ◌∷◌, ◌++◌, ℕ, ◌-◌, ◌/◌, ◌<◌, leb, length, Result, IfOk, Option}
use Rattle.tables.specs.declared.refusal.Refusal.{Refusal}
use Rattle.tables.specs.Refusals.{number_of}
use Rattle.tables.specs.Places.{places_of}
use Rattle.tables.specs.Gates.{Test, asks, Gate}
use Rattle.tables.specs.Views.{view_of}
use Rattle.files.specs.Moves.{fetched}
use Rattle.requests.specs.Answers.{after, argument_tests}
use Rattle.requests.specs.Body.{body_test}
use Rattle.requests.specs.Amounts.{amount_value}
use Rattle.requests.specs.Moving.{whole_sectors, end_of, MoveAllowed}
use Rattle.requests.specs.Named.{usable_tests}

-- 1 to 5, 7, 15, 8, 9, 10, then 14
unfoldable pub read_tests : List ℕ → List ℕ → List ℕ → ℕ → Option ℕ → Option ℕ → ℕ → List Test
read_tests b withheld body id position long room =
    argument_tests b withheld (MoveAllowed position long room) ++ (body_test b body ∷ (usable_tests 8 b id ++ (asks 14 (amount_value position < end_of b id) ∷ [])))

-- "the smaller of it and what remains"
unfoldable pub read_amount : List ℕ → ℕ → ℕ → ℕ → ℕ
read_amount b id at long = cond (leb (whole_sectors long) (end_of b id - at)) (whole_sectors long) (end_of b id - at)

-- the output buffer with so many bytes moved
abbrev pub read_out : List ℕ → List ℕ → ℕ → ℕ → ℕ → Bool → List ℕ → List ℕ
read_out b body id at n exchange out = fetched (view_of (places_of b) b) id (at / 1024) exchange body out (n / 1024)

-- read's promise
pub record ReadOut (b withheld body : List ℕ) (id : ℕ) (position long : Option ℕ) (exchange : Bool) (out : List ℕ) (r : Result ℕ Refusal) (out' : List ℕ) : Type 0 where
  pub number : Gate (read_tests b withheld body id position long (length out)) (number_of r)
  pub answer : IfOk r (λ (n : ℕ). n ≡ read_amount b id (amount_value position) (amount_value long))
  pub output : out' ≡ after (number_of r) (read_out b body id (amount_value position) (read_amount b id (amount_value position) (amount_value long)) exchange out) out
