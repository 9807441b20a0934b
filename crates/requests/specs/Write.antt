-- "Write judges position, length and input buffer by the same 7s, exchanges and answers alike; write-protected: 10; position past the end, or a
-- fixed file written past its end, is 14. A variable file first grows to position plus rounded length if that is longer; a fixed file's length
-- stays. Each written sector is filled where it lies in the body. Zero bytes after rounding changes nothing; otherwise weight 2 is cleared."
use Rattle.std.specs.Prelude.{◌≡◌, ◌≢◌, Bool, cond, List, ◌∷◌, ◌++◌, ℕ, ◌+◌, ◌-◌, ◌*◌, ◌/◌, ◌%◌, ◌≤◌, ◌<◌, eqb, length, Result, IfOk, Option}
use Rattle.tables.specs.declared.refusal.Refusal.{Refusal}
use Rattle.tables.specs.Refusals.{number_of}
use Rattle.tables.specs.Dates.{Date}
use Rattle.tables.specs.Indexes.{attribute_of, variable_bit}
use Rattle.tables.specs.Places.{places_of}
use Rattle.tables.specs.Gates.{Test, asks, Gate}
use Rattle.tables.specs.Views.{view_of}
use Rattle.files.specs.Moves.{filled}
use Rattle.requests.specs.Answers.{after, argument_tests}
use Rattle.requests.specs.Body.{body_test}
use Rattle.requests.specs.Amounts.{amount_value}
use Rattle.requests.specs.Grow.{lack_tests, grown_to}
use Rattle.requests.specs.Named.{file_bytes, usable_tests}
use Rattle.requests.specs.Moving.{whole_sectors, end_of, MoveAllowed}
use Rattle.requests.specs.State.{put_state}

-- ---- the numbers

-- what write asks of its arguments: what read asks, and a date
pub record WriteAllowed (position long : Option ℕ) (room : ℕ) (date : List ℕ) : Type 0 where
  pub move : MoveAllowed position long room
  pub date' : Date date

-- n bytes at a position that is not past the end, and in a fixed file within it
pub record Within (b : List ℕ) (id at n : ℕ) : Type 0 where
  pub position : at ≤ end_of b id
  pub fixed : variable_bit (attribute_of (file_bytes b id)) ≡ 0 → at + n ≤ end_of b id

-- the byte length that is asked for: position plus length of a variable file, 0 for a fixed file and where no byte is written
unfoldable pub asked_length : List ℕ → ℕ → ℕ → ℕ → ℕ
asked_length b id at n = cond (eqb n 0) 0 (cond (eqb (variable_bit (attribute_of (file_bytes b id))) 1) (at + n) 0)

-- 8, 9, 10, 14, then 12 and 13 for the growth
unfoldable pub move_tests : List ℕ → ℕ → ℕ → ℕ → List Test
unfolding asked_length
move_tests b id at n = usable_tests 4 b id ++ (asks 14 (Within b id at n) ∷ lack_tests b id (asked_length b id at n))

-- 1 to 5, 7, 15, then these
unfoldable pub write_tests : List ℕ → List ℕ → List ℕ → ℕ → Option ℕ → Option ℕ → ℕ → List ℕ → List Test
unfolding move_tests
write_tests b withheld body id position long room date =
    argument_tests b withheld (WriteAllowed position long room date) ++ (body_test b body ∷ move_tests b id (amount_value position) (whole_sectors (amount_value long)))

-- ---- the books

-- "weight 2 is cleared"
unfoldable pub settled : ℕ → ℕ
settled a = a - a / 2 % 2 * 2

-- the file, once it has grown, with weight 2 cleared and the date stored
unfoldable pub settle : List ℕ → ℕ → List ℕ → List ℕ
unfolding settled put_state
settle b id date = put_state (places_of b) b id (settled (attribute_of (file_bytes b id))) date

-- "Zero bytes after rounding changes nothing"
unfoldable pub written_books : List ℕ → ℕ → ℕ → ℕ → List ℕ → List ℕ
unfolding settle grown_to asked_length
written_books b id at n date = cond (eqb n 0) b (settle (grown_to b id (asked_length b id at n) date) id date)

-- ---- the body: the file's sectors are those it has once it has grown

unfoldable pub written_body : List ℕ → ℕ → ℕ → ℕ → Bool → List ℕ → List ℕ → List ℕ → List ℕ
unfolding written_books
written_body b id at n exchange input date body =
    let b' = written_books b id at n date in filled (view_of (places_of b') b') id (at / 1024) exchange input body (n / 1024)

-- write's promise
pub record Wrote (b withheld body : List ℕ) (id : ℕ) (position long : Option ℕ) (exchange : Bool) (input date : List ℕ) (r : Result ℕ Refusal) (b' body' : List ℕ) : Type 0 where
  pub number : Gate (write_tests b withheld body id position long (length input) date) (number_of r)
  pub answer : IfOk r (λ (n : ℕ). n ≡ whole_sectors (amount_value long))
  pub books : b' ≡ after (number_of r) (written_books b id (amount_value position) (whole_sectors (amount_value long)) date) b
  pub body'' : body' ≡ after (number_of r) (written_body b id (amount_value position) (whole_sectors (amount_value long)) exchange input date body) body

-- what the writing of the books asks: some bytes, and room for the growth
pub record Writes (b : List ℕ) (id at n : ℕ) (date : List ℕ) : Type 0 where
  pub some : n ≢ 0
  pub small : at + n < 4294967296
  pub room : Gate (lack_tests b id (asked_length b id at n)) 0
  pub date' : length date ≡ 6
