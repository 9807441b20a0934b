-- "Actual delete: blocks freed, a zone left empty becomes (0,0,0), and the free chain becomes the file's tables in order, then the old chain."
-- Where the file has a header, "actual delete writes 0 and frees the run, whatever stood there" (W1).
use Rattle.std.specs.Prelude.{◌≡◌, List, ℕ}
use Rattle.tables.specs.Gates.{Gate}
use Rattle.tables.specs.Places.{places_of}
use Rattle.files.specs.Release.{released}
use Rattle.requests.specs.Answers.{after}
use Rattle.requests.specs.State.{recover_tests, marked_body}

-- its promise; the numbers are recover's: "Recover and actual delete need a deleted file"
pub record Deleted (b withheld body : List ℕ) (id : ℕ) (date : List ℕ) (r : ℕ) (b' body' : List ℕ) : Type 0 where
  pub number : Gate (recover_tests b withheld body id date) r
  pub books : b' ≡ after r (released (places_of b) b id date) b
  pub body'' : body' ≡ after r (marked_body b id 0 body) body
