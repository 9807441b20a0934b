-- What the judge of a request's first numbers finds: the places of good books, or a number.
use Rattle.std.specs.Prelude.{List, ℕ, Result, Ok, Err}
use Rattle.tables.specs.declared.places.Places.{Places}
use Rattle.tables.specs.declared.refusal.Refusal.{Refusal}
use Rattle.tables.specs.Gates.{Test, Gate}
use Rattle.tables.specs.Books.{GoodSome}
use Rattle.tables.specs.Refusals.{number}

-- by these tests
abbrev pub Judged : List Test → List ℕ → Result Places Refusal → Type 0
Judged tests b (Ok p) = GoodSome b p × Gate tests 0
Judged tests b (Err e) = Gate tests (number e)
