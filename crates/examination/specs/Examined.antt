-- What an examination of the books answers.
use Rattle.std.specs.Prelude.{◌≡◌, List, ℕ, length, Result, Ok, Err}
use Rattle.tables.specs.declared.refusal.Refusal.{Refusal}
use Rattle.tables.specs.declared.places.Places.{Places}
use Rattle.tables.specs.Gates.{Gate}
use Rattle.tables.specs.Places.{places_of, Layout}
use Rattle.tables.specs.Refusals.{number}
use Rattle.tables.specs.Rules.R1.{Stand}
use Rattle.tables.specs.Books.{Sized, Marked, Placed, place_tests, withheld_tests, book_tests, Good}
use Rattle.tables.specs.Views.{view_of}
use Rattle.tables.specs.Withheld.{Withholds}

-- books to which none of the numbers 1 to 3 applies, with their places
pub record PlacedAt (b : List ℕ) (p : Places) : Type 0 where
  pub places : p ≡ places_of b
  pub sized : Sized b
  pub marked : Marked b
  pub placed : Placed b
  pub stand : Stand p (length b)
  pub layout : Layout p (length b)

-- such books, or the first of these numbers that applies
abbrev pub PlacesFound : List ℕ → Result Places Refusal → Type 0
PlacesFound b (Ok p) = PlacedAt b p
PlacesFound b (Err e) = Gate (place_tests b) (number e)

-- and the withheld list is one that these books allow, or the first of 1 to 3 and 7 that applies
abbrev pub ListAllowed : List ℕ → List ℕ → Result Places Refusal → Type 0
ListAllowed b withheld (Ok p) = PlacedAt b p × Withholds (view_of p b) withheld
ListAllowed b withheld (Err e) = Gate (withheld_tests b withheld) (number e)

-- lawful books, with their places, or the first number that applies
abbrev pub Examined : List ℕ → List ℕ → Result Places Refusal → Type 0
Examined b withheld (Ok p) = Good b withheld p
Examined b withheld (Err e) = Gate (book_tests b withheld) (number e)
