-- "Format takes any books content and answers 1, 3 (limits, or S too small) or 7 (date, text longer than its field)."
use Rattle.std.specs.Prelude.{◌≡◌, ℕ, List, [], ◌∷◌, length, Option, Some, None}
use Rattle.tables.specs.Gates.{Test, asks, Gate}
use Rattle.tables.specs.Books.{Sized}
use Rattle.tables.specs.Format.{Label, Formattable, Writable, formatted}
use Rattle.requests.specs.Amounts.{amount_value}
use Rattle.requests.specs.Answers.{after}

-- Z and N are allowed, and the tables find room in books of len bytes
abbrev pub Fits : ℕ → Option ℕ → Option ℕ → Type 0
Fits len (Some z) (Some n) = Formattable len z n
Fits len (Some z) None = ⊥
Fits len None n = ⊥

abbrev pub format_tests : List ℕ → Option ℕ → Option ℕ → Label → List Test
format_tests b z n l = asks 1 (Sized b) ∷ asks 3 (Fits (length b) z n) ∷ asks 7 (Writable l) ∷ []

-- format's promise: its number, and every byte of the books afterwards
pub record Formatted (b : List ℕ) (z n : Option ℕ) (l : Label) (r : ℕ) (b' : List ℕ) : Type 0 where
  pub number : Gate (format_tests b z n l) r
  pub books : b' ≡ after r (formatted (length b) (amount_value z) (amount_value n) l) b
