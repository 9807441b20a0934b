-- A signed argument, taken apart where it comes in: nothing where it is below 0, or a number.
use Rattle.std.specs.Prelude.{ℕ, ◌≤◌, ℤ, pos, negsuc, Option, Some, None}
use Rattle.std.specs.Option.{unwrap_or}

abbrev pub amount_of : ℤ → Option ℕ
amount_of (pos n) = Some n
amount_of (negsuc n) = None

-- the number itself, 0 where it is below 0
abbrev pub amount_value : Option ℕ → ℕ
amount_value a = unwrap_or a 0

-- an amount that a signed number holds and that is not below 0, which is 7
abbrev pub SignedAmount : Option ℕ → Type 0
SignedAmount None = ⊥
SignedAmount (Some n) = n ≤ 2147483647
