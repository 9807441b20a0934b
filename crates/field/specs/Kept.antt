-- The frame of a write: b' is b but for the n bytes from o on.
use Rattle.std.specs.Prelude.{◌≡◌, ◌⊎◌, ℕ, ◌+◌, ◌≤◌, List, get_or, length}

-- the n bytes from o on and the m bytes from p on do not meet
abbrev pub Apart : ℕ → ℕ → ℕ → ℕ → Type 0
Apart o n p m = (o + n ≤ p) ⊎ (p + m ≤ o)

pub record Kept (b b' : List ℕ) (o n : ℕ) : Type 0 where
  pub len : length b' ≡ length b
  pub out : (j : ℕ) → Apart j 1 o n → get_or b' j 0 ≡ get_or b j 0
