-- "Numbers a request can answer. Examined in this order; the first that applies is given."
use Rattle.std.specs.Prelude.{◌≡◌, ◌⊎◌, ◌≢◌, ℕ, List, [], ◌∷◌}

-- a number, and the condition that must hold for it not to apply
pub record Test : Type 1 where
  pub number : ℕ
  pub passes : Type 0

abbrev pub asks : ℕ → Type 0 → Test
asks n P = record { number = n; passes = P }

-- r is the first number whose condition fails, 0 if none does; no number is 0
unfoldable pub Gate : List Test → ℕ → Type 0
Gate [] r = r ≡ 0
Gate (t ∷ ts) r = (t.passes × Gate ts r) ⊎ ((t.passes → ⊥) × (r ≡ t.number) × (r ≢ 0))
