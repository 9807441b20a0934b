-- What a rule's examination answers, where the rule speaks of each place separately: it holds, or the lowest place where it fails.
use Rattle.std.specs.Prelude.{Bool, true, false, ℕ, ◌≤◌, ◌<◌, Option, Some, None}
use Rattle.field.specs.Says.{Says}
use Rattle.tables.specs.Each.{Each}

-- k is the lowest of these places where P fails
pub record Lowest (P : ℕ → Type 0) (from n k : ℕ) : Type 0 where
  pub low : from ≤ k
  pub high : k < n
  pub fails : P k → ⊥
  pub below : Each P from k

abbrev pub Finds : (ℕ → Type 0) → ℕ → ℕ → Option ℕ → Type 0
Finds P from n None = Each P from n
Finds P from n (Some k) = Lowest P from n k

-- the rule holds at every place
abbrev pub holds_at : Option ℕ → Bool
holds_at None = true
holds_at (Some k) = false

-- the lowest place is named if it is sought; else a place that is named says only that there is one
abbrev pub Seeks : Bool → (ℕ → Type 0) → ℕ → ℕ → Option ℕ → Type 0
Seeks true P from n f = Finds P from n f
Seeks false P from n f = Says (holds_at f) (Each P from n)
