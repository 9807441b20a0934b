-- A law of each place, zones or index tables by number, from one on.
use Rattle.std.specs.Prelude.{ℕ, ◌≤◌, ◌<◌}

-- P holds at each place from `from` on, below n
abbrev pub Each : (ℕ → Type 0) → ℕ → ℕ → Type 0
Each P from n = (k : ℕ) → k < n → from ≤ k → P k
