-- The marks by which R7's lowest place is found: exact below a limit, which is the lowest sector that was met marked already.
use Rattle.std.specs.Prelude.{◌≡◌, ◌⊎◌, List, ℕ, ◌+◌, ◌≤◌, ◌<◌, length}
use Rattle.marks.specs.Marks.{mark_at}

-- D counts what lies over each sector. Below the limit the marks are these counts, so none is over 1; at the limit the count is over 1, or
-- the limit is the end
pub record Limited (m : List ℕ) (limit : ℕ) (D : ℕ → ℕ) (end : ℕ) : Type 0 where
  pub long : length m ≡ 4096
  pub most : limit ≤ end
  pub bits : (s : ℕ) → s < limit → mark_at m s ≡ D s
  pub twice : (limit ≡ end) ⊎ (2 ≤ D limit)

-- D was added to what the marks m counted below `limit`, whatever that was: m' and limit' are what has become of them
pub record Lowers (m : List ℕ) (limit : ℕ) (D : ℕ → ℕ) (m' : List ℕ) (limit' : ℕ) : Type 0 where
  pub long : length m' ≡ 4096
  pub lower : limit' ≤ limit
  pub bits : (s : ℕ) → s < limit' → mark_at m' s ≡ mark_at m s + D s
  pub twice : (limit' ≡ limit) ⊎ (2 ≤ mark_at m limit' + D limit')

-- at sector s, whose bit is bit s: it lies below the limit, and its mark is its bit
abbrev pub MarkLaw : List ℕ → ℕ → (ℕ → ℕ) → ℕ → Type 0
MarkLaw m limit bit s = (s < limit) × (bit s ≡ mark_at m s)
