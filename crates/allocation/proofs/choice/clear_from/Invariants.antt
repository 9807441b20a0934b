use Rattle.tables.specs.Sectors.{sector_at}
use Prim.Native.Nat.{ℕ, ◌+◌, ◌-◌, ◌*◌, ◌≤◌, ◌<◌}
use mathlib.Core.Logic.{◌≢◌}
use Rattle.allocation.proofs.choice.clear_from.Given as goal

abbrev pub invariant-loop-k : goal.invariant-loop-k
invariant-loop-k l = (l.from ≤ l.k) × (l.k ≤ l.last) × ((j : ℕ) → j < l.k → l.from ≤ j → sector_at l.b.places l.b.raw.now (l.first + j * l.size) ≢ 0)

abbrev pub decreases-loop-k : goal.decreases-loop-k
decreases-loop-k l = l.last - l.k
