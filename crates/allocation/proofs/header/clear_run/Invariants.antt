use Rattle.field.specs.Sum.{sum_to}
use Rattle.tables.specs.Sectors.{sector_at}
use Prim.Native.Nat.{ℕ, ◌+◌, ◌-◌, ◌≤◌, ◌<◌}
use mathlib.Core.Path.{◌≡◌}
use Rattle.allocation.proofs.header.clear_run.Given as goal

abbrev pub invariant-loop-from : goal.invariant-loop-from
invariant-loop-from l =
    (l.free < l.n) × (l.from + l.free ≤ 1024) × (sum_to l.free (λ i. sector_at l.b.places l.b.raw.now (l.first + l.from + i)) ≡ 0) × ((j : ℕ) → j < l.from → 0 < sum_to l.n (λ i. sector_at l.b.places l.b.raw.now (l.first + j + i)))

abbrev pub decreases-loop-from : goal.decreases-loop-from
decreases-loop-from l = 1024 - (l.from + l.free)
