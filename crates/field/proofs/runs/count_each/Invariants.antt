use Prim.Native.Nat.{◌≤◌, ◌-◌}
use Rattle.field.specs.Runs.{count_bits}
use mathlib.Core.Path.{◌≡◌}
use Rattle.field.proofs.runs.count_each.Given as goal

abbrev pub invariant-loop-i : goal.invariant-loop-i
invariant-loop-i l = (l.i ≤ l.count) × (l.n ≡ count_bits l.s l.base l.from l.i)

abbrev pub decreases-loop-i : goal.decreases-loop-i
decreases-loop-i l = l.count - l.i
