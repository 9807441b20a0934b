use Rattle.field.specs.Runs.{AllBits}
use Prim.Native.Nat.{◌≤◌, ◌-◌}
use Rattle.field.proofs.runs.bits_each.Given as goal

abbrev pub invariant-loop-i : goal.invariant-loop-i
invariant-loop-i l = (l.i ≤ l.count) × AllBits l.s l.base l.from l.i l.v

abbrev pub decreases-loop-i : goal.decreases-loop-i
decreases-loop-i l = l.count - l.i
