use Rattle.tables.specs.Counts.{counts_down, counts_of}
use lib.ListN.{length, take}
use mathlib.Core.List.{◌++◌}
use mathlib.Core.Path.{◌≡◌}
use Prim.Native.Nat.{◌≤◌, ◌-◌}
use Rattle.tables.proofs.counts.counts.Given as goal

abbrev pub invariant-loop-i : goal.invariant-loop-i
invariant-loop-i l = (l.rest ≤ 2147483647) × (length l.c ≡ 6) × (take l.i l.c ++ counts_down l.flag l.rest (6 - l.i) ≡ counts_of l.flag l.size)
