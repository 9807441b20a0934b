use Rattle.files.proofs.ReleaseLaws.{Freeing}
use Prim.Native.Nat.{◌-◌}
use Rattle.files.proofs.release.free_tables.Given as goal

abbrev pub invariant-loop-i : goal.invariant-loop-i
invariant-loop-i l = Freeing l.p l.initial.b l.initial.i.0 l.b l.i.0 l.n

abbrev pub decreases-loop-i : goal.decreases-loop-i
decreases-loop-i l = 4096 - l.n
