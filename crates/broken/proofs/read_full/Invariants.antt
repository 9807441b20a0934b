use Prim.Native.Nat.{◌≤◌}
use lib.ListN.{length}
use Rattle.broken.proofs.read_full.Given as goal

abbrev pub invariant-loop : goal.invariant-loop
invariant-loop g l = l.done ≤ length l.buffer
