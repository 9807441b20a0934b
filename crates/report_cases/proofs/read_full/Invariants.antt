use Prim.Native.Nat.{◌≤◌}
use lib.ListN.{length}
use Rattle.report_cases.proofs.read_full.Given as goal

abbrev pub invariant-loop : goal.invariant-loop
invariant-loop g l = l.done ≤ length l.buffer
