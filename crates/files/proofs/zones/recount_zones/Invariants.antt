use Rattle.std.proofs.Common.{length, ◌≡◌}
use Rattle.files.proofs.RecountLaws.{Counted}
use Rattle.files.proofs.zones.recount_zones.Given as goal

abbrev pub invariant-loop-z : goal.invariant-loop-z
invariant-loop-z l = Counted l.p l.initial.b l.b l.z × (length l.b ≡ length l.initial.b)
