use Rattle.std.proofs.Common.{length, ◌≡◌, ◌*◌}
use lib.Seq.{paste}
use Rattle.files.specs.Moves.{exchanged}
use Rattle.files.proofs.sectors.exchange_sector.Given as goal

abbrev pub invariant-loop-k : goal.invariant-loop-k
invariant-loop-k l = (l.dst ≡ paste l.initial.dst 0 (exchanged l.src) (2 * l.k)) × (length l.dst ≡ length l.initial.dst)
