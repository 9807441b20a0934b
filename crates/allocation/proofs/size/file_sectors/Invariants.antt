use Rattle.allocation.proofs.SizeLaws.{Summing}
use Rattle.allocation.proofs.size.file_sectors.Given as goal

abbrev pub invariant-loop-i : goal.invariant-loop-i
invariant-loop-i l = Summing l.b.places l.b.raw.now l.f.0 l.n l.i
