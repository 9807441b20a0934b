use Prim.Native.Nat.{◌+◌}
use lib.ListN.{length}
use Rattle.patterns.proofs.pattern.+three_way.Given as goal

-- what is left of the pattern and of the name
abbrev pub decreases-three_way : goal.decreases-three_way
decreases-three_way l = length l.pattern.now + length l.name.now
