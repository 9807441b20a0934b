use lib.ListN.{length}
use mathlib.Core.Path.{◌≡◌}
use Rattle.tables.specs.Format.{put_links}
use Rattle.tables.proofs.format.write_links.Given as goal

abbrev pub invariant-loop-k : goal.invariant-loop-k
invariant-loop-k l = (l.b ≡ put_links l.p l.initial.b l.k) × (length l.b ≡ length l.initial.b)
