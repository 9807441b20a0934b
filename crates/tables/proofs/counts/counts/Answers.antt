use Rattle.tables.proofs.CountsLaws.{counts_more, counts_end, rest_le}
use Rattle.tables.specs.Counts.{counts_of}
use lib.ListN.{length-set}
use native.Mathlib.Omega.{arith}
use mathlib.Core.Path.{refl}
use Prim.Native.Nat.{◌-◌}
use Rattle.tables.proofs.counts.counts.Goals as goal

pub loop-i-init : goal.loop-i-init
unfolding counts_of
loop-i-init c = (omega arith, refl, refl)

pub loop-i-preserved : goal.loop-i-preserved
loop-i-preserved c =
    let s = c.share_of-s.ensures in
    (omega (arith, rest_le c.args.flag (8 - c.loop-i.i) c.loop-i.rest, s.passed), simp length-set (omega arith), search counts_more)

pub returns : goal.returns
returns c =
    counts_end c.args.flag c.loop-i.rest c.loop-i.i c.loop-i.c _ (omega arith) (omega arith) c.loop-i.invariant.2
