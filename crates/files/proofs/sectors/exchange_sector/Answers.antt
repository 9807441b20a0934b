use mathlib.Core.Path.{refl}
use native.Mathlib.Omega.{arith}
use lib.ListN.{length-set}
use lib.Seq.{paste-zero}
use Prim.Native.Nat.{◌*◌}
use Rattle.files.specs.Moves.{exchanged}
use Rattle.files.proofs.SectorLaws.{exchange_more, exchange_end}
use Rattle.files.proofs.sectors.exchange_sector.Goals as goal

pub loop-k-init : goal.loop-k-init
loop-k-init c = (paste-zero c.args.dst.now 0 (exchanged c.args.src.now), refl)

pub loop-k-preserved : goal.loop-k-preserved
loop-k-preserved c =
    let l = c.loop-k in
    let a = c.args in
    (exchange_more a.dst.now a.src.now l.dst l.k l.invariant.0 (omega arith) (omega arith), simp length-set l.invariant.1)

pub returns : goal.returns
returns c =
    let a = c.args in
    exchange_end a.dst.now a.src.now c.loop-k.dst (2 * c.loop-k.k) c.loop-k.invariant.0 (omega arith) (omega arith)
