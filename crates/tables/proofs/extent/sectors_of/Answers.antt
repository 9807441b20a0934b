use native.Mathlib.Omega.{arith}
use Rattle.tables.proofs.IndexLaws.{slots_in}
use Rattle.tables.proofs.ExtentLaws.{sectors_none, sectors_more, sectors_all}
use Rattle.tables.proofs.extent.sectors_of.Goals as goal

pub loop-j-init : goal.loop-j-init
loop-j-init c = search sectors_none

pub pointer_at-sum-requires-clause-at_bound : goal.pointer_at-sum-requires-clause-at_bound
pointer_at-sum-requires-clause-at_bound c = omega (arith, slots_in c.args.i.0 c.args.t.now)

pub loop-j-preserved : goal.loop-j-preserved
loop-j-preserved c = search sectors_more

pub returns : goal.returns
returns c = search sectors_all
