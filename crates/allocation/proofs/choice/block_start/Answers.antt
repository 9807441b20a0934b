use Rattle.allocation.specs.Choice.{block_start}
use Rattle.allocation.proofs.NextBlockLaws.{block_inside}
use native.Mathlib.Omega.{arith}
use Prim.Native.Nat.{◌+◌, ◌*◌, ◌≤◌}
use borrow.Author.Rules.{rules}
use Rattle.allocation.proofs.choice.block_start.Goals as goal

pub overflow_mul-result : goal.overflow_mul-result
overflow_mul-result c =
    let inside : c.args.k.number * c.block_sectors.result + c.block_sectors.result ≤ 1024
    = block_inside _ _ _ c.block_sectors.ensures.0 c.block_sectors.ensures.1 (search rules) in
    omega arith

pub overflow_add-result : goal.overflow_add-result
overflow_add-result c =
    let inside : c.args.k.number * c.block_sectors.result + c.block_sectors.result ≤ 1024
    = block_inside _ _ _ c.block_sectors.ensures.0 c.block_sectors.ensures.1 (search rules) in
    omega arith

pub returns : goal.returns
unfolding block_start
returns c = cc
