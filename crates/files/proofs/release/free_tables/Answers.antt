use native.Mathlib.Omega.{arith}
use Rattle.files.proofs.ReleaseLaws.{freeing_none, freeing_layout, freeing_in, freeing_within, freeing_few, freeing_more, freeing_end}
use Rattle.files.proofs.release.free_tables.Goals as goal

pub loop-i-init : goal.loop-i-init
loop-i-init c = search freeing_none

pub free_table-requires : goal.free_table-requires
free_table-requires c = record { layout = search freeing_layout; le_i = freeing_in _ _ _ _ _ _ c.loop-i.invariant c.loop-i-test.true; runs_within = search freeing_within }

pub table-requires : goal.table-requires
table-requires c = record { le_i = freeing_in _ _ _ _ _ _ c.loop-i.invariant c.loop-i-test.true }

pub overflow_add-n : goal.overflow_add-n
overflow_add-n c =
    omega (arith, freeing_few _ _ _ _ _ _ c.loop-i.invariant c.loop-i-test.true)

pub loop-i-smaller : goal.loop-i-smaller
loop-i-smaller c =
    omega (arith, freeing_few _ _ _ _ _ _ c.loop-i.invariant c.loop-i-test.true)

pub loop-i-preserved : goal.loop-i-preserved
loop-i-preserved c =
    freeing_more _ _ _ _ _ _ c.loop-i.invariant c.loop-i-test.true _ _ _ c.free_table.ensures c.table.ensures.0 c.link-i.ensures

pub returns : goal.returns
returns c = freeing_end _ _ _ _ _ _ c.loop-i.invariant c.loop-i-test.false
