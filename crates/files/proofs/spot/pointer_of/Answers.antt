use native.Mathlib.Omega.{arith}
use Rattle.files.proofs.SeekLaws.{slot_few, pointer_in_lem, pointer_is}
use borrow.Author.Rules.{rules}
use Rattle.files.proofs.spot.pointer_of.Goals as goal

pub overflow_mul-c : goal.overflow_mul-c
overflow_mul-c c = omega (arith, slot_few _ _ c.requires.on_table)

pub overflow_add-base : goal.overflow_add-base
overflow_add-base c = omega (arith, slot_few _ _ c.requires.on_table)

pub pointer_at-requires : goal.pointer_at-requires
pointer_at-requires c = record { t_len = search rules; at_bound = search pointer_in_lem }

pub returns : goal.returns
returns c =
    let q = c.pointer_at in
    let a = c.args in
    pointer_is a.b.now.places a.b.now.raw.now a.c _ _ c.table-t.ensures.0 c.base.ensures.0 q.result q.ensures.0 q.ensures.1
