use native.Mathlib.Omega.{arith}
use Rattle.files.proofs.HeadedLaws.{head_proper, head_countable, head_done}
use borrow.Author.Rules.{rules}
use Rattle.files.proofs.header.head_file.Goals as goal

pub put_run-requires : goal.put_run-requires
put_run-requires c =
    let a = c.args in
    record { layout = search rules; le_zone = head_proper a.p a.b.now c.requires.layout c.requires.lawful_some.1 a.f.0 c.requires.parent a.n c.requires.le_n.0 c.requires.le_n.1 a.k c.requires.k_value.0 c.requires.k_value.1 }

pub run_start-requires : goal.run_start-requires
run_start-requires c =
    let a = c.args in
    let h = head_proper a.p a.b.now c.requires.layout c.requires.lawful_some.1 a.f.0 c.requires.parent a.n c.requires.le_n.0 c.requires.le_n.1 a.k c.requires.k_value.0 c.requires.k_value.1 in
    (omega (arith, h.0), omega (arith, h.1, c.requires.layout), omega (arith, h.2))

pub free_run-requires : goal.free_run-requires
free_run-requires c =
    let a = c.args in
    record {
      layout = search rules;
      recountable = head_countable a.p a.b.now c.requires.layout c.requires.lawful_some.1 a.f.0 c.requires.parent a.n c.requires.le_n.0 c.requires.le_n.1 a.k c.requires.k_value.0 c.requires.k_value.1
          _ _ _ c.run_start.result c.pointer_at-old.result c.table.ensures.0 c.pointer_at-old.ensures.0 c.put_run.ensures c.run_start.ensures c.put_pointer.ensures;
    }

pub returns : goal.returns
returns c =
    let a = c.args in
    head_done a.p a.b.now c.requires.layout c.requires.lawful_some.1 a.f.0 c.requires.parent a.n c.requires.le_n.0 c.requires.le_n.1 a.k c.requires.k_value.0 c.requires.k_value.1
    _ _ _ c.run_start.result c.pointer_at-old.result c.table.ensures.0 c.pointer_at-old.ensures.0 c.put_run.ensures c.run_start.ensures c.put_pointer.ensures
    _ c.free_run.ensures
