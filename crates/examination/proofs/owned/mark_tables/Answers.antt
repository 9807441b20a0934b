use native.Mathlib.Omega.{arith}
use Rattle.marks.proofs.MarkLaws.{table_fits}
use Rattle.examination.proofs.LimitLaws.{all_none, all_more, all_end}
use borrow.Author.Rules.{rules}
use Rattle.examination.proofs.owned.mark_tables.Goals as goal

pub loop-k-init : goal.loop-k-init
loop-k-init c = search (all_none, rules)

pub mark_table-low-requires : goal.mark_table-low-requires
mark_table-low-requires c =
    table_fits c.args.b.now.places c.args.b.now.raw.now c.args.b.now.layout c.requires.r6 _ _ _ (omega arith) (omega arith) c.table.ensures.0 c.loop-k.invariant.long

pub loop-k-preserved : goal.loop-k-preserved
loop-k-preserved c =
    all_more _ _ _ _ _ _ c.loop-k.invariant _ _ _ c.table.ensures.0 c.mark_table-low.ensures

pub returns : goal.returns
returns c = search (all_end, rules)
