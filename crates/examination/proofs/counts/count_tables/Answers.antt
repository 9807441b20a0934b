use native.Mathlib.Omega.{arith}
use Rattle.examination.proofs.CountedLaws.{counted_none, counted_more, counted_few, counted_all}
use borrow.Author.Rules.{rules}
use Rattle.examination.proofs.counts.count_tables.Goals as goal

pub loop-k-init : goal.loop-k-init
loop-k-init c = search (counted_none, rules)

pub count_table-c-requires : goal.count_table-c-requires
count_table-c-requires c = record { few = counted_few _ _ _ c.loop-k.invariant (omega arith); le_i = search rules }

pub loop-k-preserved : goal.loop-k-preserved
loop-k-preserved c = search (counted_more, rules)

pub returns : goal.returns
returns c = search (counted_all, rules)
