use native.Mathlib.Omega.{arith}
use Rattle.marks.proofs.MarkLaws.{tables_none, tables_more, tables_stop, tables_end, table_fits}
use mathlib.Core.Path.{◌∙◌}
use Rattle.marks.proofs.marks.mark_all.Goals as goal

pub loop-k-init : goal.loop-k-init
loop-k-init c = tables_none _ _

pub mark_claims-requires : goal.mark_claims-requires
mark_claims-requires c =
    table_fits c.args.b.now.places c.args.b.now.raw.now c.args.b.now.layout c.requires.r6 _ _ _ (omega arith) (omega arith) c.table.ensures.0 (c.loop-k.invariant.len ∙ c.requires.m_len)

pub returns-then-not-mark_claims : goal.returns-then-not-mark_claims
returns-then-not-mark_claims c = search tables_stop

pub loop-k-preserved : goal.loop-k-preserved
loop-k-preserved c = search tables_more

pub returns : goal.returns
returns c = search tables_end
