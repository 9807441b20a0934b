use Rattle.examination.proofs.LimitLaws.{pointers_none, pointers_more, pointers_end}
use Rattle.marks.proofs.MarkLaws.{slot_in}
use borrow.Author.Rules.{rules}
use Rattle.examination.proofs.owned.pointers_below.Goals as goal

pub loop-j-init : goal.loop-j-init
loop-j-init c = search (pointers_none, rules)

pub pointer_at-q-requires : goal.pointer_at-q-requires
pointer_at-q-requires c = record { t_len = search rules; at_bound = search slot_in }

pub loop-j-preserved : goal.loop-j-preserved
loop-j-preserved c =
    pointers_more _ _ _ _ _ _ _ c.loop-j.invariant c.pointer_at-q.result _ _ c.pointer_at-q.ensures.0 c.mark_below-low.ensures

pub returns : goal.returns
returns c = search (pointers_end, rules)
