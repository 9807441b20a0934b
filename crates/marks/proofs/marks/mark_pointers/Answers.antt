use Rattle.marks.proofs.MarkLaws.{first_none, first_more, first_stop, first_rest, first_end, slot_in, pointer_room, still_long}
use borrow.Author.Rules.{rules}
use Rattle.marks.proofs.marks.mark_pointers.Goals as goal

pub loop-j-init : goal.loop-j-init
loop-j-init c = first_none _ _ _

pub pointer_at-q-requires-clause-at_bound : goal.pointer_at-q-requires-clause-at_bound
pointer_at-q-requires-clause-at_bound c = search slot_in

pub returns-then-q-eq0 : goal.returns-then-q-eq0
returns-then-q-eq0 c = search first_rest

pub mark_run-requires : goal.mark_run-requires
mark_run-requires c = record { m_len = search still_long; count_bound = search pointer_room }

pub returns-then-not-mark_run : goal.returns-then-not-mark_run
returns-then-not-mark_run c = search first_stop

pub loop-j-preserved : goal.loop-j-preserved
loop-j-preserved c =
    let k = c.mark_run in
    first_more _ _ _ _ _ c.loop-j.invariant c.pointer_at-q.result c.pointer_at-q.ensures.0 k.result _ k.ensures (search rules)

pub returns : goal.returns
returns c = search first_end
