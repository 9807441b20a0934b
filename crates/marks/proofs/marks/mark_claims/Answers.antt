use Rattle.marks.proofs.MarkLaws.{claims_stop, claims_more}
use Rattle.marks.proofs.marks.mark_claims.Goals as goal

pub returns-then-mark_pointers : goal.returns-then-mark_pointers
returns-then-mark_pointers c = claims_more _ _ _ _ c.if-mark_pointers.ensures _ _ c.mark_header_run.ensures

pub returns-else-mark_pointers : goal.returns-else-mark_pointers
returns-else-mark_pointers c = search claims_stop
