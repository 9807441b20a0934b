use Rattle.examination.proofs.MeetingLaws.{meeting_none, meeting_more, meeting_stop, number_small, left_less}
use Rattle.examination.proofs.chains.meet_chain.Goals as goal

pub loop-of-init : goal.loop-of-init
loop-of-init c = search meeting_none

pub returns-then-met-k-eq-TWICE : goal.returns-then-met-k-eq-TWICE
returns-then-met-k-eq-TWICE c = search meeting_stop

pub loop-of-smaller : goal.loop-of-smaller
loop-of-smaller c = search (left_less, number_small)

pub loop-of-preserved : goal.loop-of-preserved
loop-of-preserved c = search meeting_more
