use Rattle.examination.proofs.MeetingLaws.{noted_none}
use Rattle.examination.proofs.chains.rule5_place.Goals as goal

pub loop-i-init : goal.loop-i-init
loop-i-init c = noted_none _
