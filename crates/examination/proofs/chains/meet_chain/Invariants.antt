use Rattle.examination.proofs.MeetingLaws.{Meeting, all_left}
use Rattle.tables.specs.Views.{view_of}
use Rattle.examination.proofs.chains.meet_chain.Given as goal

abbrev pub invariant-loop-of : goal.invariant-loop-of
invariant-loop-of l = Meeting (view_of l.b.places l.b.raw.now) l.of.0 l.met l.at.0

abbrev pub decreases-loop-of : goal.decreases-loop-of
decreases-loop-of l = all_left l.met
