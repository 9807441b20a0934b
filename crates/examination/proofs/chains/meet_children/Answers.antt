use Rattle.examination.proofs.MeetingLaws.{meets_parent, meets_none}
use borrow.Author.Rules.{rules}
use Rattle.examination.proofs.chains.meet_children.Goals as goal

pub returns-then-not-is_parent : goal.returns-then-not-is_parent
returns-then-not-is_parent c = search meets_none

pub meet_chain-requires : goal.meet_chain-requires
meet_chain-requires c = record { parent = search meets_parent; met_up_to = search rules }
