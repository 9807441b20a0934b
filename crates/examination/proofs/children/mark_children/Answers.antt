use Rattle.examination.proofs.ChildLaws.{before_starts, before_skip}
use Rattle.examination.proofs.children.mark_children.Goals as goal

pub returns-then-not-is_parent : goal.returns-then-not-is_parent
returns-then-not-is_parent c = search before_skip

pub mark_chain-requires : goal.mark_chain-requires
mark_chain-requires c = record { starts = search before_starts }
