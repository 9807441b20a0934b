use Rattle.examination.proofs.FindingLaws.{says_yes}
use Rattle.examination.proofs.MeetingLaws.{chain_parent, chain_child}
use borrow.Author.Rules.{rules}
use Rattle.examination.proofs.chains.in_chain.Goals as goal

pub returns-then-is_parent : goal.returns-then-is_parent
returns-then-is_parent c = search (says_yes, chain_parent, rules)

pub returns-else-is_parent : goal.returns-else-is_parent
returns-else-is_parent c = search (chain_child, rules)
