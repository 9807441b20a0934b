use Rattle.examination.proofs.MeetingLaws.{child_says}
use borrow.Author.Rules.{rules}
use Rattle.examination.proofs.children.child_number.Goals as goal

pub returns-then-i-b : goal.returns-then-i-b
returns-then-i-b c = search (child_says, rules)
