use Rattle.examination.proofs.CheckLaws.{list_refused, refused_4}
use borrow.Author.Rules.{rules}
use Rattle.examination.proofs.check.check.Goals as goal

pub returns-in_err-p : goal.returns-in_err-p
returns-in_err-p c = search (list_refused, rules)

pub returns-then-not-rules_hold : goal.returns-then-not-rules_hold
returns-then-not-rules_hold c = search (refused_4, rules)
