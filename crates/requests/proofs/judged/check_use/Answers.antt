-- The judge's number.
use borrow.Author.Rules.{rules}
use Rattle.requests.proofs.JudgedLaws.{use_judged}
use Rattle.requests.proofs.judged.check_use.Goals as goal

pub returns-in_err-judge : goal.returns-in_err-judge
returns-in_err-judge c = search (use_judged, rules)

pub returns : goal.returns
returns c = search (use_judged, rules)
