-- The books' numbers first, then the flag's.
use borrow.Author.Rules.{rules}
use Rattle.requests.proofs.JudgedLaws.{judge_refused, judge_flag, judge_fine}
use Rattle.requests.proofs.judged.judge.Goals as goal

pub returns-then-flag-f : goal.returns-then-flag-f
returns-then-flag-f c = search (judge_flag, rules)

pub returns-in_err-p : goal.returns-in_err-p
returns-in_err-p c = search (judge_refused, rules)

pub returns : goal.returns
returns c = search (judge_fine, rules)
