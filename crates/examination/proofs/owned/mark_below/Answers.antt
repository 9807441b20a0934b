use mathlib.Core.Bool.{true}
use Rattle.marks.proofs.MarkLaws.{run_none, run_more}
use Rattle.examination.proofs.LimitLaws.{run_far, run_twice}
use borrow.Author.Rules.{rules}
use Rattle.examination.proofs.owned.mark_below.Goals as goal

pub loop-i-init : goal.loop-i-init
loop-i-init c = run_none _ _

pub returns-then-s-limit : goal.returns-then-s-limit
returns-then-s-limit c = search (run_far, rules)

pub returns-then-mark_of-ne0 : goal.returns-then-mark_of-ne0
returns-then-mark_of-ne0 c = search (run_twice, rules)

pub loop-i-preserved : goal.loop-i-preserved
loop-i-preserved c = search (run_more true)
