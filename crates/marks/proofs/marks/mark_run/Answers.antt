use Rattle.marks.proofs.MarkLaws.{run_none, run_more, run_stop, run_end}
use borrow.Author.Rules.{rules}
use Rattle.marks.proofs.marks.mark_run.Goals as goal

pub loop-i-init : goal.loop-i-init
loop-i-init c = (search rules, run_none _ _)

pub returns-then-not-mark_piece : goal.returns-then-not-mark_piece
returns-then-not-mark_piece c = search run_stop

pub loop-i-preserved : goal.loop-i-preserved
loop-i-preserved c = (search rules, search run_more)

pub returns : goal.returns
returns c = search run_end
