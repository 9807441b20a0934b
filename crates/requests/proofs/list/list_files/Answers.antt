use Rattle.requests.proofs.ListLaws.{filled_none, filled_more}
use borrow.Author.Rules.{rules}
use Rattle.requests.proofs.list.list_files.Goals as goal

pub loop-i-init : goal.loop-i-init
loop-i-init c = search filled_none

pub loop-i-preserved : goal.loop-i-preserved
loop-i-preserved c = search (filled_more, rules)
