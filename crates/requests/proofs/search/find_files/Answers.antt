use Rattle.requests.proofs.SearchRequestLaws.{sought_none, sought_more}
use borrow.Author.Rules.{rules}
use Rattle.requests.proofs.search.find_files.Goals as goal

pub loop-i-init : goal.loop-i-init
loop-i-init c = search sought_none

pub loop-i-preserved : goal.loop-i-preserved
loop-i-preserved c = search (sought_more, rules)
