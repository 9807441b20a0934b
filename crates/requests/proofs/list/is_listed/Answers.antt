use Rattle.requests.proofs.ListLaws.{listed_below, listed_says}
use Rattle.requests.proofs.list.is_listed.Goals as goal

pub returns-then-i-from : goal.returns-then-i-from
returns-then-i-from c = search listed_below

pub returns : goal.returns
returns c = search listed_says
