use Rattle.requests.proofs.ReadLaws.{amount_wanted, amount_left}
use Rattle.requests.proofs.read.read_amount.Goals as goal

pub returns-then-wanted-left : goal.returns-then-wanted-left
returns-then-wanted-left c = search amount_wanted

pub returns : goal.returns
returns c = search amount_left
