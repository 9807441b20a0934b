use Rattle.allocation.proofs.TailLaws.{push_joined, push_beside, push_further}
use Rattle.allocation.proofs.tail.push_block.Goals as goal

pub returns-then-joins_last : goal.returns-then-joins_last
returns-then-joins_last c = search push_joined

pub returns-then-l : goal.returns-then-l
returns-then-l c = search push_beside

pub returns : goal.returns
returns c = search push_further
