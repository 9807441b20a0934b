use Rattle.allocation.proofs.TailLaws.{joins_apart, joins_next}
use Rattle.allocation.proofs.tail.joins_last.Goals as goal

pub returns-then-end_sector-s : goal.returns-then-end_sector-s
returns-then-end_sector-s c = search joins_next

pub returns-else-end_sector-s : goal.returns-else-end_sector-s
returns-else-end_sector-s c = search joins_apart
