use Rattle.marks.proofs.MarkLaws.{owned_stop}
use Rattle.marks.proofs.marks.owned.Goals as goal

pub returns-else-mark_all : goal.returns-else-mark_all
returns-else-mark_all c = search owned_stop
