use Rattle.marks.proofs.PieceLaws.{behind_is}
use Rattle.marks.proofs.marks.behind.Goals as goal

pub returns : goal.returns
returns c = search behind_is
