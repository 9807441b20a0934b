use Rattle.tables.proofs.IndexLaws.{halves}
use Rattle.tables.proofs.index.start_at.Goals as goal

pub returns : goal.returns
returns c = search halves
