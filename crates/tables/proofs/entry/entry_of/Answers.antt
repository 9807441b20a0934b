use Rattle.tables.proofs.IndexLaws.{entry_is}
use Rattle.tables.proofs.entry.entry_of.Goals as goal

pub returns : goal.returns
returns c = search entry_is
