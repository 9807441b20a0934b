use Rattle.allocation.specs.NewTables.{put_named}
use Rattle.allocation.proofs.table.put_named.Goals as goal

pub returns : goal.returns
unfolding put_named
returns c = cc
