use Rattle.allocation.specs.NewTables.{put_size}
use Rattle.allocation.proofs.table.put_size.Goals as goal

pub returns : goal.returns
unfolding put_size
returns c = cc
