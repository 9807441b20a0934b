use Rattle.allocation.specs.MadeFiles.{put_change}
use Rattle.allocation.proofs.table.put_change.Goals as goal

pub returns : goal.returns
unfolding put_change
returns c = cc
