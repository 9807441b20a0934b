use Rattle.allocation.specs.NewTables.{put_dates}
use Rattle.allocation.proofs.table.put_dates.Goals as goal

pub returns : goal.returns
unfolding put_dates
returns c = cc
