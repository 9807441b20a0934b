use Rattle.tables.specs.Format.{put_status}
use Rattle.tables.proofs.fresh.write_status.Goals as goal

pub returns : goal.returns
unfolding put_status
returns c = cc
