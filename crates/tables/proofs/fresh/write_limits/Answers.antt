use Rattle.tables.specs.Format.{put_sizes}
use Rattle.tables.proofs.fresh.write_limits.Goals as goal

pub returns : goal.returns
unfolding put_sizes
returns c = cc
