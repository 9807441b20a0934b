use Rattle.tables.specs.Format.{put_starts}
use Rattle.tables.proofs.fresh.write_starts.Goals as goal

pub returns : goal.returns
unfolding put_starts
returns c = cc
