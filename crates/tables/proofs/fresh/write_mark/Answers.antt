use Rattle.tables.specs.Format.{put_identity}
use Rattle.tables.proofs.fresh.write_mark.Goals as goal

pub returns : goal.returns
unfolding put_identity
returns c = cc
