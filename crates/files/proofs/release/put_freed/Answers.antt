use Rattle.files.specs.Release.{put_freed}
use Rattle.files.proofs.release.put_freed.Goals as goal

pub returns : goal.returns
unfolding put_freed
returns c = cc
