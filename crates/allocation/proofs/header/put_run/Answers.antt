use Rattle.allocation.specs.Headers.{put_run}
use Rattle.allocation.proofs.header.put_run.Goals as goal

pub returns : goal.returns
unfolding put_run
returns c = cc
