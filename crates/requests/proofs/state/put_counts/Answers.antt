use Rattle.requests.specs.State.{put_counts}
use Rattle.requests.proofs.state.put_counts.Goals as goal

pub returns : goal.returns
unfolding put_counts
returns c = cc
