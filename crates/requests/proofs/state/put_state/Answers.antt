use Rattle.requests.specs.State.{put_state}
use Rattle.requests.proofs.state.put_state.Goals as goal

pub returns : goal.returns
unfolding put_state
returns c = cc
