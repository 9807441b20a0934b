use Rattle.requests.proofs.StateLaws.{protect_is}
use Rattle.requests.proofs.state.protect.Goals as goal

pub returns : goal.returns
returns c = search protect_is
