use Rattle.requests.proofs.StateLaws.{protect_asked}
use Rattle.requests.proofs.set_protection.check_protect.Goals as goal

pub returns : goal.returns
returns c = search protect_asked
