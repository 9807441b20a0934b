use Rattle.requests.proofs.WriteLaws.{settle_is}
use Rattle.requests.proofs.write.settle.Goals as goal

pub returns : goal.returns
returns c = search settle_is
