use native.Mathlib.Omega.{arith}
use Rattle.requests.specs.State.{protection_of}
use Rattle.requests.proofs.state.protection_of.Goals as goal

pub returns : goal.returns
unfolding protection_of
returns c = (cc, omega arith)
