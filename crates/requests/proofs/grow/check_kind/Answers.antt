use Rattle.requests.proofs.GrowLaws.{kind_protected, kind_fixed, kind_fine}
use Rattle.requests.proofs.grow.check_kind.Goals as goal

pub returns-then-not-unprotected : goal.returns-then-not-unprotected
returns-then-not-unprotected c = search kind_protected

pub returns-then-not-variable_size : goal.returns-then-not-variable_size
returns-then-not-variable_size c = search kind_fixed

pub returns : goal.returns
returns c = search kind_fine
