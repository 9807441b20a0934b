use Rattle.requests.proofs.NamedLaws.{mark_other, mark_fine}
use Rattle.requests.proofs.named.check_mark.Goals as goal

pub returns-then-attribute-bit : goal.returns-then-attribute-bit
returns-then-attribute-bit c = search mark_other

pub returns : goal.returns
returns c = search mark_fine
