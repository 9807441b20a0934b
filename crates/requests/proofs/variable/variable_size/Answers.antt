use Rattle.requests.proofs.NamedLaws.{variable_says}
use Rattle.requests.proofs.variable.variable_size.Goals as goal

pub returns : goal.returns
returns c = search variable_says
