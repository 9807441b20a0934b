use Rattle.tables.proofs.NameLaws.{name_says}
use Rattle.tables.proofs.name.name_valid.Goals as goal

pub returns-then-n-ne0 : goal.returns-then-n-ne0
returns-then-n-ne0 c = search name_says
