use Rattle.tables.proofs.FormatStepLaws.{format_end}
use Rattle.tables.proofs.format.write_format.Goals as goal

pub returns : goal.returns
returns c = search format_end
