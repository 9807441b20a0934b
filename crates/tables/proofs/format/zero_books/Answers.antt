use Rattle.tables.proofs.FormatStepLaws.{zeros_all}
use Rattle.tables.proofs.format.zero_books.Goals as goal

pub returns : goal.returns
returns c = search zeros_all
