use Rattle.files.proofs.HeaderByteLaws.{header_laid}
use Rattle.files.proofs.header_bytes.lay_header.Goals as goal

pub returns : goal.returns
returns c = search header_laid
