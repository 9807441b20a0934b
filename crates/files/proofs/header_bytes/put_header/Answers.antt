use Rattle.files.proofs.HeaderByteLaws.{header_put}
use Rattle.files.proofs.header_bytes.put_header.Goals as goal

pub returns : goal.returns
returns c = search header_put
