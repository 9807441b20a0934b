use Rattle.allocation.proofs.FileLaws.{only_put}
use Rattle.allocation.proofs.file.only_counts.Goals as goal

pub returns : goal.returns
returns c = search only_put
