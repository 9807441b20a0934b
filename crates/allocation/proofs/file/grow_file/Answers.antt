use Rattle.allocation.proofs.FileLaws.{grow_ready, grow_is}
use Rattle.allocation.proofs.file.grow_file.Goals as goal

pub lay_all-requires : goal.lay_all-requires
lay_all-requires c = search grow_ready

pub returns : goal.returns
returns c = search grow_is
