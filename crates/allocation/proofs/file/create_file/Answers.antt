use Rattle.allocation.proofs.FileLaws.{create_ready, create_is}
use borrow.Author.Rules.{rules}
use Rattle.allocation.proofs.file.create_file.Goals as goal

pub lay_all-requires : goal.lay_all-requires
lay_all-requires c = search create_ready

pub returns : goal.returns
returns c = (search rules, search create_is)
