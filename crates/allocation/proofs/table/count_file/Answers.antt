use Rattle.allocation.specs.NewTables.{count_file}
use Rattle.allocation.proofs.table.count_file.Goals as goal

pub returns : goal.returns
unfolding count_file
returns c = cc
