use Rattle.std.proofs.Common.{rules}
use Rattle.allocation.specs.NewTables.{put_child}
use Rattle.allocation.proofs.table.put_child.Goals as goal

pub returns : goal.returns
unfolding put_child
returns c = (search rules, cc)
