use Rattle.std.proofs.Common.{rules}
use Rattle.tables.proofs.LackLaws.{per_some}
use Rattle.allocation.proofs.NextBlockLaws.{open_is}
use Rattle.allocation.proofs.choice.open_block.Goals as goal

pub overflow_sub-result : goal.overflow_sub-result
overflow_sub-result c = per_some _ _ (search rules) c.zone_blocks.ensures

pub returns : goal.returns
returns c = open_is _ _ _ _ c.lowest_open.ensures c.unwrap_or.ensures _ c.zone_blocks.ensures
