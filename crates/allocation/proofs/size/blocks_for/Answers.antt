use Rattle.allocation.proofs.SizeLaws.{type_blocks, lacks_none, lacks_some, lacks_few}
use Rattle.allocation.proofs.size.blocks_for.Goals as goal

pub returns-then-wanted-have : goal.returns-then-wanted-have
returns-then-wanted-have c = search lacks_none

pub block_sectors-requires : goal.block_sectors-requires
block_sectors-requires c = search type_blocks

pub overflow_cast-result : goal.overflow_cast-result
overflow_cast-result c = search lacks_few

pub returns : goal.returns
returns c = search lacks_some
