use Rattle.tables.proofs.blocks.zone_blocks.Goals as goal

pub returns : goal.returns
returns c = rw c.block_sectors.ensures.0
