use Rattle.allocation.specs.Choice.{put_block}
use Rattle.allocation.proofs.NextBlockLaws.{block_small, block_room}
use borrow.Author.Rules.{rules}
use Rattle.allocation.proofs.choice.put_block.Goals as goal

pub put_zone-requires : goal.put_zone-requires
put_zone-requires c = let s = block_small _ _ _ _ c.requires.proper in record { layout = search rules; le_z = search rules; t_bound = (s.0, s.1, search rules) }

pub put_sectors-requires : goal.put_sectors-requires
put_sectors-requires c = record { layout = search rules; n_bound = (search block_room, search rules) }

pub returns : goal.returns
unfolding put_block
returns c = cc
