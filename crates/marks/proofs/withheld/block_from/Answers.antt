use Rattle.marks.proofs.WithheldListLaws.{block_typed, block_is}
use Rattle.marks.proofs.withheld.block_from.Goals as goal

pub block_sectors-requires : goal.block_sectors-requires
block_sectors-requires c = search block_typed

pub returns : goal.returns
returns c =
    block_is c.args.b.now.places c.args.b.now.raw.now c.args.s.0 _ c.zone_of.ensures c.zone_entry-t.result c.zone_entry-t.ensures c.requires.starts_block c.args.b.now.layout
    c.block_sectors.result c.block_sectors.ensures.0
