use Rattle.tables.proofs.BlockLaws.{header_block, size_shift}
use native.Mathlib.Omega.{arith}
use Rattle.tables.proofs.blocks.block_sectors.Goals as goal

-- past the test the type is one of C to H

pub returns-then-t-eq-HEADER_TYPE : goal.returns-then-t-eq-HEADER_TYPE
returns-then-t-eq-HEADER_TYPE c = header_block c.args.t c.if-t-eq-HEADER_TYPE.true

pub returns : goal.returns
returns c = size_shift c.args.t (record { low = omega (arith, c.requires.low, c.if-t-eq-HEADER_TYPE.false); high = c.requires.high })
