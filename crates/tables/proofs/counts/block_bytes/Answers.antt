use native.Mathlib.Omega.{arith}
use Rattle.tables.proofs.CountsLaws.{bytes_high, bytes_at_lem}
use Rattle.tables.proofs.counts.block_bytes.Goals as goal

pub overflow_mul-result : goal.overflow_mul-result
overflow_mul-result c = record { fits = omega (arith, bytes_high c.args.t c.block_sectors.result c.requires c.block_sectors.ensures.0) }

pub returns : goal.returns
returns c = bytes_at_lem c.args.t c.block_sectors.result c.requires c.block_sectors.ensures
