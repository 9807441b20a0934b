use Rattle.files.proofs.RecountLaws.{clear_count}
use Prim.Native.Nat.{◌-◌}
use native.Mathlib.Omega.{arith}
use native.Mathlib.Nat.{div-le_self}
use Rattle.files.proofs.zones.clear_blocks.Goals as goal

pub returns : goal.returns
returns c =
    let first = c.first_sector-first.ensures in
    let size = c.block_sectors.ensures in
    let set = c.count_bits-set.ensures in (
      omega (arith, div-le_self (1024 - c.count_bits-set.result) c.block_sectors.result),
      rw first at (clear_count c.args.b.now.places c.args.b.now.raw.now _ c.args.t _ _ set.0 size.0 size.1),
    )
