use mathlib.Core.Path.{◌≡◌}
use Prim.Native.Nat.{◌+◌, ◌*◌, ◌≤◌}
use native.Mathlib.Omega.{arith}
use borrow.Author.Rules.{rules}
use Rattle.field.specs.Bits.{with_bit}
use Rattle.field.proofs.BitLaws.{with_lt, with_sum, bit_part}
use Rattle.field.proofs.bits.with_bit.Goals as goal

pub overflow_sub-result : goal.overflow_sub-result
overflow_sub-result c =
    let old : c.bit_of-old.result * c.power-p.result ≤ c.args.x = rw (c.bit_of-old.ensures.0, c.power-p.ensures.0) (bit_part c.args.x c.args.k) in
    omega arith

pub returns : goal.returns
returns c =
    let x = c.args.x in
    let k = c.args.k in
    let v = c.args.v in
    let e : with_bit x k v + c.bit_of-old.result * c.power-p.result ≡ x + v * c.power-p.result
    = rw (c.bit_of-old.ensures.0, c.power-p.ensures.0) (with_sum x k v) in
    (omega arith, omega (arith, with_lt x k v (search rules) (search rules) (search rules)))
