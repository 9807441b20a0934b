use mathlib.Core.Path.{◌≡◌, ◌∙◌}
use Prim.Native.Nat.{◌*◌, ◌%◌, ◌-◌, ◌^◌}
use native.Mathlib.Nat.{one-mul}
use native.Mathlib.Omega.{arith}
use lib.Dec.{lit<}
use lib.Pow.{pow_pos, shl_exact}
use Rattle.tables.specs.Counts.{weight_of}
use Rattle.tables.proofs.counts.type_weight.Goals as goal

pub returns : goal.returns
unfolding weight_of
returns c =
    let k = c.args.t - 1 in
    let e : (1 * 2 ^ k) % 2 ^ 32 ≡ 2 ^ k = shl_exact 1 k 32 (lit< tt) (omega arith) ∙ one-mul (2 ^ k) in
    (e, omega (arith, pow_pos k))
