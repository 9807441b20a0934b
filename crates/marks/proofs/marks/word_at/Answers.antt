use Rattle.field.specs.Numbers.{u32_at}
use Rattle.marks.specs.Marks.{word_at}
use native.Mathlib.Omega.{arith}
use mathlib.Core.Path.{◌≡◌}
use Prim.Native.Nat.{◌+◌}
use Rattle.marks.proofs.marks.word_at.Goals as goal

pub returns : goal.returns
unfolding word_at u32_at
returns c =
    let o = c.args.at in
    let five : o + 4 + 1 ≡ o + 5 = omega arith in
    let six : o + 4 + 2 ≡ o + 6 = omega arith in
    let seven : o + 4 + 3 ≡ o + 7 = omega arith in
    rw (five, six, seven) (omega (arith, c.from_be_bytes.ensures))
