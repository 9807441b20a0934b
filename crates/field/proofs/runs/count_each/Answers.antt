use Prim.Native.Nat.{◌+◌}
use Rattle.field.proofs.RunLaws.{count_next, count_le}
use Rattle.field.specs.Runs.{count_bits}
use Rattle.field.specs.Sum.{sum_to}
use native.Mathlib.Omega.{arith}
use mathlib.Core.Path.{◌≡◌, refl}
use borrow.Author.Rules.{rules}
use Rattle.field.proofs.runs.count_each.Goals as goal

-- the count so far, with the step's

sum : (c : goal.After-count_step-n) → let a = c.args in let l = c.loop-i in
    l.n + c.count_step-n.result ≡ count_bits a.s.now a.base a.from (l.i + c.step-w.result)
sum c = count_next _ _ _ _ _ _ _ c.loop-i.invariant.1 c.count_step-n.ensures

pub loop-i-init : goal.loop-i-init
unfolding count_bits sum_to
loop-i-init c = (search rules, refl)

pub overflow_add-n : goal.overflow_add-n
overflow_add-n c = omega (arith, sum c, count_le c.args.s.now c.args.base c.args.from (c.loop-i.i + c.step-w.result))

pub loop-i-preserved : goal.loop-i-preserved
loop-i-preserved c = (search rules, sum c)

pub returns : goal.returns
returns c =
    let a = c.args in
    let e : c.loop-i.i ≡ a.count = omega arith in
    let h : c.loop-i.n ≡ count_bits a.s.now a.base a.from a.count = rw (← e) c.loop-i.invariant.1 in
    (h, omega (arith, count_le a.s.now a.base a.from a.count))
