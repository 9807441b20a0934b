use mathlib.Core.Path.{◌≡◌}
use Rattle.field.proofs.RunLaws.{all_next}
use Rattle.field.proofs.Tests.{passed, refused}
use Rattle.field.specs.Runs.{AllBits}
use native.Mathlib.Omega.{arith}
use Prim.Native.Nat.{ℕ, ◌+◌, ◌≤◌}
use mathlib.Core.List.{List}
use borrow.Author.Rules.{rules}
use Rattle.field.proofs.runs.bits_each.Goals as goal

-- the step that was tested, as a part of the run

part : (s : List ℕ) (base from count v i w : ℕ) → i + w ≤ count → AllBits s base from count v → AllBits s base (from + i) w v
part s base from count v i w within all k l =
    let e : from + (i + k) ≡ from + i + k = omega arith in
    rw e at (all (i + k) (omega arith))

pub returns-then-not-test_step : goal.returns-then-not-test_step
returns-then-not-test_step c =
    let a = c.args in
    λ all. refused c.test_step.result c.test_step.ensures (search rules) (part a.s.now a.base a.from a.count a.v c.loop-i.i c.step-w.result (search rules) all)

pub loop-i-preserved : goal.loop-i-preserved
loop-i-preserved c = (search rules, all_next _ _ _ _ _ _ c.loop-i.invariant.1 (passed c.test_step.result c.test_step.ensures (search rules)))

pub returns : goal.returns
returns c = λ k l. c.loop-i.invariant.1 k (search rules)
