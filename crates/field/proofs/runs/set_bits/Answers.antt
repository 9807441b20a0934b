use Rattle.field.proofs.RunLaws.{set_next}
use Rattle.field.specs.Runs.{set_bits}
use native.Mathlib.Omega.{arith}
use mathlib.Core.Path.{◌≡◌, refl, ◌∙◌}
use borrow.Author.Rules.{rules}
use Rattle.field.proofs.runs.set_bits.Goals as goal

pub loop-i-init : goal.loop-i-init
unfolding set_bits
loop-i-init c = (search rules, refl, refl)

pub loop-i-preserved : goal.loop-i-preserved
loop-i-preserved c = (search rules, set_next _ _ _ _ _ _ _ _ c.loop-i.invariant.1 c.set_step.ensures, c.set_step.auto.s ∙ c.loop-i.invariant.2)

pub returns : goal.returns
returns c =
    let e : c.loop-i.i ≡ c.args.count = omega arith in
    rw (← e) c.loop-i.invariant.1
