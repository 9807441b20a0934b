use Rattle.field.proofs.PartLaws.{over_mid}
use Rattle.std.proofs.lemmas.Grind.{common_steps}
use lib.ListN.{length-replicate}
use native.Mathlib.Omega.{arith}
use Rattle.field.proofs.parts.fill.Goals as goal

pub returns : goal.returns
returns c = grind (arith, common_steps, over_mid, length-replicate, c.fill.ensures.after (λ y e. e))
