use native.Mathlib.Omega.{arith}
use Rattle.field.proofs.ByteLaws.{bytes_says}
use Rattle.field.proofs.runs.bits_all.Goals as goal

pub returns : goal.returns
returns c = bytes_says c.args.s.now c.args.base c.args.from c.args.count c.args.v c.if-from-count-ne0.false c.requires.v_bound c.bytes_all.result (λ j. omega (arith, c.type_inv.s j)) c.bytes_all.ensures
