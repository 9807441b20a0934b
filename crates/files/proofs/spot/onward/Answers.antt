use mathlib.Core.Path.{sym, ◌∙◌}
use native.Mathlib.Omega.{arith}
use Rattle.files.proofs.SpotLaws.{onward_under, onward_run}
use Rattle.files.proofs.spot.onward.Goals as goal

pub returns-then-c-pointer_of : goal.returns-then-c-pointer_of
returns-then-c-pointer_of c = sym (onward_under _ _ (omega (arith, c.if-c-pointer_of.true, c.pointer_of.ensures.1)))

pub returns : goal.returns
returns c = c.next_run.ensures ∙ sym (onward_run _ _ (omega (arith, c.if-c-pointer_of.false, c.pointer_of.ensures.1)))
