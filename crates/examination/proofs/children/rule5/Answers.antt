use native.Mathlib.Omega.{arith}
use Rattle.examination.proofs.ChildLaws.{passed_none, met_says_rule}
use Rattle.examination.proofs.children.rule5.Goals as goal

pub loop-i-init : goal.loop-i-init
loop-i-init c = passed_none _

pub returns : goal.returns
returns c = met_says_rule _ _ c.loop-i.i c.all_children_met.result c.loop-i.invariant (omega arith) (omega arith) c.all_children_met.ensures
