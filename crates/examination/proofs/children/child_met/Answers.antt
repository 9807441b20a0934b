use mathlib.Core.Path.{ap}
use mathlib.Core.Bool.{not}
use borrow.Author.Tests.{eq-eqb}
use Rattle.examination.proofs.FindingLaws.{says_no}
use Rattle.examination.proofs.ChildLaws.{met_other, met_not, met_says}
use borrow.Author.Rules.{rules}
use Rattle.examination.proofs.children.child_met.Goals as goal

pub returns-then-not-is_child : goal.returns-then-not-is_child
returns-then-not-is_child c = search (met_other, rules)

pub returns-then-seen-i-ne0 : goal.returns-then-seen-i-ne0
returns-then-seen-i-ne0 c = search (met_says, rules)

pub returns-else-seen-i-ne0 : goal.returns-else-seen-i-ne0
returns-else-seen-i-ne0 c =
    says_no _ (ap not (eq-eqb _ _ c.if-seen-i-ne0.false)) (met_not _ _ _ _ _ c.decode.ensures c.is_child.ensures c.requires.le_i.0 c.requires.le_i.1 c.if-not-is_child.false c.if-seen-i-ne0.false)
