use borrow.Author.Tests.{ne_eqb}
use borrow.Author.Rules.{rules}
use Rattle.examination.proofs.FindingLaws.{says_no}
use Rattle.examination.proofs.ZonePartLaws.{lone_cut, lone_says}
use Rattle.examination.proofs.pointers.lone_whole.Goals as goal

pub returns-then-q-size-eq0 : goal.returns-then-q-size-eq0
returns-then-q-size-eq0 c = search (lone_says, rules)

pub returns-else-q-size-eq0 : goal.returns-else-q-size-eq0
returns-else-q-size-eq0 c = let ne = c.if-q-size-eq0.false in says_no _ (ne_eqb _ _ ne) (lone_cut _ _ _ c.requires.block c.requires.lone ne)
