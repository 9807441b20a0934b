use borrow.Author.Rules.{rules}
use Rattle.examination.proofs.FindingLaws.{says_no}
use Rattle.examination.proofs.ZonePartLaws.{head_cut, tail_says}
use Rattle.examination.proofs.pointers.edges_whole.Goals as goal

pub returns-then-head_whole : goal.returns-then-head_whole
returns-then-head_whole c = search (tail_says, rules)

pub returns-else-head_whole : goal.returns-else-head_whole
returns-else-head_whole c = says_no _ c.if-head_whole.false (head_cut _ _ _ _ c.requires.block c.requires.meets c.if-head_whole.ensures)
