use borrow.Author.Rules.{rules}
use Rattle.examination.proofs.FindingLaws.{says_no}
use Rattle.examination.proofs.check.files_hold.Goals as goal
use Rattle.examination.proofs.check.files_hold.Goals.{then-is_none, else-is_none}

pub returns-else-is_none-2 : goal.returns-else-is_none-2
returns-else-is_none-2 c = says_no _ c.if-is_none-2.false (λ h. elim c.if-is_none.branch [ then-is_none w ↦ search rules | else-is_none w ↦ search rules ])
