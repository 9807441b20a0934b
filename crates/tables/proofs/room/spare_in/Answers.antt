use Rattle.tables.proofs.LackLaws.{in_none, in_open, in_other, in_begun}
use borrow.Author.Rules.{rules}
use Rattle.tables.proofs.room.spare_in.Goals as goal
use Rattle.tables.proofs.room.spare_in.Goals.{then-e-eq0-via-then-e-eq0, then-e-eq0-via-else-e-eq0+then-e-t, then-e-eq0-via-else-e-eq0+else-e-t+then-is_open}

pub returns-then-e-eq0 : goal.returns-then-e-eq0
returns-then-e-eq0 c =
    elim c.then-e-eq0.branch [
      | then-e-eq0-via-then-e-eq0 w ↦ (search in_none, search rules)
      | then-e-eq0-via-else-e-eq0+then-e-t w ↦ (search in_other, search rules)
      | then-e-eq0-via-else-e-eq0+else-e-t+then-is_open w ↦ (search in_open, search rules)
    ]

pub returns : goal.returns
returns c = (search in_begun, search rules)
