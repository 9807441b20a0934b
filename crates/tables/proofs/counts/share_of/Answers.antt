use Rattle.tables.proofs.CountsLaws.{shared_none, shared_part, shared_last}
use Rattle.tables.proofs.counts.share_of.Goals as goal

pub returns-then-flag-w-ne1 : goal.returns-then-flag-w-ne1
returns-then-flag-w-ne1 c = search shared_none

pub returns-then-flag-w-ne0 : goal.returns-then-flag-w-ne0
returns-then-flag-w-ne0 c = search shared_part

pub returns : goal.returns
returns c = search shared_last
