use Rattle.requests.proofs.ActiveLaws.{active_other, active_says}
use Rattle.requests.proofs.active.is_active.Goals as goal

pub returns-then-not-is_parent : goal.returns-then-not-is_parent
returns-then-not-is_parent c = search active_other

pub returns : goal.returns
returns c = search active_says
