use Rattle.examination.proofs.LimitLaws.{claims_lower}
use Rattle.examination.proofs.owned.mark_table.Goals as goal

pub returns : goal.returns
returns c = search claims_lower
