use Rattle.examination.proofs.LimitLaws.{set_one}
use Rattle.examination.proofs.owned.set_mark.Goals as goal

pub returns : goal.returns
returns c = search (set_one c.mark_piece.result)
