use Rattle.requests.proofs.JudgedLaws.{use_judged}
use Rattle.requests.proofs.SpaceLaws.{space_refused, space_fine}
use borrow.Author.Rules.{rules}
use Rattle.requests.proofs.space.space_of.Goals as goal

pub returns-in_err-p : goal.returns-in_err-p
returns-in_err-p c = search (space_refused, use_judged, c.in_err-p.ensures, rules)

pub returns : goal.returns
returns c = space_fine _ _ _ (use_judged _ _ _ c.in_ok-p.ensures.1) c.measure.ensures
