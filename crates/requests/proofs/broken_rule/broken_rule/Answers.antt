use Rattle.requests.proofs.DiagnosisLaws.{diagnosis_found}
use Rattle.requests.proofs.broken_rule.broken_rule.Goals as goal

pub returns : goal.returns
returns c = diagnosis_found _ _ _ _ c.in_ok-p.ensures.0 c.in_ok-p.ensures.1 c.lowest_fault.ensures
