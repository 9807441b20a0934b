use mathlib.Core.Path.{refl}
use Rattle.requests.proofs.DiagnosisLaws.{text_refused}
use Rattle.requests.proofs.broken_text.broken_text.Goals as goal

pub returns-in-Err : goal.returns-in-Err
returns-in-Err c = text_refused _ _ _ c.in-Err.ensures _ _ refl c.refused_text.ensures
