use Rattle.examination.proofs.SurveyLaws.{file_other, file_says}
use Rattle.examination.proofs.files.file_valid.Goals as goal

pub returns-then-not-is_parent : goal.returns-then-not-is_parent
returns-then-not-is_parent c = search file_other

pub returns : goal.returns
returns c = search file_says
