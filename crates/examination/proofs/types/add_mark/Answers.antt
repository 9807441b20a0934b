use Rattle.examination.proofs.SurveyLaws.{marked_fits, marked_mixed}
use Rattle.examination.proofs.types.add_mark.Goals as goal

pub returns-then-not-table_fits : goal.returns-then-not-table_fits
returns-then-not-table_fits c = search marked_mixed

pub returns-else-not-table_fits : goal.returns-else-not-table_fits
returns-else-not-table_fits c = search marked_fits
