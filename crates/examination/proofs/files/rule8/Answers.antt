use Rattle.examination.proofs.SurveyLaws.{summed_none, marked_none}
use borrow.Author.Rules.{rules}
use Rattle.examination.proofs.files.rule8.Goals as goal

pub sum_sectors-requires : goal.sum_sectors-requires
sum_sectors-requires c = record { r6 = search rules; summed = search summed_none }

pub mark_files-requires : goal.mark_files-requires
mark_files-requires c = record { r6 = search rules; types_marked = search marked_none }
