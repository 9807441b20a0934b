use Rattle.marks.proofs.WithheldListLaws.{zeros_are}
use Rattle.examination.proofs.owned.rule7.Goals as goal

pub mark_withheld-requires : goal.mark_withheld-requires
mark_withheld-requires c = search zeros_are
