use Rattle.field.specs.Bits.{bit_of}
use Rattle.marks.specs.Marks.{mark_at}
use borrow.Author.Rules.{rules}
use Rattle.examination.proofs.owned.mark_of.Goals as goal

pub returns : goal.returns
unfolding mark_at bit_of
returns c = search rules
