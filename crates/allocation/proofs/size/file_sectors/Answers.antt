use Rattle.allocation.proofs.SizeLaws.{summing_none, summing_more, summing_all}
use borrow.Author.Rules.{rules}
use Rattle.allocation.proofs.size.file_sectors.Goals as goal

pub loop-i-init : goal.loop-i-init
loop-i-init c = search summing_none

pub loop-i-preserved : goal.loop-i-preserved
loop-i-preserved c = search summing_more

pub returns : goal.returns
returns c = (search summing_all, search rules)
