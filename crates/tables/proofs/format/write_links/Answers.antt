use mathlib.Core.Path.{refl}
use Rattle.tables.proofs.FormatStepLaws.{links_none, links_turn, links_end}
use borrow.Author.Rules.{rules}
use Rattle.tables.proofs.format.write_links.Goals as goal

pub loop-k-init : goal.loop-k-init
loop-k-init c = (links_none _ _, refl)

pub loop-k-preserved : goal.loop-k-preserved
loop-k-preserved c = (search links_turn, search rules)

pub returns : goal.returns
returns c = search links_end
