use mathlib.Core.Path.{refl}
use native.Mathlib.Omega.{arith}
use Rattle.tables.proofs.LackLaws.{per_some, lack_none, lack_some, lack_most}
use borrow.Author.Rules.{rules}
use Rattle.tables.proofs.room.lack_of.Goals as goal

pub returns-then-n-eq0 : goal.returns-then-n-eq0
returns-then-n-eq0 c = (lack_none _ _ _ _ (search rules) refl (omega arith), search rules)

pub returns-then-wanted-free : goal.returns-then-wanted-free
returns-then-wanted-free c = (search lack_none, search rules)

pub overflow_sub-result-2 : goal.overflow_sub-result-2
overflow_sub-result-2 c = search per_some

pub nonzero_div-result : goal.nonzero_div-result
nonzero_div-result c = search per_some

pub returns : goal.returns
returns c = (search lack_some, lack_most _ _ _ _ (search rules) c.zone_blocks-per.ensures)
