use Rattle.allocation.proofs.LastLaws.{used_within, cursor_is}
use borrow.Author.Rules.{rules}
use Rattle.allocation.proofs.last.cursor_of.Goals as goal

pub pointer_place-requires : goal.pointer_place-requires
pointer_place-requires c = (search used_within, search rules)

pub returns : goal.returns
returns c = search cursor_is
