use Rattle.examination.proofs.SlotLaws.{slots_says}
use borrow.Author.Rules.{rules}
use Rattle.examination.proofs.pointers.slots_valid.Goals as goal

pub returns-then-unused : goal.returns-then-unused
returns-then-unused c = search (slots_says, rules)
