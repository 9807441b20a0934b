use mathlib.Core.Path.{ap}
use mathlib.Core.Bool.{not}
use borrow.Author.Rules.{rules}
use Rattle.examination.proofs.FindingLaws.{says_yes}
use Rattle.examination.proofs.SlotLaws.{slots_room, table_child, table_says}
use Rattle.examination.proofs.pointers.table_valid.Goals as goal

pub slots_valid-requires-clause-n_bound : goal.slots_valid-requires-clause-n_bound
slots_valid-requires-clause-n_bound c = search (slots_room, rules)

pub returns-then-not-is_parent : goal.returns-then-not-is_parent
returns-then-not-is_parent c =
    says_yes _ (ap not c.if-not-is_parent.true)
    (table_child _ _ _ _ _ c.table-t.ensures.0 c.base-at.ensures.0 c.slots-n.ensures.0 _ _ c.decode.ensures c.is_parent.ensures c.if-slots_valid.ensures c.requires.le_i.0 c.if-not-is_parent.true)

pub returns-else-not-is_parent : goal.returns-else-not-is_parent
returns-else-not-is_parent c =
    table_says _ _ _ _ _ c.table-t.ensures.0 c.base-at.ensures.0 c.slots-n.ensures.0 _ _ c.decode.ensures c.is_parent.ensures c.if-slots_valid.ensures _ c.if-not-is_parent.false c.heads_valid.ensures
