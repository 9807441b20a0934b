use Rattle.examination.proofs.CountedLaws.{added_free, added_none, added_deleted, added_active}
use borrow.Author.Rules.{rules}
use Rattle.examination.proofs.counts.count_table.Goals as goal

pub returns-then-is_free : goal.returns-then-is_free
returns-then-is_free c = search (added_free, rules)

pub returns-then-not-is_parent : goal.returns-then-not-is_parent
returns-then-not-is_parent c = search (added_none, rules)

pub returns-then-attribute-eq1 : goal.returns-then-attribute-eq1
returns-then-attribute-eq1 c = search (added_deleted, rules)

pub returns : goal.returns
returns c = search (added_active, rules)
