use Rattle.examination.proofs.LimitLaws.{header_past, header_lowers}
use borrow.Author.Rules.{rules}
use Rattle.examination.proofs.owned.header_below.Goals as goal

pub returns-then-first_word-i : goal.returns-then-first_word-i
returns-then-first_word-i c = search (header_past, rules)

pub returns : goal.returns
returns c = search header_lowers
