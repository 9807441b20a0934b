use Rattle.marks.proofs.MarkLaws.{header_room, header_skip, header_adds}
use borrow.Author.Rules.{rules}
use Rattle.marks.proofs.marks.mark_header_run.Goals as goal

pub returns-then-first_word-i : goal.returns-then-first_word-i
returns-then-first_word-i c = search header_skip

pub mark_run-requires : goal.mark_run-requires
mark_run-requires c = record { m_len = search rules; count_bound = search header_room }

pub returns : goal.returns
returns c = search header_adds
