use Rattle.files.proofs.ReleaseLaws.{header_not, header_room, header_cleared}
use borrow.Author.Rules.{rules}
use Rattle.files.proofs.release.clear_header.Goals as goal

pub returns-then-first_word-i : goal.returns-then-first_word-i
returns-then-first_word-i c = search header_not

pub put_sectors-requires : goal.put_sectors-requires
put_sectors-requires c = record { layout = search rules; n_bound = (search header_room, search rules) }

pub returns : goal.returns
returns c = search header_cleared
