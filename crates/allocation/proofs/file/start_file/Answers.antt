use Rattle.allocation.proofs.FileLaws.{provided_head, start_active, start_system, start_directory, start_is}
use borrow.Author.Rules.{rules}
use Rattle.allocation.proofs.file.start_file.Goals as goal

pub put_new_parent-f-requires : goal.put_new_parent-f-requires
put_new_parent-f-requires c = record { layout = search rules; head = search provided_head; name_len_bound = search rules }

pub count_file-requires : goal.count_file-requires
count_file-requires c = record { in_bounds = search rules; b_bound = (search start_active, search start_system, search start_directory); date_len = search rules }

pub returns : goal.returns
returns c = (search rules, search start_is)
