use Rattle.requests.proofs.StateLaws.{restore_active, restore_deleted, restore_system, restore_directory, restore_is}
use borrow.Author.Rules.{rules}
use Rattle.requests.proofs.state.restore.Goals as goal

pub overflow_add-active : goal.overflow_add-active
overflow_add-active c = search restore_active

pub overflow_sub-deleted : goal.overflow_sub-deleted
overflow_sub-deleted c = search restore_deleted

pub put_counts-requires : goal.put_counts-requires
put_counts-requires c = record { in_bounds = search rules; system_bound = (search restore_system, search restore_directory) }

pub returns : goal.returns
returns c = search restore_is
