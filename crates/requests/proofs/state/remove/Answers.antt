use Rattle.requests.proofs.StateLaws.{remove_active, remove_deleted, remove_system, remove_directory, remove_is}
use Rattle.requests.proofs.state.remove.Goals as goal

pub overflow_sub-active : goal.overflow_sub-active
overflow_sub-active c = search remove_active

pub overflow_add-deleted : goal.overflow_add-deleted
overflow_add-deleted c = search remove_deleted

pub overflow_sub-system : goal.overflow_sub-system
overflow_sub-system c = search remove_system

pub overflow_sub-directory : goal.overflow_sub-directory
overflow_sub-directory c = search remove_directory

pub returns : goal.returns
returns c = search remove_is
