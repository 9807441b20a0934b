use Rattle.allocation.proofs.NeighbourLaws.{before_files, past_files, other_zone, not_at_start, not_free, is_neighbour, neighbour_counted, neighbour_found}
use Rattle.allocation.proofs.choice.neighbour.Goals as goal

pub returns-then-end : goal.returns-then-end
returns-then-end c = search before_files

pub returns-then-end-b : goal.returns-then-end-b
returns-then-end-b c = search past_files

pub returns-then-not-of_type : goal.returns-then-not-of_type
returns-then-not-of_type c = search other_zone

pub returns-then-s-size-ne0 : goal.returns-then-s-size-ne0
returns-then-s-size-ne0 c = search not_at_start

pub returns-then-get_bit-ne0 : goal.returns-then-get_bit-ne0
returns-then-get_bit-ne0 c = search not_free

pub overflow_sub-result : goal.overflow_sub-result
overflow_sub-result c = search neighbour_counted

pub returns : goal.returns
returns c = (search is_neighbour, search neighbour_found)
