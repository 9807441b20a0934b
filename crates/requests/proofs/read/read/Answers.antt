use borrow.Author.Rules.{rules}
use Rattle.requests.proofs.ReadLaws.{read_room, read_good, read_parent, read_layout, read_lawful, read_before, read_moves}
use Rattle.requests.proofs.read.read.Goals as goal

pub read_places-p-requires : goal.read_places-p-requires
read_places-p-requires c = search (read_room, c.in_ok-check_read.ensures, rules)

pub invariant_of-v : goal.invariant_of-v
invariant_of-v c = record { layout = search (read_layout, c.in_ok-check_read.ensures, rules) }

pub read_amount-amount-requires : goal.read_amount-amount-requires
read_amount-amount-requires c = search (read_good, read_parent, read_before, c.in_ok-check_read.ensures, rules)

pub read_sectors-requires : goal.read_sectors-requires
read_sectors-requires c = search (read_layout, read_lawful, read_moves, c.in_ok-check_read.ensures, rules)
