use borrow.Author.Rules.{rules}
use Rattle.requests.proofs.GrowLaws.{grow_books, grow_parent, grow_room, grow_date}
use Rattle.requests.proofs.grow.grow.Goals as goal

pub lengthen-requires : goal.lengthen-requires
lengthen-requires c = record { good_some = search (grow_books, c.in_ok-check_grow.ensures, rules); parent = search (grow_parent, c.in_ok-check_grow.ensures, rules); gate = search (grow_room, c.in_ok-check_grow.ensures, rules); date_len = search (grow_date, c.in_ok-check_grow.ensures, rules) }
