use Rattle.tables.proofs.RefusalLaws.{refused}
use Rattle.requests.proofs.NamedLaws.{usable_parent}
use Rattle.requests.proofs.WriteLaws.{move_unusable, move_past, move_lack}
use borrow.Author.Rules.{rules}
use Rattle.requests.proofs.write.check_move.Goals as goal

pub returns-in_err-check_usable : goal.returns-in_err-check_usable
returns-in_err-check_usable c = search (move_unusable, refused, rules)

pub within-requires : goal.within-requires
within-requires c = search (usable_parent, c.in_ok-check_usable.ensures, rules)

pub returns-then-not-within : goal.returns-then-not-within
returns-then-not-within c = search (move_past, rules)

pub asked_length-requires : goal.asked_length-requires
asked_length-requires c = record { good_some = search rules; parent = search (usable_parent, c.in_ok-check_usable.ensures, rules); n_bound = search rules }

pub check_lack-requires : goal.check_lack-requires
check_lack-requires c = search (usable_parent, c.in_ok-check_usable.ensures, rules)

pub returns : goal.returns
returns c = search (move_lack, rules)
