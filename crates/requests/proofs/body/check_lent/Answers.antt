use borrow.Author.Rules.{rules}
use Rattle.tables.proofs.RefusalLaws.{refused}
use Rattle.requests.proofs.ArgumentLaws.{argument_good}
use Rattle.requests.proofs.BodyLaws.{lent_stops, lent_other, lent_fine}
use Rattle.requests.proofs.body.check_lent.Goals as goal

pub returns-in_err-check_argument : goal.returns-in_err-check_argument
returns-in_err-check_argument c = search (lent_stops, refused, rules)

pub body_sized-requires : goal.body_sized-requires
body_sized-requires c = search (argument_good, c.in_ok-check_argument.ensures, rules)

pub returns-then-not-body_sized : goal.returns-then-not-body_sized
returns-then-not-body_sized c = search (lent_other, rules)

pub returns : goal.returns
returns c = search (lent_fine, rules)
