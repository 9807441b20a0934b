use Rattle.examination.proofs.CheckLaws.{unplaced_listed, refused_7}
use borrow.Author.Rules.{rules}
use Rattle.examination.proofs.check.find_tables.Goals as goal

pub returns-in_err-p : goal.returns-in_err-p
returns-in_err-p c = search (unplaced_listed, rules)

pub returns-then-not-withholds : goal.returns-then-not-withholds
returns-then-not-withholds c = search (refused_7, rules)
