use Rattle.examination.proofs.ZonePartLaws.{run_says, run_lone}
use borrow.Author.Rules.{rules}
use Rattle.examination.proofs.pointers.run_valid.Goals as goal

pub returns-then-zone_of : goal.returns-then-zone_of
returns-then-zone_of c = search (run_lone, rules)

pub returns : goal.returns
returns c = search (run_says, rules)
