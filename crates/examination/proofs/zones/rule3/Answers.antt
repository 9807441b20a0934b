use Rattle.examination.proofs.FindingLaws.{finds_lowest}
use borrow.Author.Rules.{rules}
use Rattle.examination.proofs.zones.rule3.Goals as goal

pub returns : goal.returns
returns c = finds_lowest _ _ _ _ c.find.result c.find.ensures.ran (λ x q h. search rules) (λ x q h. search rules)
