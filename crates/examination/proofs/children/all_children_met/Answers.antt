use Rattle.examination.proofs.FindingLaws.{says_all}
use borrow.Author.Rules.{rules}
use Rattle.examination.proofs.children.all_children_met.Goals as goal

pub returns : goal.returns
returns c = says_all _ _ _ _ _ c.all.ensures.ran (λ x q h. search rules) (λ x q h. search rules)
