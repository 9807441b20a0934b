use Rattle.examination.proofs.SurveyLaws.{run_each}
use Rattle.tables.specs.Zones.{zone_at}
use mathlib.Core.Path.{◌≡◌}
use Rattle.examination.proofs.FindingLaws.{says_all}
use borrow.Author.Rules.{rules}
use Rattle.examination.proofs.types.run_type.Goals as goal

pub returns : goal.returns
returns c =
    let a = c.args in
    run_each a.b.now.places a.b.now.raw.now _ _ a.ty _ _ c.all.result (search rules) (search rules) (search rules) (says_all (λ z. (zone_at a.b.now.places a.b.now.raw.now z).ztype ≡ a.ty) _ _ _ _ c.all.ensures.ran (λ x q h. search rules) (λ x q h. search rules))
