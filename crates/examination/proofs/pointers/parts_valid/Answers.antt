use Rattle.examination.proofs.ZonePartLaws.{parts_says}
use Rattle.examination.specs.ZoneParts.{Part}
use Rattle.tables.specs.Views.{view_of}
use Rattle.examination.proofs.FindingLaws.{says_all}
use borrow.Author.Rules.{rules}
use Rattle.examination.proofs.pointers.parts_valid.Goals as goal

pub returns : goal.returns
returns c =
    let a = c.args in
    parts_says _ _ _ _ _ c.all.result (search rules) (search rules) (says_all (Part (view_of a.b.now.places a.b.now.raw.now) a.q.start.0 a.q.count) _ _ _ _ c.all.ensures.ran (λ x q h. search rules) (λ x q h. search rules))
