use mathlib.Core.Path.{◌≡◌}
use Rattle.field.specs.Bits.{bit_at}
use Rattle.marks.specs.Marks.{mark_at}
use Rattle.examination.proofs.FindingLaws.{finds_lowest}
use Rattle.examination.proofs.LimitLaws.{unequal_or, unequal_only}
use borrow.Author.Rules.{rules}
use Rattle.examination.proofs.owned.first_unequal.Goals as goal

pub returns-then-limit-b : goal.returns-then-limit-b
returns-then-limit-b c =
    let a = c.args in
    rw c.or.ensures (unequal_or a.b.now.places a.b.now.raw.now a.m.now a.limit.0 c.find-unequal.result (search rules) (search rules)
    (finds_lowest (λ k. bit_at a.b.now.raw.now a.b.now.places.sectortable k ≡ mark_at a.m.now k) _ _ _ c.find-unequal.result c.find-unequal.ensures.ran (λ x q h. search rules) (λ x q h. search rules)))

pub returns : goal.returns
returns c =
    let a = c.args in
    unequal_only a.b.now.places a.b.now.raw.now a.m.now a.limit.0 c.find-unequal.result (search rules) (search rules)
    (finds_lowest (λ k. bit_at a.b.now.raw.now a.b.now.places.sectortable k ≡ mark_at a.m.now k) _ _ _ c.find-unequal.result c.find-unequal.ensures.ran (λ x q h. search rules) (λ x q h. search rules))
