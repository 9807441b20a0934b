use Rattle.std.proofs.lemmas.Iterator.{YieldsList-from_slice}
use Rattle.std.proofs.lemmas.Iterator.Search.{all_from_yields_List}
use Rattle.std.proofs.Common.{rules, ◌≡◌, ◌∙◌, ◌+◌, ◌-◌, ap, arith, take, drop}
use Rattle.std.specs.List.{list_all}
use borrow.Author.Tests.{tests}
use Rattle.field.proofs.PartLaws.{is, are, rest_says, eights_say}
use Rattle.field.proofs.parts.bytes_all.Goals as goal

pub returns-then-all : goal.returns-then-all
returns-then-all c =
    let a = c.args in
    let t = c.as_chunks.ensures in
    let e : a.at + a.n - a.at ≡ a.n = omega arith in
    let eights = all_from_yields_List (are a.v) _ _ c.all.result c.all.ensures.ran (YieldsList-from_slice c.as_chunks.result.0.now cc) (λ x b q k. search (rules, tests)) in
    let left = all_from_yields_List (is a.v) _ _ c.all-then-all.result c.all-then-all.ensures.ran (YieldsList-from_slice c.as_chunks.result.1.now cc) (λ x b q k. search (rules, tests)) in
    rest_says a.s.now a.at a.n a.v (search rules) _ (ap (λ m. take m (drop a.at a.s.now)) e) _ c.all.result c.all-then-all.result (omega arith) (eights ∙ ap (list_all (are a.v)) t.front) c.if-all.true (left ∙ ap (list_all (is a.v)) t.back)

pub returns-else-all : goal.returns-else-all
returns-else-all c =
    let a = c.args in
    let t = c.as_chunks.ensures in
    let e : a.at + a.n - a.at ≡ a.n = omega arith in
    let eights = all_from_yields_List (are a.v) _ _ c.all.result c.all.ensures.ran (YieldsList-from_slice c.as_chunks.result.0.now cc) (λ x b q k. search (rules, tests)) in
    eights_say a.s.now a.at a.n a.v (search rules) _ (ap (λ m. take m (drop a.at a.s.now)) e) _ c.all.result (omega arith) (eights ∙ ap (list_all (are a.v)) t.front) c.if-all.false
