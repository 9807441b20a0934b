use Rattle.std.proofs.Common.{rules, ◌∙◌, arith, ◌+◌, ◌*◌, ◌≤◌, ◌≡◌, true, false}
use Rattle.std.proofs.iter.Serving.{serving}
use Rattle.std.proofs.lemmas.Iterator.{first_from_Range}
use Rattle.tables.proofs.IndexLaws.{slots_in}
use Rattle.allocation.proofs.LastLaws.{blank_at, used_le, used_is}
use Rattle.allocation.proofs.last.used_pointers.Goals as goal

pub find-requires-clause-callable : goal.find-requires-clause-callable
find-requires-clause-callable c =
    let all : c.base-at.result + 6 * c.slots-n.result ≤ 128 = omega (arith, slots_in c.args.i.0 c.args.t.now) in
    grind serving

pub returns : goal.returns
returns c =
    let blank = blank_at c.args.t.now c.base-at.result in
    let is = c.unwrap_or.ensures
    ∙ used_is _ _ _ _ c.slots-n.ensures.0 c.base-at.ensures.0 c.find.result
    (first_from_Range _ _ _ c.find.result (λ j. blank j ≡ true) (λ j. blank j ≡ false) c.find.ensures.ran (λ j q k. search rules) (λ j q k. search rules)) in
    (is, omega (arith, is, used_le c.args.i.0 c.args.t.now))
