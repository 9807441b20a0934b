use Rattle.std.proofs.Common.{rules, ◌≡◌, true, false}
use Rattle.std.proofs.lemmas.Iterator.{first_from_Range}
use Rattle.tables.specs.Views.{view_of}
use Rattle.allocation.specs.Choice.{begun}
use Rattle.allocation.proofs.FindLaws.{zone_found}
use Rattle.allocation.proofs.NextBlockLaws.{begun_yes, begun_no}
use Rattle.allocation.proofs.choice.begun_from.Goals as goal

pub returns : goal.returns
returns c =
    let test = begun (view_of c.args.b.now.places c.args.b.now.raw.now) c.args.t in
    zone_found test _ _ _ c.map.result c.requires.le_from.1
    (first_from_Range _ _ _ c.find.result (λ z. test z ≡ true) (λ z. test z ≡ false) c.find.ensures.ran (λ z q k. search (rules, begun_yes)) (λ z q k. search (rules, begun_no))) (search rules)
