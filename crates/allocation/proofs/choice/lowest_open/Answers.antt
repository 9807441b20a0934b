use Rattle.std.proofs.Common.{rules, ◌≡◌, true, false, ◌≤◌}
use Rattle.std.proofs.lemmas.Iterator.{first_from_Range}
use Rattle.tables.specs.Open.{is_open}
use Rattle.tables.specs.Views.{view_of}
use Rattle.allocation.specs.Choice.{lowest_open}
use Rattle.allocation.proofs.FindLaws.{zone_found}
use Rattle.allocation.proofs.choice.lowest_open.Goals as goal

pub returns : goal.returns
unfolding lowest_open
returns c =
    let le : 2 ≤ c.args.b.now.places.zones = search rules in
    let v = view_of c.args.b.now.places c.args.b.now.raw.now in
    zone_found (λ z. is_open (v.zone z)) 2 _ _ c.map.result le
    (first_from_Range _ _ _ c.find.result (λ z. is_open (v.zone z) ≡ true) (λ z. is_open (v.zone z) ≡ false) c.find.ensures.ran (λ z q k. search rules) (λ z q k. search rules)) (search rules)
