use Prim.Native.Nat.{ℕ, ◌-◌}
use mathlib.Core.Path.{refl, ◌∙◌}
use native.Mathlib.Omega.{arith}
use borrow.Author.Rules.{rules}
use Rattle.std.proofs.Common.{tests}
use Rattle.std.proofs.lemmas.Iterator.{YieldsList-from_range, YieldsList-from_map}
use Rattle.std.proofs.lemmas.Iterator.Consumers.{YieldsList-at, sum_from_yields_List}
use Rattle.std.proofs.lemmas.Iterator.Adapters.{fits_from_length, at_most_from_yields_List}
use Rattle.std.proofs.lemmas.List.FromFn.{length-range_with_len}
use Rattle.tables.proofs.RangeLaws.{sum_range}
use Rattle.tables.specs.Room.{spare_in, spare_of}
use Rattle.tables.specs.Zones.{zone_at}
use Rattle.tables.proofs.room.spare_of.Goals as goal

pub sum-requires-clause-fits : goal.sum-requires-clause-fits
sum-requires-clause-fits c =
    fits_from_length _ _ 254 _
    (at_most_from_yields_List (YieldsList-at c.map.ensures.source (YieldsList-from_range 2 c.args.b.now.places.zones (c.args.b.now.places.zones - 2) refl refl)) (omega (arith, length-range_with_len 2 (c.args.b.now.places.zones - 2))))
    c.map.ensures.closure (omega arith) (λ x r q k. search (rules, tests))

pub returns : goal.returns
unfolding spare_of
returns c =
    let a = c.args in
    sum_from_yields_List c.map.result _ c.sum.ensures.ran
    (YieldsList-from_map _ (λ (z : ℕ). spare_in a.t (zone_at a.b.now.places a.b.now.raw.now z))
    (YieldsList-at c.map.ensures.source (YieldsList-from_range 2 a.b.now.places.zones (a.b.now.places.zones - 2) refl refl))
    c.map.ensures.closure (λ x r q k. search (rules, tests)))
    ∙ sum_range (λ z. spare_in a.t (zone_at a.b.now.places a.b.now.raw.now z)) (a.b.now.places.zones - 2) 2
