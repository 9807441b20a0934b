use Prim.Native.Nat.{ℕ, ◌+◌, ◌-◌}
use mathlib.Core.Path.{◌≡◌, refl, ◌∙◌}
use native.Mathlib.Omega.{arith}
use borrow.Author.Rules.{rules}
use Rattle.std.proofs.Common.{tests}
use Rattle.std.proofs.lemmas.Iterator.{YieldsList-from_range}
use Rattle.std.proofs.lemmas.Iterator.Consumers.{YieldsList-at, YieldsList-from_filter, count_from_yields_List}
use Rattle.field.specs.Sum.{sum_to}
use Rattle.tables.proofs.RangeLaws.{count_range, count_few}
use Rattle.tables.specs.Open.{is_open, open_zones}
use Rattle.tables.specs.Views.{only_if}
use Rattle.tables.specs.Zones.{zone_at}
use Rattle.tables.proofs.open.open_zones.Goals as goal

pub returns : goal.returns
unfolding open_zones
returns c =
    let a = c.args in
    let counted : c.count.result ≡ sum_to (a.b.now.places.zones - 2) (λ k. only_if (is_open (zone_at a.b.now.places a.b.now.raw.now (k + 2))) 1) =
    count_from_yields_List c.filter.result _ c.count.ensures.ran
    (YieldsList-from_filter _ (λ (z : ℕ). is_open (zone_at a.b.now.places a.b.now.raw.now z))
    (YieldsList-at c.filter.ensures.source (YieldsList-from_range 2 a.b.now.places.zones (a.b.now.places.zones - 2) refl refl))
    c.filter.ensures.closure (λ x r q k. search (rules, tests)))
    ∙ count_range (λ z. is_open (zone_at a.b.now.places a.b.now.raw.now z)) (a.b.now.places.zones - 2) 2 in
    (counted, omega (arith, count_few (λ k. is_open (zone_at a.b.now.places a.b.now.raw.now (k + 2))) (a.b.now.places.zones - 2)))
