use Prim.Native.Nat.{ℕ, ◌+◌}
use mathlib.Core.Path.{◌≡◌, refl, ◌∙◌}
use native.Mathlib.Omega.{arith}
use borrow.Author.Rules.{rules}
use Rattle.std.proofs.Common.{tests}
use Rattle.std.proofs.lemmas.Iterator.{YieldsList-from_range, YieldsList-from_map}
use Rattle.std.proofs.lemmas.Iterator.Consumers.{YieldsList-at, sum_from_yields_List}
use Rattle.std.proofs.lemmas.Iterator.Adapters.{fits_from_length, at_most_from_yields_List}
use Rattle.field.specs.Sum.{sum_to}
use Rattle.tables.proofs.RangeLaws.{sum_range}
use Rattle.tables.proofs.LackLaws.{lacks_say}
use Rattle.tables.specs.Room.{count_at, lack_of}
use Rattle.tables.specs.Views.{view_of}
use Rattle.tables.proofs.room.room.Goals as goal

pub sum-lacking-requires-clause-fits : goal.sum-lacking-requires-clause-fits
sum-lacking-requires-clause-fits c =
    fits_from_length _ _ 6 _
    (at_most_from_yields_List (YieldsList-at c.map.ensures.source (YieldsList-from_range 3 9 6 refl refl)) (omega arith))
    c.map.ensures.closure (omega arith) (λ x r q k. search (rules, tests))

pub returns : goal.returns
returns c =
    let a = c.args in
    let lacking : c.sum-lacking.result ≡ sum_to 6 (λ k. lack_of (view_of a.b.now.places a.b.now.raw.now) (k + 3) (count_at a.counts (k + 3))) =
    sum_from_yields_List c.map.result _ c.sum-lacking.ensures.ran
    (YieldsList-from_map _ (λ (t : ℕ). lack_of (view_of a.b.now.places a.b.now.raw.now) t (count_at a.counts t))
    (YieldsList-at c.map.ensures.source (YieldsList-from_range 3 9 6 refl refl))
    c.map.ensures.closure (λ x r q k. search (rules, tests)))
    ∙ sum_range (λ t. lack_of (view_of a.b.now.places a.b.now.raw.now) t (count_at a.counts t)) 6 3 in
    lacks_say _ a.counts _ 6 lacking _ refl c.open_zones.ensures.0
