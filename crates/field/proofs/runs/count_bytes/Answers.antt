use Rattle.std.proofs.Common.{rules, of_calls, tests, ℕ, List, ◌+◌, ◌-◌, ◌/◌, take, drop, arith}
use Rattle.std.proofs.lemmas.Iterator.{YieldsList-from_slice, YieldsList-from_map}
use Rattle.std.proofs.lemmas.Iterator.Consumers.{YieldsList-at, sum_by_from_yields_List, fits_by_from_yields_list}
use lib.Count.{ones}
use Rattle.field.proofs.ByteLaws.{part_counted}
use Rattle.field.proofs.runs.count_bytes.Goals as goal

pub sum-requires : goal.sum-requires
sum-requires c =
    let a = c.args in
    let at : ℕ = a.base + a.from / 8 in
    let part : List ℕ = take (at + a.bytes - at) (drop at a.s.now) in
    let counted = part_counted a.s.now a.base a.from (at + a.bytes - at) a.bytes (omega arith) (search rules) (omega arith) (λ j. omega (arith, c.type_inv.s j)) in
    record {
      can = search of_calls;
      finite = search of_calls;
      fits = fits_by_from_yields_list ones part c.map.result _ (YieldsList-from_map _ ones (YieldsList-at c.map.ensures.source (YieldsList-from_slice part cc)) c.map.ensures.closure (λ x r q k. search (rules, tests))) (omega (arith, counted.1));
    }

pub returns : goal.returns
returns c =
    let a = c.args in
    let at : ℕ = a.base + a.from / 8 in
    let part : List ℕ = take (at + a.bytes - at) (drop at a.s.now) in
    let counted = part_counted a.s.now a.base a.from (at + a.bytes - at) a.bytes (omega arith) (search rules) (omega arith) (λ j. omega (arith, c.type_inv.s j)) in
    let e = sum_by_from_yields_List ones part c.map.result c.sum.result c.sum.ensures.ran (YieldsList-from_map _ ones (YieldsList-at c.map.ensures.source (YieldsList-from_slice part cc)) c.map.ensures.closure (λ x r q k. search (rules, tests))) in
    rw e counted
