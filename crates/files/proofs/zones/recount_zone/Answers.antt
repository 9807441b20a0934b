use Rattle.field.proofs.Tests.{passed}
use Rattle.files.proofs.RecountLaws.{zone_other, zone_same, zone_more, zone_small}
use native.Mathlib.Omega.{arith}
use borrow.Author.Rules.{rules}
use Rattle.files.proofs.zones.recount_zone.Goals as goal

pub returns-then-not-is_zone_type : goal.returns-then-not-is_zone_type
returns-then-not-is_zone_type c =
    let z = c.is_zone_type in
    let e = c.zone_entry-e in
    zone_other _ _ _ e.result e.ensures z.result z.ensures (search rules)

pub clear_blocks-n-requires : goal.clear_blocks-n-requires
clear_blocks-n-requires c = record { le_z = search rules; zone_type = passed c.is_zone_type.result c.is_zone_type.ensures (search rules) }

pub returns-then-n-e : goal.returns-then-n-e
returns-then-n-e c = search zone_same

pub recounted-x-requires : goal.recounted-x-requires
recounted-x-requires c = record { zone_type = passed c.is_zone_type.result c.is_zone_type.ensures (search rules); n_bound = search rules }

pub put_zone-requires : goal.put_zone-requires
put_zone-requires c =
    let a = c.args in
    let small =
    zone_small a.p a.b.now a.z.0 c.zone_entry-e.result c.zone_entry-e.ensures (λ j. omega (arith, c.slice_known-1.given j)) _ (passed c.is_zone_type.result c.is_zone_type.ensures (search rules))
    (omega (arith, c.clear_blocks-n.ensures.0, c.if-n-e.false)) _ c.recounted-x.ensures in record { layout = search rules; le_z = search rules; t_bound = small }

pub returns : goal.returns
returns c = search zone_more
