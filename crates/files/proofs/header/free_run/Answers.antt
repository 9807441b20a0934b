use native.Mathlib.Omega.{arith}
use Rattle.files.proofs.FreeRunLaws.{run_none, entry_typed, entry_few, run_put}
use Rattle.files.proofs.RecountLaws.{zone_small}
use borrow.Author.Rules.{rules}
use Rattle.files.proofs.header.free_run.Goals as goal

pub returns-then-q-eq0 : goal.returns-then-q-eq0
returns-then-q-eq0 c = let a = c.args in run_none a.p a.b.now a.q.start.0 a.q.count c.if-q-eq0.true

pub put_sectors-requires : goal.put_sectors-requires
put_sectors-requires c =
    let can = c.requires.recountable (omega arith) in
    record { layout = search rules; n_bound = (omega (arith, can.high), search rules) }

pub zone_entry-requires : goal.zone_entry-requires
zone_entry-requires c =
    let can = c.requires.recountable (omega arith) in
    let z = c.zone_of-z.ensures in
    record { le_z = (omega (arith, z), omega (arith, z, can.high)) }

-- the entry that is read is one that can count the sectors
pub recounted-e-requires : goal.recounted-e-requires
recounted-e-requires c =
    let a = c.args in
    let can = c.requires.recountable (omega arith) in
    record {
      zone_type = entry_typed a.p a.b.now _ _ c.requires.layout _ c.put_sectors.ensures (omega (arith, can.high)) can _ c.zone_of-z.ensures _ c.zone_entry.ensures;
      n_bound = entry_few a.p a.b.now _ _ c.requires.layout _ c.put_sectors.ensures (omega (arith, can.high)) can _ c.zone_of-z.ensures _ c.zone_entry.ensures;
    }

pub put_zone-requires : goal.put_zone-requires
put_zone-requires c =
    let a = c.args in
    let can = c.requires.recountable (omega arith) in
    let z = c.zone_of-z.ensures in
    let typed = entry_typed a.p a.b.now _ _ c.requires.layout _ c.put_sectors.ensures (omega (arith, can.high)) can _ z _ c.zone_entry.ensures in
    let few = entry_few a.p a.b.now _ _ c.requires.layout _ c.put_sectors.ensures (omega (arith, can.high)) can _ z _ c.zone_entry.ensures in
    let small = zone_small a.p _ _ c.zone_entry.result c.zone_entry.ensures (λ j. omega (arith, c.slice_known-2-1.given j)) _ typed few _ c.recounted-e.ensures in
    record { layout = search rules; le_z = (omega (arith, z), omega (arith, z, can.high)); t_bound = small }

pub returns : goal.returns
returns c =
    let can = c.requires.recountable (omega arith) in
    run_put c.args.p c.args.b.now _ _ c.requires.layout _ c.put_sectors.ensures (omega (arith, can.high)) (omega arith) _ c.zone_of-z.ensures
    _ c.zone_entry.ensures _ c.recounted-e.ensures _ c.put_zone.ensures
