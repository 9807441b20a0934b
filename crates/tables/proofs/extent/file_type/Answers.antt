use native.Mathlib.Omega.{arith}
use Rattle.tables.proofs.ExtentLaws.{parent_in, parent_type}
use Rattle.tables.proofs.extent.file_type.Goals as goal

pub zone_entry-requires : goal.zone_entry-requires
zone_entry-requires c = let a = c.args in record { le_z = (omega arith, omega (arith, parent_in a.b.now.places a.b.now.raw.now a.f.0 _ _ _ c.requires.r6 (omega arith) (omega arith) (omega arith) c.table-t.ensures.0 c.base.ensures.0 c.pointer_at-q.ensures.0)) }

pub returns : goal.returns
returns c = search parent_type
