-- Tables that stand as R1 says leave every entry its room.
use Prim.Native.Nat.{ℕ, ◌*◌, ◌≤◌}
use native.Mathlib.Omega.{arith}
use Rattle.tables.specs.declared.places.Places.{Places}
use Rattle.tables.specs.Places.{Layout}
use Rattle.tables.specs.Rules.R1.{zone_bytes, sector_bytes, index_bytes, Stand}

-- whole sectors hold what they are taken for
pub zone_room : (z : ℕ) → 6 * z ≤ zone_bytes z
zone_room z = omega arith

pub sector_room : (z : ℕ) → 128 * z ≤ sector_bytes z
sector_room z = omega arith

pub index_room : (n : ℕ) → 128 * n ≤ index_bytes n
index_room n = omega arith

pub stand_layout : (p : Places) (len : ℕ) → 3 ≤ p.zones → p.zones ≤ 256 → 1 ≤ p.indexes → p.indexes ≤ 4096 → len ≤ 1048576 → Stand p len → Layout p len
stand_layout p len least most some few small s = record {
  least = least;
  most = most;
  some = some;
  few = few;
  zone = s.zone;
  sector = omega (arith, s.sector, zone_room p.zones);
  index = omega (arith, s.index, sector_room p.zones);
  end = omega (arith, s.end, index_room p.indexes);
  small = small;
}
