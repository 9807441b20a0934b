-- R2 "Zone 1 reads (1, -1, Z), zone Z reads (-1, -1, 1), and all their sector bits are set.
-- Others: (0,0,0) with bits clear, or type 3-8 with third field 0." "Zone type 2 (B) becomes lawful, free field = free sectors, third field 0"
-- (W1): type 2-8.
use Rattle.std.specs.Prelude.{◌≡◌, ◌⊎◌, ℕ, ◌+◌, ◌≤◌, ◌<◌}
use Rattle.tables.specs.declared.zone.ZoneEntry.{ZoneEntry}
use Rattle.tables.specs.Kinds.{first_of}
use Rattle.tables.specs.Blocks.{ZoneType}
use Rattle.tables.specs.Each.{Each}
use Rattle.tables.specs.Views.{View}

-- the entry reads (t, f, h); -1 is read as 65535
pub record Reads (e : ZoneEntry) (t f h : ℕ) : Type 0 where
  pub ztype : e.ztype ≡ t
  pub free : e.free ≡ f
  pub third : e.third ≡ h

-- every sector bit of zone z is w
abbrev pub ZoneBits : View → ℕ → ℕ → Type 0
ZoneBits v z w = (k : ℕ) → k < 1024 → v.bit (first_of z + k) ≡ w

-- (0,0,0) with bits clear
pub record Untyped (v : View) (z : ℕ) : Type 0 where
  pub reads : Reads (v.zone z) 0 0 0
  pub clear : ZoneBits v z 0

-- type 2-8 with third field 0
pub record InUse (v : View) (z : ℕ) : Type 0 where
  pub typed : ZoneType (v.zone z).ztype
  pub third : (v.zone z).third ≡ 0

-- zone z: a system zone, first or last, or one of the others
pub record ZoneLaw (v : View) (z : ℕ) : Type 0 where
  pub first : z ≡ 1 → Reads (v.zone z) 1 65535 v.zones × ZoneBits v z 1
  pub last : z ≡ v.zones → Reads (v.zone z) 65535 65535 1 × ZoneBits v z 1
  pub other : 2 ≤ z → z < v.zones → Untyped v z ⊎ InUse v z

abbrev pub R2 : View → Type 0
R2 v = Each (ZoneLaw v) 1 (v.zones + 1)
