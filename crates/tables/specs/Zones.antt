-- "Zone table entry, 6 bytes: type, free blocks, third field."
use Rattle.std.specs.Prelude.{ℕ, ◌+◌, ◌-◌, ◌*◌, List}
use Rattle.field.specs.Numbers.{u16_at, put_u16}
use Rattle.tables.specs.declared.places.Places.{Places}
use Rattle.tables.specs.declared.zone.ZoneEntry.{ZoneEntry}

-- zone z's entry
unfoldable pub zone_at : Places → List ℕ → ℕ → ZoneEntry
zone_at p b z = record {
  ztype = u16_at b (p.zonetable + 6 * (z - 1));
  free = u16_at b (p.zonetable + 6 * (z - 1) + 2);
  third = u16_at b (p.zonetable + 6 * (z - 1) + 4);
}

-- the books with (t, f, h) for zone z's entry
unfoldable pub put_zone : Places → List ℕ → ℕ → ℕ → ℕ → ℕ → List ℕ
put_zone p b z t f h =
    put_u16 (put_u16 (put_u16 b (p.zonetable + 6 * (z - 1)) t) (p.zonetable + 6 * (z - 1) + 2) f) (p.zonetable + 6 * (z - 1) + 4) h
