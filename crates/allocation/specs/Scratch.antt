-- Copies of the zone and the sector table, at places of their own in books that have nothing else.
use Rattle.std.specs.Prelude.{List, ℕ, ◌*◌, take, drop}
use Rattle.field.specs.Parts.{over}
use Rattle.tables.specs.declared.places.Places.{Places}

abbrev pub scratch_places : ℕ → Places
scratch_places z = record { zones = z; indexes = 1; zonetable = 2048; sectortable = 3584; indextable = 36352 }

-- s with the copies of b's tables
unfoldable pub scratch_of : Places → List ℕ → List ℕ → List ℕ
scratch_of p s b = over (over s 2048 (take (6 * p.zones) (drop p.zonetable b))) 3584 (take (128 * p.zones) (drop p.sectortable b))
