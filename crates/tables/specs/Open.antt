-- "An open zone has type 0, or type 3-8 with every block free." "A wholly free type B zone is open too" (W1).
use Rattle.std.specs.Prelude.{Bool, ◌&&◌, ◌||◌, ℕ, ◌+◌, ◌-◌, eqb}
use Rattle.field.specs.Sum.{sum_to}
use Rattle.tables.specs.declared.zone.ZoneEntry.{ZoneEntry}
use Rattle.tables.specs.Blocks.{is_zone_type, per_zone}
use Rattle.tables.specs.Views.{View, only_if}

-- a zone that reads so
unfoldable pub is_open : ZoneEntry → Bool
unfolding is_zone_type
is_open e = eqb e.ztype 0 || (is_zone_type e.ztype && eqb e.free (per_zone e.ztype))

-- how many of zones 2 to Z - 1 are open
unfoldable pub open_zones : View → ℕ
open_zones v = sum_to (v.zones - 2) (λ k. only_if (is_open (v.zone (k + 2))) 1)
