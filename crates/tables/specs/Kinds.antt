-- "zone z holds sectors 1024(z-1) to 1024z-1"
use Rattle.std.specs.Prelude.{ℕ, ◌+◌, ◌-◌, ◌*◌, ◌/◌}

-- the zone that holds sector s
abbrev pub zone_of : ℕ → ℕ
zone_of s = s / 1024 + 1

-- the first sector of zone z
abbrev pub first_of : ℕ → ℕ
first_of z = 1024 * (z - 1)
