-- "Placing takes the lowest fitting run in the lowest B zone that isn't open, else the lowest open zone."
use Rattle.std.specs.Prelude.{◌≡◌, ◌⊎◌, Bool, true, false, cond, ◌&&◌, List, ℕ, ◌+◌, ◌-◌, ◌≤◌, ◌<◌, eqb, ltb}
use Rattle.field.specs.Sum.{sum_to}
use Rattle.tables.specs.declared.places.Places.{Places}
use Rattle.tables.specs.Kinds.{first_of}
use Rattle.tables.specs.Blocks.{header_type}
use Rattle.tables.specs.Zones.{put_zone}
use Rattle.tables.specs.Sectors.{put_sectors}
use Rattle.tables.specs.Views.{View}
use Rattle.tables.specs.Open.{is_open}
use Rattle.allocation.specs.declared.choice.Found.{Found}
use Rattle.allocation.specs.Find.{find}
use Rattle.allocation.specs.Choice.{begun, lowest_open}

-- ---- the place of a header of n sectors

-- the n sectors from the k-th of zone z on are free
unfoldable pub run_fits : View → ℕ → ℕ → ℕ → Bool
run_fits v n z k = eqb (sum_to n (λ j. v.bit (first_of z + k + j))) 0

-- the lowest such k, 1025 - n where there is none
unfoldable pub lowest_run : View → ℕ → ℕ → ℕ
unfolding run_fits find
lowest_run v n z = find (run_fits v n z) (1025 - n) 0

-- a B zone that isn't open and has a fitting run
unfoldable pub fitting : View → ℕ → ℕ → Bool
unfolding begun lowest_run
fitting v n z = begun v header_type z && ltb (lowest_run v n z) (1025 - n)

-- the lowest such zone, Z where there is none
unfoldable pub lowest_fitting : View → ℕ → ℕ
unfolding fitting find
lowest_fitting v n = find (fitting v n) (v.zones - 2) 2

-- a run, by its zone, its first sector's number in the zone, and the free sectors that the zone has without it: the lowest of zone z
abbrev pub run_place : View → ℕ → ℕ → Found
run_place v n z = record { zone = record { 0 = z }; number = lowest_run v n z; free = (v.zone z).free - n }

-- of the lowest fitting zone, or else the first sectors of the lowest open one
unfoldable pub header_place : View → ℕ → Found
unfolding lowest_fitting lowest_run lowest_open
header_place v n =
    let z = lowest_fitting v n in
    let here = run_place v n z in
    let there : Found = record { zone = record { 0 = lowest_open v }; number = 0; free = 1024 - n } in
    cond (ltb z v.zones) here there

-- ---- taken

-- the run's first sector
abbrev pub run_start : Found → ℕ
run_start k = first_of k.zone.0 + k.number

-- the books with it taken: its zone's entry, and its sectors in use
unfoldable pub put_run : Places → List ℕ → ℕ → Found → List ℕ
put_run p b n k = put_sectors p (put_zone p b k.zone.0 header_type k.free 0) (run_start k) n 1

-- ---- "No B zone fitting and no open zone: 12."

-- n free sectors one after the other, in a B zone that isn't open
pub record FittingRun (v : View) (n : ℕ) : Type 0 where
  pub zone : ℕ
  pub number : ℕ
  pub low : 2 ≤ zone
  pub high : zone < v.zones
  pub typed : (v.zone zone).ztype ≡ header_type
  pub begun : is_open (v.zone zone) ≡ false
  pub within : number + n ≤ 1024
  pub clear : (j : ℕ) → j < n → v.bit (first_of zone + number + j) ≡ 0

-- a zone that is open
pub record OpenZone (v : View) : Type 0 where
  pub zone : ℕ
  pub low : 2 ≤ zone
  pub high : zone < v.zones
  pub opened : is_open (v.zone zone) ≡ true

-- one of the two
abbrev pub HeaderRoom : View → ℕ → Type 0
HeaderRoom v n = FittingRun v n ⊎ OpenZone v

-- ---- what a place is

-- a fitting run of a B zone that isn't open
pub record BegunPlace (v : View) (n : ℕ) (k : Found) : Type 0 where
  pub low : 2 ≤ k.zone.0
  pub typed : (v.zone k.zone.0).ztype ≡ header_type
  pub begun : is_open (v.zone k.zone.0) ≡ false
  pub within : k.number + n ≤ 1024
  pub clear : (j : ℕ) → j < n → v.bit (first_of k.zone.0 + k.number + j) ≡ 0
  pub free : k.free ≡ (v.zone k.zone.0).free - n

-- the first sectors of an open zone
pub record OpenPlace (v : View) (n : ℕ) (k : Found) : Type 0 where
  pub low : 2 ≤ k.zone.0
  pub opened : is_open (v.zone k.zone.0) ≡ true
  pub number : k.number ≡ 0
  pub free : k.free ≡ 1024 - n
