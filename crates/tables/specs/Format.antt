-- "Format zeroes the books, writes both sectors, tables from sector 2 on without gaps, free chain 1, 2, ..., N, flag 0.
-- Initialization and update dates are the one given."
use Rattle.std.specs.Prelude.{ℕ, zero, suc, ◌+◌, ◌-◌, ◌*◌, ◌≤◌, List, length, replicate}
use Rattle.field.specs.Numbers.{put_u32}
use Rattle.field.specs.Parts.{over}
use Rattle.tables.specs.declared.places.Places.{Places}
use Rattle.tables.specs.declared.label.Label.{Label as Passed}
use Rattle.tables.specs.Dates.{Date}
use Rattle.tables.specs.Sector0.{put_mark, put_version, put_application, put_volume_name, put_volume_id, put_owner, put_owner_code, put_initialized, put_zones, put_sectors_per_zone, put_bytes_per_sector, put_zone_start, put_sector_start, put_index_start, put_index_size}
use Rattle.tables.specs.Sector1.{put_indexes, put_free, put_latest, put_first_free}
use Rattle.tables.specs.Zones.{put_zone}
use Rattle.tables.specs.Rules.R1.{zone_bytes, sector_bytes, ceil, Stand}

-- what a volume is called
pub record Label : Type 0 where
  pub application : List ℕ
  pub volume : List ℕ
  pub id : ℕ
  pub owner : List ℕ
  pub code : List ℕ
  pub date : List ℕ

-- the label that a caller passes on by reference
abbrev pub label_of : Passed → Label
label_of l = record { application = l.application.now; volume = l.volume.now; id = l.id; owner = l.owner.now; code = l.code.now; date = l.date.now }

-- "tables from sector 2 on without gaps"
abbrev pub fresh_places : ℕ → ℕ → Places
fresh_places z n = record {
  zones = z;
  indexes = n;
  zonetable = 2048;
  sectortable = 2048 + zone_bytes z;
  indextable = 2048 + zone_bytes z + sector_bytes z;
}

-- Z and N are allowed, and the tables find room in books of len bytes
pub record Formattable (len z n : ℕ) : Type 0 where
  pub least : 3 ≤ z
  pub most : z ≤ 256
  pub some : 1 ≤ n
  pub few : n ≤ 4096
  pub stand : Stand (fresh_places z n) len

-- no text is longer than its field, and the date is valid
pub record Writable (l : Label) : Type 0 where
  pub application : length l.application ≤ 16
  pub volume : length l.volume ≤ 32
  pub owner : length l.owner ≤ 32
  pub code : length l.code ≤ 32
  pub date : Date l.date

-- sector 0: texts, and the date
unfoldable pub put_titles : List ℕ → List ℕ → List ℕ → ℕ → List ℕ
put_titles b application volume id = put_volume_id (put_volume_name (put_application b application) volume) id

unfoldable pub put_owned : List ℕ → List ℕ → List ℕ → List ℕ → List ℕ
put_owned b owner code date = put_initialized (put_owner_code (put_owner b owner) code) date

unfoldable pub put_label : List ℕ → Label → List ℕ
unfolding put_titles put_owned
put_label b l = put_owned (put_titles b l.application l.volume l.id) l.owner l.code l.date

-- sector 0: mark "IS&C", version "01.0"
unfoldable pub put_identity : List ℕ → List ℕ
put_identity b = put_version (put_mark b 0x49532643) 0x30312e30

-- sector 0: sizes
unfoldable pub put_sizes : List ℕ → ℕ → List ℕ
unfolding put_identity
put_sizes b z = put_index_size (put_bytes_per_sector (put_sectors_per_zone (put_zones (put_identity b) z) 1024) 1024) 128

-- sector 0: the start sectors
unfoldable pub put_starts : List ℕ → ℕ → List ℕ
put_starts b z = put_index_start (put_sector_start (put_zone_start b 2) (2 + ceil (6 * z) 1024)) (2 + ceil (6 * z) 1024 + ceil z 8)

-- sector 1: N index tables, all free, the first of them 1; no file, flag 0
unfoldable pub put_status : List ℕ → ℕ → List ℕ → List ℕ
put_status b n d = put_first_free (put_latest (put_free (put_indexes b n) n) d) 1

-- zones 1 and Z, and their sector bits
unfoldable pub put_system_zones : Places → List ℕ → List ℕ
put_system_zones p b =
    over (over (put_zone p (put_zone p b 1 1 65535 p.zones) p.zones 65535 65535 1) p.sectortable (replicate 128 255)) (p.sectortable + 128 * (p.zones - 1)) (replicate 128 255)

-- index tables 1 to k link to the next
unfoldable pub put_links : Places → List ℕ → ℕ → List ℕ
put_links p b zero = b
put_links p b (suc k) = put_u32 (put_links p b k) (p.indextable + 128 * k + 124) (k + 2)

-- books of len bytes, formatted for Z zones and N index tables
unfoldable pub formatted : ℕ → ℕ → ℕ → Label → List ℕ
unfolding put_label put_sizes put_starts put_status put_system_zones put_links
formatted len z n l =
    put_links (fresh_places z n) (put_system_zones (fresh_places z n) (put_status (put_starts (put_sizes (put_label (replicate len 0) l) z) z) n l.date)) (n - 1)
