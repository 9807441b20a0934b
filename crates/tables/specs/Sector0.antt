-- Sector 0 of the books b: "mark 0-3, version "01.0" 4-7, application 8-23, volume name 24-55, volume ID 56-59, owner 60-91,
-- owner's code 92-123, initialization date 124-129, Z 130-133, sectors per zone 134-135, bytes per sector 136-137,
-- start sectors of zone table 138-141, sector table 142-145, index tables 146-149, index size 150-151." For each field its reader, and the books with another value in
-- it; texts are padded with the nulls that are there.
use Rattle.std.specs.Prelude.{ℕ, List, take, drop}
use Rattle.field.specs.Numbers.{u16_at, u32_at, put_u16, put_u32}
use Rattle.field.specs.Parts.{over}

abbrev pub mark_of : List ℕ → ℕ
mark_of b = u32_at b 0

abbrev pub put_mark : List ℕ → ℕ → List ℕ
put_mark b n = put_u32 b 0 n

abbrev pub version_of : List ℕ → ℕ
version_of b = u32_at b 4

abbrev pub put_version : List ℕ → ℕ → List ℕ
put_version b n = put_u32 b 4 n

abbrev pub application_of : List ℕ → List ℕ
application_of b = take 16 (drop 8 b)

abbrev pub put_application : List ℕ → List ℕ → List ℕ
put_application b text = over b 8 text

abbrev pub volume_name_of : List ℕ → List ℕ
volume_name_of b = take 32 (drop 24 b)

abbrev pub put_volume_name : List ℕ → List ℕ → List ℕ
put_volume_name b text = over b 24 text

abbrev pub volume_id_of : List ℕ → ℕ
volume_id_of b = u32_at b 56

abbrev pub put_volume_id : List ℕ → ℕ → List ℕ
put_volume_id b n = put_u32 b 56 n

abbrev pub owner_of : List ℕ → List ℕ
owner_of b = take 32 (drop 60 b)

abbrev pub put_owner : List ℕ → List ℕ → List ℕ
put_owner b text = over b 60 text

abbrev pub owner_code_of : List ℕ → List ℕ
owner_code_of b = take 32 (drop 92 b)

abbrev pub put_owner_code : List ℕ → List ℕ → List ℕ
put_owner_code b text = over b 92 text

abbrev pub initialized_of : List ℕ → List ℕ
initialized_of b = take 6 (drop 124 b)

abbrev pub put_initialized : List ℕ → List ℕ → List ℕ
put_initialized b date = over b 124 date

abbrev pub zones_of : List ℕ → ℕ
zones_of b = u32_at b 130

abbrev pub put_zones : List ℕ → ℕ → List ℕ
put_zones b n = put_u32 b 130 n

abbrev pub sectors_per_zone_of : List ℕ → ℕ
sectors_per_zone_of b = u16_at b 134

abbrev pub put_sectors_per_zone : List ℕ → ℕ → List ℕ
put_sectors_per_zone b n = put_u16 b 134 n

abbrev pub bytes_per_sector_of : List ℕ → ℕ
bytes_per_sector_of b = u16_at b 136

abbrev pub put_bytes_per_sector : List ℕ → ℕ → List ℕ
put_bytes_per_sector b n = put_u16 b 136 n

abbrev pub zone_start_of : List ℕ → ℕ
zone_start_of b = u32_at b 138

abbrev pub put_zone_start : List ℕ → ℕ → List ℕ
put_zone_start b n = put_u32 b 138 n

abbrev pub sector_start_of : List ℕ → ℕ
sector_start_of b = u32_at b 142

abbrev pub put_sector_start : List ℕ → ℕ → List ℕ
put_sector_start b n = put_u32 b 142 n

abbrev pub index_start_of : List ℕ → ℕ
index_start_of b = u32_at b 146

abbrev pub put_index_start : List ℕ → ℕ → List ℕ
put_index_start b n = put_u32 b 146 n

abbrev pub index_size_of : List ℕ → ℕ
index_size_of b = u16_at b 150

abbrev pub put_index_size : List ℕ → ℕ → List ℕ
put_index_size b n = put_u16 b 150 n
