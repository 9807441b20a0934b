-- Worked instances, by computation: what the layout definitions read in a fresh volume of Z = 3, N = 8, S = 5, and in tables whose bytes
-- are numbered.
use mathlib.Core.Path.{◌≡◌, refl}
use mathlib.Core.List.{List, [], ◌∷◌}
use Prim.Native.Nat.{ℕ, zero, suc, ◌+◌, ◌*◌}
use lib.ListN.{length, get_or}
use Rattle.field.specs.Numbers.{u16_at, u32_at, put_u16, put_u32}
use Rattle.field.specs.Bits.{bit_at}
use Rattle.field.specs.Parts.{over}
use Rattle.tables.specs.Sector0.{mark_of, version_of, application_of, volume_name_of, volume_id_of, owner_of, owner_code_of, initialized_of, zones_of, sectors_per_zone_of, bytes_per_sector_of, zone_start_of, sector_start_of, index_start_of, index_size_of}
use Rattle.tables.specs.Sector1.{indexes_of, active_of, deleted_of, free_of, system_of, directory_of, latest_of, first_free_of, flag_of}
use Rattle.tables.specs.Places.{places_of}
use Rattle.tables.specs.Zones.{zone_at, put_zone}
use Rattle.tables.specs.Sectors.{sector_at}
use Rattle.tables.specs.Blocks.{block_of}
use Rattle.tables.specs.Indexes.{table_at, word_of, parent_of, name_of, created_of, changed_of, length_of, attribute_of, link_of, pointer_at, slots_of, base_of, start_of, count_of, file_of}
use Rattle.tables.specs.Format.{Label, fresh_places, formatted}

-- 2 January 2000, 3:04
date : List ℕ
date = 7 ∷ 208 ∷ 1 ∷ 2 ∷ 3 ∷ 4 ∷ []

-- texts "APP", "VOL", "OWN", "C" and the id 77
label : Label
unfolding date
label = record { application = 65 ∷ 80 ∷ 80 ∷ []; volume = 86 ∷ 79 ∷ 76 ∷ []; id = 77; owner = 79 ∷ 87 ∷ 78 ∷ []; code = 67 ∷ []; date = date }

fresh : List ℕ
unfolding label formatted
fresh = formatted 5120 3 8 label

-- sector 0
fresh_label : (mark_of fresh ≡ 0x49532643) × (version_of fresh ≡ 0x30312e30) × (volume_id_of fresh ≡ 77) × (initialized_of fresh ≡ date) × (get_or (application_of fresh) 2 0 ≡ 80) × (get_or (application_of fresh) 3 0 ≡ 0)
    × (get_or (volume_name_of fresh) 0 0 ≡ 86) × (get_or (owner_of fresh) 0 0 ≡ 79) × (get_or (owner_code_of fresh) 0 0 ≡ 67)
unfolding fresh date over put_u16 put_u32 put_zone u16_at u32_at
fresh_label = (refl, refl, refl, refl, refl, refl, refl, refl, refl)

fresh_sizes : (length fresh ≡ 5120) × (zones_of fresh ≡ 3) × (sectors_per_zone_of fresh ≡ 1024) × (bytes_per_sector_of fresh ≡ 1024) × (zone_start_of fresh ≡ 2) × (sector_start_of fresh ≡ 3) × (index_start_of fresh ≡ 4)
    × (index_size_of fresh ≡ 128) × (places_of fresh ≡ fresh_places 3 8)
unfolding fresh over put_u16 put_u32 put_zone u16_at u32_at
fresh_sizes = (refl, refl, refl, refl, refl, refl, refl, refl, refl)

-- sector 1
fresh_counts : (indexes_of fresh ≡ 8) × (active_of fresh ≡ 0) × (deleted_of fresh ≡ 0) × (free_of fresh ≡ 8) × (system_of fresh ≡ 0) × (directory_of fresh ≡ 0) × (latest_of fresh ≡ date) × (first_free_of fresh ≡ 1) × (flag_of fresh ≡ 0)
unfolding fresh date over put_u16 put_u32 put_zone u16_at u32_at
fresh_counts = (refl, refl, refl, refl, refl, refl, refl, refl, refl)

-- zones 1 to 3, and the bits at their ends
fresh_zones : (zone_at (fresh_places 3 8) fresh 1 ≡ record { ztype = 1; free = 65535; third = 3 }) × (zone_at (fresh_places 3 8) fresh 2 ≡ record { ztype = 0; free = 0; third = 0 })
    × (zone_at (fresh_places 3 8) fresh 3 ≡ record { ztype = 65535; free = 65535; third = 1 })
unfolding fresh over put_u16 put_u32 put_zone zone_at u16_at
fresh_zones = (refl, refl, refl)

fresh_bits : (sector_at (fresh_places 3 8) fresh 0 ≡ 1) × (sector_at (fresh_places 3 8) fresh 1023 ≡ 1) × (sector_at (fresh_places 3 8) fresh 1024 ≡ 0) × (sector_at (fresh_places 3 8) fresh 2047 ≡ 0)
    × (sector_at (fresh_places 3 8) fresh 2048 ≡ 1) × (sector_at (fresh_places 3 8) fresh 3071 ≡ 1)
unfolding fresh over put_u16 put_u32 put_zone bit_at
fresh_bits = (refl, refl, refl, refl, refl, refl)

-- the free chain 1, 2, .., 8
link_at : ℕ → ℕ
link_at i = link_of (table_at (fresh_places 3 8) fresh i)

fresh_chain : (link_at 1 ≡ 2) × (link_at 2 ≡ 3) × (link_at 7 ≡ 8) × (link_at 8 ≡ 0) × (word_of (table_at (fresh_places 3 8) fresh 1) ≡ 0) × (word_of (table_at (fresh_places 3 8) fresh 8) ≡ 0)
unfolding link_at table_at fresh over put_u16 put_u32 put_zone u32_at
fresh_chain = (refl, refl, refl, refl, refl, refl)

-- ---- tables whose k-th byte is k

numbered : ℕ → ℕ → List ℕ
numbered k zero = []
numbered k (suc n) = k ∷ numbered (suc k) n

-- a number of bytes k and k + 1, and of k to k + 3
two : ℕ → ℕ
two k = k * 256 + (k + 1)

four : ℕ → ℕ
four k = two k * 65536 + two (k + 2)

t : List ℕ
unfolding numbered
t = numbered 0 128

-- a parent: id 0-3, name 4-27, created 28-33, changed 34-39, byte length 40-43, attribute 44-45, header pointer 58-63, pointers 64-123, link 124-127
parent_fields : (word_of t ≡ four 0) × (name_of t ≡ numbered 4 24) × (created_of t ≡ numbered 28 6) × (changed_of t ≡ numbered 34 6) × (length_of t ≡ four 40) × (attribute_of t ≡ two 44)
    × (pointer_at t 58 ≡ record { start = record { 0 = four 58 }; count = two 62 }) × (link_of t ≡ four 124)
unfolding t numbered four two u16_at u32_at
parent_fields = (refl, refl, refl, refl, refl, refl, refl, refl)

-- index 66051 begins with its own number here (bytes 0, 1, 2, 3): ten pointers from 64 on; as any other index it has a child's seventeen from 22 on
parent_pointers : (slots_of 66051 t ≡ 10) × (start_of 66051 t 0 ≡ four 64) × (count_of 66051 t 0 ≡ two 68) × (start_of 66051 t 9 ≡ four 118) × (count_of 66051 t 9 ≡ two 122) × (file_of 66051 t ≡ 66051)
unfolding slots_of base_of file_of t numbered four two u16_at u32_at
parent_pointers = (refl, refl, refl, refl, refl, refl)

child_pointers : (slots_of 5 t ≡ 17) × (start_of 5 t 0 ≡ four 22) × (count_of 5 t 0 ≡ two 26) × (start_of 5 t 16 ≡ four 118) × (count_of 5 t 16 ≡ two 122) × (parent_of t ≡ four 4) × (file_of 5 t ≡ four 4)
unfolding slots_of base_of file_of t numbered four two u16_at u32_at
child_pointers = (refl, refl, refl, refl, refl, refl, refl)

-- the block sizes
block_sizes_lem : (block_of 2 ≡ 1) × (block_of 3 ≡ 1) × (block_of 4 ≡ 4) × (block_of 5 ≡ 16) × (block_of 6 ≡ 64) × (block_of 7 ≡ 256) × (block_of 8 ≡ 1024)
unfolding block_of
block_sizes_lem = (refl, refl, refl, refl, refl, refl, refl)
