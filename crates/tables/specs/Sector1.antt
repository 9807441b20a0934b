-- Sector 1 of the books b, from byte 1,024 on: "N 0-3, active files 4-7, temporarily deleted 8-11, free index tables 12-15,
-- system files 16-17, directory files 18-19, latest update 20-25, first free index 26-29, volume flag 30-31." For each field its reader, and
-- the books with another value in it.
use Rattle.std.specs.Prelude.{ℕ, List, take, drop}
use Rattle.field.specs.Numbers.{u16_at, u32_at, put_u16, put_u32}
use Rattle.field.specs.Parts.{over}

abbrev pub indexes_of : List ℕ → ℕ
indexes_of b = u32_at b 1024

abbrev pub put_indexes : List ℕ → ℕ → List ℕ
put_indexes b n = put_u32 b 1024 n

abbrev pub active_of : List ℕ → ℕ
active_of b = u32_at b 1028

abbrev pub put_active : List ℕ → ℕ → List ℕ
put_active b n = put_u32 b 1028 n

abbrev pub deleted_of : List ℕ → ℕ
deleted_of b = u32_at b 1032

abbrev pub put_deleted : List ℕ → ℕ → List ℕ
put_deleted b n = put_u32 b 1032 n

abbrev pub free_of : List ℕ → ℕ
free_of b = u32_at b 1036

abbrev pub put_free : List ℕ → ℕ → List ℕ
put_free b n = put_u32 b 1036 n

abbrev pub system_of : List ℕ → ℕ
system_of b = u16_at b 1040

abbrev pub put_system : List ℕ → ℕ → List ℕ
put_system b n = put_u16 b 1040 n

abbrev pub directory_of : List ℕ → ℕ
directory_of b = u16_at b 1042

abbrev pub put_directory : List ℕ → ℕ → List ℕ
put_directory b n = put_u16 b 1042 n

abbrev pub latest_of : List ℕ → List ℕ
latest_of b = take 6 (drop 1044 b)

abbrev pub put_latest : List ℕ → List ℕ → List ℕ
put_latest b date = over b 1044 date

abbrev pub first_free_of : List ℕ → ℕ
first_free_of b = u32_at b 1050

abbrev pub put_first_free : List ℕ → ℕ → List ℕ
put_first_free b n = put_u32 b 1050 n

abbrev pub flag_of : List ℕ → ℕ
flag_of b = u16_at b 1054

abbrev pub put_flag : List ℕ → ℕ → List ℕ
put_flag b n = put_u16 b 1054 n
