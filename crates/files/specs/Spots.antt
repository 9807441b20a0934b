-- A file's sectors in order: "the file's k-th sector (k unsigned, from 0)". The file's tables come in the order of its chain, in each table
-- the pointers, under each pointer its sectors. A spot is such a sector: a table, the number of a pointer in it, and how many of the pointer's
-- sectors stand before it.
use Rattle.std.specs.Prelude.{Bool, cond, ◌&&◌, ℕ, zero, suc, ◌+◌, ltb}
use Rattle.tables.specs.Indexes.{slots_of, start_of, count_of}
use Rattle.tables.specs.Views.{View, next}
use Rattle.files.specs.declared.spot.Spot.{Spot}

-- the first sector under the pointer j of table i
abbrev pub spot_at : ℕ → ℕ → Spot
spot_at i j = record { table = record { 0 = i }; slot = j; off = 0 }

-- the pointer at the spot: its start and its count
abbrev pub spot_start : View → Spot → ℕ
spot_start v c = start_of c.table.0 (v.table c.table.0) c.slot

abbrev pub spot_count : View → Spot → ℕ
spot_count v c = count_of c.table.0 (v.table c.table.0) c.slot

-- the table has a next pointer, and it is used
unfoldable pub more_at : View → Spot → Bool
more_at v c = ltb (c.slot + 1) (slots_of c.table.0 (v.table c.table.0)) && ltb 0 (spot_start v (spot_at c.table.0 (c.slot + 1)) + spot_count v (spot_at c.table.0 (c.slot + 1)))

-- the first sector under the next pointer: of the table, or else of the next table in the chain
unfoldable pub next_run : View → Spot → Spot
unfolding more_at
next_run v c = cond (more_at v c) (spot_at c.table.0 (c.slot + 1)) (spot_at (next v c.table.0) 0)

-- the next sector: under the pointer, or else the first under the next pointer
unfoldable pub onward : View → Spot → Spot
unfolding next_run
onward v c = cond (ltb (c.off + 1) (spot_count v c)) (record { table = c.table; slot = c.slot; off = c.off + 1 }) (next_run v c)

-- the k-th sector of file f
unfoldable pub spot_of : View → ℕ → ℕ → Spot
unfolding onward
spot_of v f zero = spot_at f 0
spot_of v f (suc k) = onward v (spot_of v f k)

-- its number on the volume
unfoldable pub kth_sector : View → ℕ → ℕ → ℕ
unfolding spot_of
kth_sector v f k = spot_start v (spot_of v f k) + (spot_of v f k).off
