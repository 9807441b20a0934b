-- "Actual delete: blocks freed, a zone left empty becomes (0,0,0), and the free chain becomes the file's tables in order, then the old chain."
-- Where the file has a header, it "frees the run, whatever stood there" (W1).
use Rattle.std.specs.Prelude.{cond, List, [], ◌∷◌, ℕ, zero, suc, ◌+◌, ◌-◌, ◌*◌, eqb, ltb, length}
use Rattle.field.specs.Sum.{sum_to}
use Rattle.tables.specs.declared.places.Places.{Places}
use Rattle.tables.specs.declared.zone.ZoneEntry.{ZoneEntry}
use Rattle.tables.specs.Kinds.{first_of}
use Rattle.tables.specs.Blocks.{block_of, per_zone}
use Rattle.tables.specs.Indexes.{table_at, erased, put_link, word_of, slots_of, start_of, count_of, header_start, header_count, file_of}
use Rattle.tables.specs.Sector1.{deleted_of, put_deleted, free_of, put_free, put_latest, first_free_of, put_first_free}
use Rattle.tables.specs.Sectors.{put_sectors}
use Rattle.tables.specs.Views.{View, view_of, next, only_if, tally, claims_of}
use Rattle.tables.specs.Zones.{zone_at, put_zone}
use Rattle.allocation.specs.Last.{last_table}

-- ---- the file's tables, free before the old chain

-- the tables that links lead to from i, n at most: "0 ends any chain"
unfoldable pub chain_from : (ℕ → ℕ) → ℕ → ℕ → List ℕ
chain_from link zero i = []
chain_from link (suc n) i = cond (eqb i 0) [] (i ∷ chain_from link n (link i))

-- the tables of file f: the parent, then its children in order
unfoldable pub chain_of : View → ℕ → List ℕ
unfolding chain_from
chain_of v f = chain_from (next v) v.indexes f

-- how many they are
abbrev pub file_tables : View → ℕ → ℕ
file_tables v f = length (chain_of v f)

-- the sectors under the first n pointers of table i, whose bytes are t, are free
unfoldable pub clear_runs : Places → List ℕ → ℕ → List ℕ → ℕ → List ℕ
clear_runs p b i t zero = b
clear_runs p b i t (suc n) = put_sectors p (clear_runs p b i t n) (start_of i t n) (count_of i t n) 0

-- the sectors under the header pointer of table i, which is a parent, are free
unfoldable pub clear_header : Places → List ℕ → ℕ → List ℕ → List ℕ
clear_header p b i t = cond (eqb (word_of t) i) (put_sectors p b (header_start t) (header_count t) 0) b

-- table i is free, and so are its sectors: "A free index is all zeros but 124-127", its link, which stays
unfoldable pub free_table : Places → List ℕ → ℕ → List ℕ
unfolding clear_runs clear_header
free_table p b i = let t = table_at p b i in erased p (clear_header p (clear_runs p b i t (slots_of i t)) i t) i 124

-- so are the tables of a list
unfoldable pub free_tables : Places → List ℕ → List ℕ → List ℕ
unfolding free_table
free_tables p b [] = b
free_tables p b (i ∷ is) = free_tables p (free_table p b i) is

-- sector 1 with n free index tables more, f the first of them, a temporarily deleted file fewer, and the date as latest update
unfoldable pub put_freed : List ℕ → ℕ → ℕ → List ℕ → List ℕ
put_freed b f n date = put_latest (put_first_free (put_free (put_deleted b (deleted_of b - 1)) (free_of b + n)) f) date

-- "the free chain becomes the file's tables in order, then the old chain"
unfoldable pub freed_file : Places → List ℕ → ℕ → List ℕ → List ℕ
unfolding free_tables chain_of put_freed last_table
freed_file p b f date =
    let v = view_of p b in
    put_freed (put_link p (free_tables p b (chain_of v f)) (last_table v f) (first_free_of b)) f (file_tables v f) date

-- ---- "blocks freed, a zone left empty becomes (0,0,0)"

-- how many claims of file f's tables lie over sector s: its pointers, and its header pointer
unfoldable pub gone : View → ℕ → ℕ → ℕ
gone v f s = tally v (λ i t. only_if (eqb (file_of i t) f) (claims_of i t s))

-- how many blocks of zone z are claimed by file f's tables: each whole (R6), so that its first sector tells, and once (R7)
unfoldable pub freed_blocks : View → ℕ → ℕ → ℕ
unfolding gone
freed_blocks v f z = sum_to (per_zone (v.zone z).ztype) (λ k. gone v f (first_of z + k * block_of (v.zone z).ztype))

-- the entry e of a zone of which n blocks are freed
unfoldable pub recounted : ZoneEntry → ℕ → ZoneEntry
recounted e n =
    cond (eqb (e.free + n) (per_zone e.ztype)) (record { ztype = 0; free = 0; third = 0 }) (record { ztype = e.ztype; free = e.free + n; third = e.third })

-- the books with zone z's entry so, if any are freed
unfoldable pub recount_zone : Places → List ℕ → ℕ → ℕ → List ℕ
unfolding recounted
recount_zone p b z n = let e = recounted (zone_at p b z) n in cond (ltb 0 n) (put_zone p b z e.ztype e.free e.third) b

-- zones 2 to n + 1, with so many freed of each
unfoldable pub recount_zones : Places → List ℕ → (ℕ → ℕ) → ℕ → List ℕ
unfolding recount_zone
recount_zones p b freed zero = b
recount_zones p b freed (suc n) = recount_zone p (recount_zones p b freed n) (n + 2) (freed (n + 2))

-- ---- the books without file f

unfoldable pub released : Places → List ℕ → ℕ → List ℕ → List ℕ
unfolding freed_file freed_blocks recount_zones
released p b f date = recount_zones p (freed_file p b f date) (freed_blocks (view_of p b) f) (p.zones - 2)
