-- A header placed: "A replaced header gets its new place first, then the old id becomes 0 and its run free; a B zone left empty becomes (0,0,0)."
use Rattle.std.specs.Prelude.{List, ℕ, length}
use Rattle.field.specs.Parts.{over}
use Rattle.tables.specs.declared.places.Places.{Places}
use Rattle.tables.specs.Kinds.{zone_of}
use Rattle.tables.specs.Indexes.{table_at, put_pointer, header_start, header_count}
use Rattle.tables.specs.Sectors.{put_sectors}
use Rattle.tables.specs.Views.{View, view_of}
use Rattle.allocation.specs.declared.choice.Found.{Found}
use Rattle.allocation.specs.Headers.{header_place, run_start, put_run}
use Rattle.files.specs.HeaderBytes.{header_sectors, header_bytes, header_marked}
use Rattle.files.specs.Moves.{body_place}
use Rattle.files.specs.Release.{recount_zone}

-- ---- the books

-- the c sectors from a on are free, and counted in their zone's entry; no sectors, no change
unfoldable pub free_run : Places → List ℕ → ℕ → ℕ → List ℕ
unfolding recount_zone
free_run p b a c = recount_zone p (put_sectors p b a c 0) (zone_of a) c

-- the n sectors at k are taken, and file f's header pointer names them
unfoldable pub pointed_at : Places → List ℕ → ℕ → ℕ → Found → List ℕ
unfolding put_run put_pointer
pointed_at p b f n k = put_pointer p (put_run p b n k) f 58 (record { start = record { 0 = run_start k }; count = n })

-- file f has a header of n sectors: the new place, then the old one's sectors free
unfoldable pub headed : Places → List ℕ → ℕ → ℕ → List ℕ
unfolding pointed_at free_run header_place
headed p b f n = let t = table_at p b f in free_run p (pointed_at p b f n (header_place (view_of p b) n)) (header_start t) (header_count t)

-- ---- the body: the new header at its place, then 0 for the id of the old one

unfoldable pub headed_body : View → ℕ → List ℕ → List ℕ → List ℕ
unfolding header_place header_bytes header_marked
headed_body v f bytes body = header_marked v f 0 (over body (body_place (run_start (header_place v (header_sectors (length bytes))))) (header_bytes f bytes))
