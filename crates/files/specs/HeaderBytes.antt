-- The bytes of a header, and the body in which it lies.
use Rattle.std.specs.Prelude.{cond, List, ℕ, ◌+◌, ◌*◌, ◌≤◌, ◌<◌, ltb, length, replicate}
use Rattle.field.specs.Numbers.{put_u16, put_u32}
use Rattle.field.specs.Parts.{over}
use Rattle.tables.specs.Indexes.{header_start, header_count}
use Rattle.tables.specs.Rules.R1.{ceil}
use Rattle.tables.specs.Views.{View}
use Rattle.files.specs.Moves.{body_place}

-- "the fewest consecutive sectors" for so many bytes of data, after the header's own six
abbrev pub header_sectors : ℕ → ℕ
header_sectors long = ceil (6 + long) 1024

-- "file id (4 bytes), length L (2), L bytes, then nulls"
unfoldable pub header_bytes : ℕ → List ℕ → List ℕ
header_bytes id bytes = over (put_u16 (put_u32 (replicate (1024 * header_sectors (length bytes)) 0) 0 id) 4 (length bytes)) 6 bytes

-- the body with w for the first four bytes of the header of file f, where it has one
unfoldable pub header_marked : View → ℕ → ℕ → List ℕ → List ℕ
header_marked v f w body = cond (ltb 0 (header_count (v.table f))) (put_u32 body (body_place (header_start (v.table f))) w) body

-- of a parent whose bytes are t: the first four bytes of its header, where it has one, lie in a body of len bytes
abbrev pub HeaderInBody : List ℕ → ℕ → Type 0
HeaderInBody t len = 0 < header_count t → (1024 ≤ header_start t) × (body_place (header_start t) + 4 ≤ len)
