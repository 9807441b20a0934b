-- A header's bytes, where they lie in the body, and what the rest of the body holds then.
use mathlib.Core.Path.{◌≡◌, refl, sym, ap, ◌∙◌}
use mathlib.Core.Logic.{◌⊎◌, ◌≢◌, inl, inr, ⊎_elim}
use mathlib.Core.Bool.{Bool, true, false, cond}
use mathlib.Core.List.{List}
use Prim.Native.Nat.{ℕ, ◌+◌, ◌-◌, ◌*◌, ◌≤◌, ◌<◌}
use native.Mathlib.Omega.{arith}
use lib.Dec.{ltb}
use lib.ListN.{length, get_or, take, drop, replicate, length-replicate}
use borrow.Author.Tests.{lt-ltb, le-ltb}
use borrow.Rule.Slice.PartMut.{put_mid}
use Rattle.field.specs.Kept.{Kept}
use Rattle.field.specs.Numbers.{u16_at, u32_at, put_u16, put_u32}
use Rattle.field.specs.Parts.{over}
use Rattle.field.proofs.Frames.{kept_refl, kept_wider}
use Rattle.field.proofs.NumberLaws.{get_d_zeros, kept_put_u16, kept_put_u32, u16_kept, u32_kept, u16_put_same, u32_put_same}
use Rattle.field.proofs.PartLaws.{length_over, kept_over, over_part}
use Rattle.tables.specs.declared.index.Pointer.{Pointer}
use Rattle.tables.specs.declared.places.Places.{Places}
use Rattle.tables.specs.Indexes.{table_at, pointer_at, header_start, header_count}
use Rattle.tables.specs.Views.{View, view_of}
use Rattle.files.specs.HeaderBytes.{header_sectors, header_bytes, header_marked, HeaderInBody}
use Rattle.files.specs.Moves.{body_place, sector_content}
use Rattle.files.proofs.MoveLaws.{part_kept, sectors_apart}
use Rattle.files.proofs.SectorLaws.{over_all, put_over}

-- ---- a header's bytes

module _ (id : ℕ) (bytes : List ℕ) where
  -- the nulls, the id over them, the length over these
  abbrev nulls : List ℕ
  nulls = replicate (1024 * header_sectors (length bytes)) 0

  abbrev named : List ℕ
  named = put_u32 nulls 0 id

  abbrev sized : List ℕ
  sized = put_u16 named 4 (length bytes)

  -- each is as long as the header, and the bytes of the file fit behind the six
  long_nulls : length nulls ≡ 1024 * header_sectors (length bytes)
  long_nulls = length-replicate {A = ℕ} (1024 * header_sectors (length bytes)) 0

  long_named : length named ≡ 1024 * header_sectors (length bytes)
  long_named = (kept_put_u32 nulls 0 id).len ∙ long_nulls

  long_sized : length sized ≡ 1024 * header_sectors (length bytes)
  long_sized = (kept_put_u16 named 4 (length bytes)).len ∙ long_named

  room : 6 + length bytes ≤ length sized
  room = omega (arith, long_sized)

  -- whole sectors, as many as it takes
  pub length_header_bytes : length (header_bytes id bytes) ≡ 1024 * header_sectors (length bytes)
  unfolding header_bytes
  length_header_bytes = length_over sized 6 bytes room ∙ long_sized

  -- "file id (4 bytes)"
  pub header_id : u32_at (header_bytes id bytes) 0 ≡ id
  unfolding header_bytes
  header_id =
      u32_kept 0 (kept_over sized 6 bytes room) (inl (omega arith)) ∙ u32_kept 0 (kept_put_u16 named 4 (length bytes)) (inl (omega arith))
      ∙ u32_put_same nulls 0 id (omega (arith, long_nulls))

  -- "length L (2)"
  pub header_length : u16_at (header_bytes id bytes) 4 ≡ length bytes
  unfolding header_bytes
  header_length = u16_kept 4 (kept_over sized 6 bytes room) (inl (omega arith)) ∙ u16_put_same named 4 (length bytes) (omega (arith, long_named))

  -- "L bytes"
  pub header_data : take (length bytes) (drop 6 (header_bytes id bytes)) ≡ bytes
  unfolding header_bytes
  header_data = over_part sized 6 bytes room

  -- "then nulls"
  pub header_null : (j : ℕ) → 6 + length bytes ≤ j → get_or (header_bytes id bytes) j 0 ≡ 0
  unfolding header_bytes
  header_null j l =
      (kept_over sized 6 bytes room).out j (inr (omega arith)) ∙ (kept_put_u16 named 4 (length bytes)).out j (inr (omega arith))
      ∙ (kept_put_u32 nulls 0 id).out j (inr (omega arith)) ∙ get_d_zeros (1024 * header_sectors (length bytes)) j

-- ---- the ways through the functions that write one

-- the four writes of a header over a part that it fills
pub header_put : (id : ℕ) (bytes part a b c d : List ℕ) → length part ≡ 1024 * header_sectors (length bytes) → a ≡ over part 0 (replicate (length part) 0) → b ≡ put_u32 a 0 id
    → c ≡ put_u16 b 4 (length bytes) → d ≡ over c 6 bytes → d ≡ header_bytes id bytes
unfolding header_bytes
header_put id bytes part a b c d long ha hb hc hd =
    let e : a ≡ replicate (1024 * header_sectors (length bytes)) 0 = ha ∙ over_all part (replicate (length part) 0) (length-replicate {A = ℕ} (length part) 0) ∙ ap (λ (n : ℕ). replicate n 0) long in
    rw (hd, hc, hb, e)

-- the lent part is back in the body
pub header_laid : (id : ℕ) (bytes body part : List ℕ) (at n : ℕ) → n ≡ header_sectors (length bytes) → part ≡ header_bytes id bytes
    → put_mid at (at + 1024 * n - at) body part ≡ over body at (header_bytes id bytes)
header_laid id bytes body part at n hn hp =
    put_over at (at + 1024 * n) body part (omega arith) (let e : length part ≡ 1024 * header_sectors (length bytes) = ap length hp ∙ length_header_bytes id bytes in omega arith)
    ∙ ap (over body at) hp

-- ---- the first four bytes written anew

module _ (v : View) (f w : ℕ) (body : List ℕ) where
  -- a file with a header, and one without
  pub marked_some : 0 < header_count (v.table f) → header_marked v f w body ≡ put_u32 body (body_place (header_start (v.table f))) w
  unfolding header_marked
  marked_some h = rw (lt-ltb 0 (header_count (v.table f)) h)

  pub marked_none : header_count (v.table f) ≡ 0 → header_marked v f w body ≡ body
  unfolding header_marked
  marked_none e = rw (le-ltb 0 (header_count (v.table f)) (omega arith))

  -- the frame: four bytes at most change
  pub kept_header_marked : Kept body (header_marked v f w body) (body_place (header_start (v.table f))) 4
  unfolding header_marked
  kept_header_marked = go (ltb 0 (header_count (v.table f)))
    where
      go : (x : Bool) → Kept body (cond x (put_u32 body (body_place (header_start (v.table f))) w) body) (body_place (header_start (v.table f))) 4
      go true = kept_put_u32 body (body_place (header_start (v.table f))) w
      go false = kept_refl body (body_place (header_start (v.table f))) 4

  -- the body is as long as it was
  pub length_header_marked : length (header_marked v f w body) ≡ length body
  length_header_marked = kept_header_marked.len

  -- no other sector changes
  pub marked_sector : (s : ℕ) → 1024 ≤ s → 1024 ≤ header_start (v.table f) → s ≢ header_start (v.table f)
      → sector_content (header_marked v f w body) s ≡ sector_content body s
  marked_sector s low from ne =
      part_kept (body_place s) 1024 (kept_wider kept_header_marked (omega arith) (omega arith))
      (sectors_apart (s - 1024) (header_start (v.table f) - 1024) (λ e. ne (omega arith)))

-- the ways through the function that writes them: t is the parent's bytes as they were read, and q its header pointer
module _ (p : Places) (b : List ℕ) (f : ℕ) (t : List ℕ) (is : t ≡ table_at p b f) (q : Pointer) (read : q ≡ pointer_at t 58) where
  -- what was read is the file's header pointer
  start_is : q.start.0 ≡ header_start (table_at p b f)
  start_is = rw (read, is) refl

  count_is : q.count ≡ header_count (table_at p b f)
  count_is = rw (read, is) refl

  -- no header: nothing is written
  pub mark_none : (w : ℕ) (body : List ℕ) → q.count ≡ 0 → body ≡ header_marked (view_of p b) f w body
  mark_none w body e = sym (marked_none (view_of p b) f w body (sym count_is ∙ e))

  -- a header: its first four bytes lie in the body
  module _ (len : ℕ) (within : HeaderInBody (table_at p b f) len) (some : q.count ≢ 0) where
    pub mark_low : 1024 ≤ q.start.0
    mark_low = let h = within (omega (arith, count_is, some)) in omega (arith, start_is, h.0)

    pub mark_fits : (a : ℕ) → a ≡ body_place q.start.0 → a + 4 ≤ len
    mark_fits a at = let h = within (omega (arith, count_is, some)) in omega (arith, start_is, h.1)

  -- and they are written there
  pub mark_some : (w a : ℕ) (body body' : List ℕ) → q.count ≢ 0 → a ≡ body_place q.start.0 → body' ≡ put_u32 body a w → body' ≡ header_marked (view_of p b) f w body
  mark_some w a body body' some at h =
      h ∙ ap (λ (x : ℕ). put_u32 body x w) (at ∙ ap body_place start_is) ∙ sym (marked_some (view_of p b) f w body (omega (arith, count_is, some)))

-- ---- n sectors laid over the body, from sector a on

module _ (body xs : List ℕ) (a n : ℕ) (whole : length xs ≡ 1024 * n) (fits : body_place a + 1024 * n ≤ length body) where
  -- no other sector changes
  pub laid_run_out : (s : ℕ) → 1024 ≤ a → 1024 ≤ s → (s < a) ⊎ (a + n ≤ s) → sector_content (over body (body_place a) xs) s ≡ sector_content body s
  laid_run_out s from low out =
      part_kept (body_place s) 1024 (rw whole at (kept_over body (body_place a) xs (omega arith))) (⊎_elim (λ l. inl (omega arith)) (λ l. inr (omega arith)) out)

  -- they are the body's bytes there
  pub laid_run_in : take (1024 * n) (drop (body_place a) (over body (body_place a) xs)) ≡ xs
  laid_run_in = rw whole at (over_part body (body_place a) xs (omega arith))
