-- Headers in the body: a header's bytes sector by sector, which sectors are no header's, and what a step leaves of a header.
use mathlib.Core.Path.{◌≡◌, sym, ap, ap₂, subst, ◌∙◌}
use mathlib.Core.Logic.{inr}
use mathlib.Core.List.{List}
use Prim.Native.Nat.{ℕ, ◌+◌, ◌-◌, ◌*◌, ◌/◌, ◌%◌, ◌≤◌, ◌<◌}
use native.Mathlib.Omega.{arith}
use lib.ListN.{length, get_or, drop, length-take, length-drop}
use lib.Seq.{ext_get_or, get_or-drop}
use Rattle.field.specs.Kept.{Kept}
use Rattle.field.proofs.BitLaws.{bit_at_lt}
use Rattle.field.proofs.NumberLaws.{get_d_part}
use Rattle.tables.specs.declared.places.Places.{Places}
use Rattle.tables.specs.Books.{GoodWith}
use Rattle.tables.specs.Indexes.{header_start, header_count}
use Rattle.tables.specs.Places.{places_of}
use Rattle.tables.specs.Views.{view_of, Under, UnderHeader, Parent}
use Rattle.tables.proofs.PointerLaws.{header_run, header_inside, header_set, one_header, pointer_apart, under_set}
use Rattle.files.specs.Moves.{body_place, sector_content, sectors_content}
use Rattle.files.specs.Unchanged.{HeaderKept}
use Rattle.files.proofs.SectorPlaceLaws.{kth_under}
use Rattle.files.proofs.SpotLaws.{kth_inside}
use Rattle.histories.specs.History.{Volume, seen, Belongs, header_of, SameHeader}

-- ---- bytes

-- n sectors hold the same if each of them does
pub run_same : (x y : List ℕ) (a n : ℕ) → length x ≡ length y → (0 < n → 1024 ≤ a) → ((i : ℕ) → i < n → sector_content x (a + i) ≡ sector_content y (a + i))
    → sectors_content x a n ≡ sectors_content y a n
run_same x y a n long low same =
    ext_get_or 0 (sectors_content x a n) (sectors_content y a n) (simp (length-take, length-drop, long)) (λ j l. byte j (omega (arith, length-take (1024 * n) (drop (body_place a) x))))
  where
    in_sector : (z : List ℕ) (j : ℕ) → j < 1024 * n → get_or (sectors_content z a n) j 0 ≡ get_or (sector_content z (a + j / 1024)) (j % 1024) 0
    in_sector z j l =
        let here : body_place a + j ≡ body_place (a + j / 1024) + j % 1024 = (let from = low (omega arith) in omega arith) in
        get_d_part z (body_place a) (1024 * n) j l ∙ ap (λ (o : ℕ). get_or z o 0) here ∙ sym (get_d_part z (body_place (a + j / 1024)) 1024 (j % 1024) (omega arith))

    byte : (j : ℕ) → j < 1024 * n → get_or (sectors_content x a n) j 0 ≡ get_or (sectors_content y a n) j 0
    byte j l = in_sector x j l ∙ ap (λ (u : List ℕ). get_or u (j % 1024) 0) (same (j / 1024) (omega arith)) ∙ sym (in_sector y j l)

-- they hold the same but for the first four bytes if only these are written
pub run_past_id : (x y : List ℕ) (a n : ℕ) → Kept x y (body_place a) 4 → drop 4 (sectors_content y a n) ≡ drop 4 (sectors_content x a n)
run_past_id x y a n k =
    ext_get_or 0 (drop 4 (sectors_content y a n)) (drop 4 (sectors_content x a n)) (simp (length-drop, length-take, k.len))
    (λ j l. byte j (omega (arith, length-drop 4 (sectors_content y a n), length-take (1024 * n) (drop (body_place a) y))))
  where
    byte : (j : ℕ) → 4 + j < 1024 * n → get_or (drop 4 (sectors_content y a n)) j 0 ≡ get_or (drop 4 (sectors_content x a n)) j 0
    byte j l =
        get_or-drop 4 (sectors_content y a n) j 0 ∙ get_d_part y (body_place a) (1024 * n) (4 + j) l ∙ k.out (body_place a + (4 + j)) (inr (omega arith))
        ∙ sym (get_d_part x (body_place a) (1024 * n) (4 + j) l) ∙ sym (get_or-drop 4 (sectors_content x a n) j 0)

-- ---- sectors

module _ (v : Volume) {extra : ℕ → ℕ} (g : GoodWith extra v.books (places_of v.books)) where
  bits : (s : ℕ) → (seen v).bit s < 2
  bits = bit_at_lt v.books (places_of v.books).sectortable

  -- a file's sector lies under a pointer
  under : (f k s : ℕ) → Belongs v f k s → (i : ℕ) × (j : ℕ) × Under (seen v) i j s
  under f k s here =
      let u = kth_under (places_of v.books) v.books g.layout g.lawful f k here.file here.place in
      (u.0, u.1, rw here.here at u.2)

  -- outside the system zones
  pub data_inside : (f k s : ℕ) → Belongs v f k s → (1024 ≤ s) × (s < 1024 * ((seen v).zones - 1))
  data_inside f k s here = rw here.here at (kth_inside (places_of v.books) v.books g.layout g.lawful f here.file k here.place)

  -- it is in use
  pub data_set : (f k s : ℕ) → Belongs v f k s → (seen v).bit s ≡ 1
  data_set f k s here = let u = under f k s here in under_set (seen v) g.lawful.r6 g.lawful.r7 bits s u.0 u.1 u.2

  -- and no header's
  pub data_apart : (f k h s : ℕ) → Belongs v f k s → UnderHeader (seen v) h s → ⊥
  data_apart f k h s here w = let u = under f k s here in pointer_apart (seen v) g.lawful.r6 g.lawful.r7 bits s u.0 u.1 h u.2 w

  -- a header's sector lies outside the system zones, is in use, and is one file's
  pub head_inside : (f s : ℕ) → UnderHeader (seen v) f s → (1024 ≤ s) × (s < 1024 * ((seen v).zones - 1))
  head_inside f s u = header_inside (seen v) g.lawful.r6 f s u

  pub head_set : (f s : ℕ) → UnderHeader (seen v) f s → (seen v).bit s ≡ 1
  head_set f s u = header_set (seen v) g.lawful.r6 g.lawful.r7 bits s f u

  pub headers_apart : (f h s : ℕ) → UnderHeader (seen v) f s → UnderHeader (seen v) h s → f ≡ h
  headers_apart f h s u w = one_header (seen v) g.lawful.r6 g.lawful.r7 bits s f h u w

  -- ---- what is seen of a header after a step

  module _ (v' : Volume) (same : places_of v.books ≡ places_of v'.books) (f : ℕ) (kept : HeaderKept (seen v) (view_of (places_of v.books) v'.books) f) where
    abbrev a : ℕ
    a = header_start ((seen v).table f)

    abbrev c : ℕ
    c = header_count ((seen v).table f)

    -- its pointer
    pub pointer_seen : HeaderKept (seen v) (seen v') f
    pointer_seen = subst (λ (p : Places). HeaderKept (seen v) (view_of p v'.books) f) same kept

    -- its bytes lie where they lay
    there : header_of v' f ≡ sectors_content v'.body a c
    there = ap₂ (λ (x y : ℕ). sectors_content v'.body x y) pointer_seen.start pointer_seen.count

    -- all but the id is the same
    pub header_past_id : drop 4 (sectors_content v'.body (header_start ((seen v).table f)) (header_count ((seen v).table f))) ≡ drop 4 (header_of v f) → SameHeader v v' f
    header_past_id e = record { place = pointer_seen; bytes = ap (drop 4) there ∙ e }

    -- all its sectors are
    pub header_same : Parent (seen v) f → length v'.body ≡ length v.body → ((s : ℕ) → UnderHeader (seen v) f s → sector_content v'.body s ≡ sector_content v.body s)
        → header_of v' f ≡ header_of v f
    header_same parent long each =
        there ∙ run_same v'.body v.body a c long (λ some. (header_run (seen v) g.lawful.r6 f a (record { parent = parent; from = omega arith; to = omega arith })).low)
        (λ i l. each (a + i) (record { parent = parent; from = omega arith; to = omega arith }))

    pub header_whole : header_of v' f ≡ header_of v f → SameHeader v v' f
    header_whole e = record { place = pointer_seen; bytes = ap (drop 4) e }
