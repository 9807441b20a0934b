-- Place header keeps the books good and the body's length; the file has its header at the place that was found and its sectors where it had
-- them, and other files' tables stay.
use mathlib.Core.Path.{◌≡◌, refl, sym, ap, ◌∙◌}
use mathlib.Core.Logic.{inl, inr}
use mathlib.Core.List.{List}
use Prim.Native.Nat.{ℕ, zero, suc, ◌/◌, ◌%◌, ◌≤◌, ◌<◌}
use native.Mathlib.Omega.{arith}
use lib.ListN.{length, get_or}
use Rattle.field.proofs.NumberLaws.{u16_kept, u32_kept}
use Rattle.field.proofs.PartLaws.{length_over}
use Rattle.tables.specs.declared.places.Places.{Places}
use Rattle.tables.specs.Books.{GoodSome, GoodWith}
use Rattle.tables.specs.Dates.{Date}
use Rattle.tables.specs.Gates.{Gate}
use Rattle.tables.specs.Indexes.{table_at, attribute_of, header_start, header_count}
use Rattle.tables.specs.Places.{places_of}
use Rattle.tables.specs.Views.{view_of, Parent}
use Rattle.allocation.specs.Headers.{header_place, run_start}
use Rattle.allocation.proofs.PointerBytes.{kept_pointer}
use Rattle.allocation.proofs.RestatedLaws.{Restated, restated_parent}
use Rattle.files.specs.HeaderBytes.{header_sectors, header_bytes}
use Rattle.files.specs.Headers.{headed, headed_body}
use Rattle.files.specs.Moves.{body_place}
use Rattle.files.specs.Unchanged.{Untouched, SamePlaces}
use Rattle.files.proofs.HeaderByteLaws.{length_header_bytes, length_header_marked}
use Rattle.files.proofs.HeadedLaws.{new_header}
use Rattle.files.proofs.HeadedLawful.{headed_good, headed_table, headed_start, headed_count, headed_parent, headed_untouched, headed_places}
use Rattle.files.proofs.UntouchedLaws.{untouched_trans, places_trans, restated_untouched, restated_places}
use Rattle.requests.specs.Answers.{after}
use Rattle.requests.specs.Header.{place_header_tests, header_placed, HeaderPlaced}
use Rattle.requests.proofs.RequestLaws.{done_keeps}
use Rattle.requests.proofs.StampLaws.{same_counted, put_restated}
use Rattle.requests.proofs.StateKeeps.{steady_good}
use Rattle.requests.proofs.PlaceHeaderLaws.{placed_valid, placed_good, placed_file, placed_count, placed_high, placed_inside}

-- ---- the books, with the header of n sectors and then with the date

module _ (b : List ℕ) (id n : ℕ) (date : List ℕ) {extra : ℕ → ℕ} (g : GoodWith extra b (places_of b)) (parent : Parent (view_of (places_of b) b) id) (some : 1 ≤ n) (few : n ≤ 32)
    (high : (header_place (view_of (places_of b) b) n).zone.0 < (places_of b).zones) (valid : Date date) where
  abbrev p : Places
  p = places_of b

  abbrev h : List ℕ
  h = headed p b id n

  h_good : GoodWith extra h p
  h_good = headed_good p b g id parent n some few high

  h_parent : Parent (view_of p h) id
  h_parent = headed_parent p b g.layout g.lawful id parent n some few high

  -- the header pointer stands behind the attribute
  h_attribute : attribute_of (table_at p h id) ≡ attribute_of (table_at p b id)
  h_attribute =
      ap attribute_of (headed_table p b g.layout g.lawful id parent n some few high)
      ∙ u16_kept 44 (kept_pointer (table_at p b id) 58 (new_header p b n)) (inl (omega arith))

  stamped_good : GoodWith extra (header_placed b id n date) p
  unfolding header_placed
  stamped_good =
      let e = sym h_attribute in
      steady_good p h id date h_good h_parent valid (attribute_of (table_at p b id)) (ap (λ (x : ℕ). x / 16) e) (ap (λ (x : ℕ). x % 2) e)

  stamped_restated : Restated (view_of p h) (view_of p (header_placed b id n date)) id
  unfolding header_placed
  stamped_restated = put_restated p h h id (attribute_of (table_at p b id)) date h_good.layout (same_counted h) parent.low parent.high valid.long

  low : (o : ℕ) → o < 28 → get_or (table_at p (header_placed b id n date) id) o 0 ≡ get_or (table_at p h id) o 0
  low o l = stamped_restated.here.out o (inl (omega arith))

  behind : (o : ℕ) → 64 ≤ o → get_or (table_at p (header_placed b id n date) id) o 0 ≡ get_or (table_at p h id) o 0
  behind o l = stamped_restated.here.out o (inr (omega arith))

  stamped_untouched : Untouched (view_of p b) (view_of p (header_placed b id n date)) id
  stamped_untouched =
      untouched_trans (view_of p b) (view_of p h) (view_of p (header_placed b id n date)) id (headed_untouched p b g.layout g.lawful id parent n some few high)
      (restated_untouched p h h_good.layout h_good.lawful (header_placed b id n date) id h_parent stamped_restated.there low behind)

  stamped_places : SamePlaces (view_of p b) (view_of p (header_placed b id n date)) id
  stamped_places =
      places_trans (view_of p b) (view_of p h) (view_of p (header_placed b id n date)) id (headed_places p b g.layout g.lawful id parent n some few high)
      (restated_places p h h_good.layout h_good.lawful (header_placed b id n date) id h_parent stamped_restated.there low behind)

  stamped_start : header_start (table_at p (header_placed b id n date) id) ≡ run_start (header_place (view_of p b) n)
  stamped_start = u32_kept 58 stamped_restated.here (inr (omega arith)) ∙ headed_start p b g.layout g.lawful id parent n some few high

  stamped_count : header_count (table_at p (header_placed b id n date) id) ≡ n
  stamped_count = u16_kept 62 stamped_restated.here (inr (omega arith)) ∙ headed_count p b g.layout g.lawful id parent n some few high

-- ---- the request done, d being the books then

module _ (b withheld body : List ℕ) (id : ℕ) (content date : List ℕ) (r : ℕ) (gate : Gate (place_header_tests b withheld body id (length content) date) r) (z : r ≡ 0) where
  abbrev n : ℕ
  n = header_sectors (length content)

  count : (1 ≤ n) × (n ≤ 32)
  count = placed_count b withheld body id (length content) date r gate z

  good : GoodSome b (places_of b)
  good = placed_good b withheld body id (length content) date r gate z

  file : Parent (view_of (places_of b) b) id
  file = placed_file b withheld body id (length content) date r gate z

  room : (header_place (view_of (places_of b) b) n).zone.0 < (places_of b).zones
  room = placed_high b withheld body id (length content) date r gate z

  valid : Date date
  valid = (placed_valid b withheld body id (length content) date r gate z).date'

  -- the rules hold, whatever is set besides
  pub header_placed_good : {extra : ℕ → ℕ} → GoodWith extra b (places_of b) → GoodWith extra (header_placed b id n date) (places_of b)
  header_placed_good g = stamped_good b id n date g file count.0 count.1 room valid

  -- the file with its header, restated
  pub header_placed_restates : Parent (view_of (places_of b) (headed (places_of b) b id n)) id
      × Restated (view_of (places_of b) (headed (places_of b) b id n)) (view_of (places_of b) (header_placed b id n date)) id
  header_placed_restates = (h_parent b id n date good.1 file count.0 count.1 room valid, stamped_restated b id n date good.1 file count.0 count.1 room valid)

  module _ (d : List ℕ) (is : d ≡ header_placed b id n date) where
    pub header_placed_untouched : Untouched (view_of (places_of b) b) (view_of (places_of b) d) id
    header_placed_untouched = rw is (stamped_untouched b id n date good.1 file count.0 count.1 room valid)

    pub header_placed_places : SamePlaces (view_of (places_of b) b) (view_of (places_of b) d) id
    header_placed_places = rw is (stamped_places b id n date good.1 file count.0 count.1 room valid)

    pub header_placed_start : header_start (table_at (places_of b) d id) ≡ run_start (header_place (view_of (places_of b) b) n)
    header_placed_start = rw is (stamped_start b id n date good.1 file count.0 count.1 room valid)

    pub header_placed_count : header_count (table_at (places_of b) d id) ≡ n
    header_placed_count = rw is (stamped_count b id n date good.1 file count.0 count.1 room valid)

    pub header_placed_parent : Parent (view_of (places_of b) d) id
    header_placed_parent =
        let q = header_placed_restates in
        rw is (restated_parent (view_of (places_of b) (headed (places_of b) b id n)) (view_of (places_of b) (header_placed b id n date)) id q.1 q.0)

  -- the body is as long as it was
  pub headed_body_long : length (headed_body (view_of (places_of b) b) id content body) ≡ length body
  unfolding headed_body
  headed_body_long =
      let k = header_place (view_of (places_of b) b) n in
      let inside = (placed_inside b withheld body id (length content) date r gate z).1 in
      length_header_marked (view_of (places_of b) b) id 0 _
      ∙ length_over body (body_place (run_start k)) (header_bytes id content) (omega (arith, inside, length_header_bytes id content))

-- ---- the promise

-- the books then
pub header_placed_is : (b withheld body : List ℕ) (id : ℕ) (content date : List ℕ) (r : ℕ) (b' body' : List ℕ) → HeaderPlaced b withheld body id content date r b' body' → r ≡ 0
    → b' ≡ header_placed b id (header_sectors (length content)) date
header_placed_is b withheld body id content date r b' body' h z = h.books ∙ ap (λ (x : ℕ). after x (header_placed b id (header_sectors (length content)) date) b) z

-- "the rules still hold" (demand 3)
pub header_placed_keeps : (b withheld body : List ℕ) (id : ℕ) (content date : List ℕ) (r : ℕ) (b' body' : List ℕ) (p : Places) {extra : ℕ → ℕ} → HeaderPlaced b withheld body id content date r b' body'
    → GoodWith extra b p → GoodWith extra b' p
header_placed_keeps b withheld body id content date r b' body' p h g =
    done_keeps r (header_placed b id (header_sectors (length content)) date) b b' p h.books
    (λ z. rw g.places (header_placed_good b withheld body id content date r h.number z (rw g.places at g))) g

pub header_placed_long : (b withheld body : List ℕ) (id : ℕ) (content date : List ℕ) (r : ℕ) (b' body' : List ℕ) → HeaderPlaced b withheld body id content date r b' body' → length body' ≡ length body
header_placed_long b withheld body id content date zero b' body' h = ap length h.body'' ∙ headed_body_long b withheld body id content date 0 h.number refl
header_placed_long b withheld body id content date (suc k) b' body' h = ap length h.body''
