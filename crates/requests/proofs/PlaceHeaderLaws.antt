-- Place header: each way out, that the header lies in the body, what the writes ask, and that the promise allows one result.
use mathlib.Core.Path.{◌≡◌, refl, ap, ◌∙◌}
use mathlib.Core.Logic.{◌≢◌}
use mathlib.Core.Bool.{Bool, true}
use mathlib.Core.List.{List, [], ◌∷◌, ◌++◌}
use Prim.Native.Nat.{ℕ, ◌+◌, ◌*◌, ◌≤◌, ◌<◌}
use native.Mathlib.Omega.{arith}
use lib.ListN.{length}
use Rattle.field.specs.Says.{Says}
use Rattle.field.specs.Parts.{over}
use Rattle.tables.specs.declared.places.Places.{Places}
use Rattle.tables.specs.Books.{GoodSome}
use Rattle.tables.specs.Gates.{Test, asks, Gate}
use Rattle.tables.specs.Indexes.{table_at, attribute_of}
use Rattle.tables.specs.Places.{places_of, Layout}
use Rattle.tables.specs.Views.{view_of, Parent}
use Rattle.tables.proofs.GateLaws.{gate_one, gate_fails, gate_passes, gate_end, gate_stop, gate_skip, gate_rest, gate_head, gate_front}
use Rattle.allocation.specs.declared.choice.Found.{Found}
use Rattle.allocation.specs.Headers.{header_place, run_start, HeaderRoom}
use Rattle.allocation.proofs.HeaderLaws.{place_room}
use Rattle.allocation.proofs.RunTakenLaws.{RunFree, header_free, header_room_place}
use Rattle.files.specs.HeaderBytes.{header_sectors, header_bytes, header_marked, HeaderInBody}
use Rattle.files.specs.Headers.{headed, headed_body}
use Rattle.files.specs.Moves.{body_place}
use Rattle.requests.specs.Body.{BodySized, lent_tests}
use Rattle.requests.specs.Header.{HeaderAllowed, place_header_tests, header_placed, HeaderPlaced}
use Rattle.requests.specs.Named.{usable_tests}
use Rattle.requests.specs.State.{put_state}
use Rattle.requests.proofs.RequestLaws.{after_one}
use Rattle.requests.proofs.BodyLaws.{lent_says, lent_allowed, lent_sized, lent_good, lent_room, mark_asks}
use Rattle.requests.proofs.NamedLaws.{usable_active}

-- ---- the arguments

-- ---- its number

module _ (b withheld body : List ℕ) (id long : ℕ) (date : List ℕ) where
  -- 7 asks for it
  abbrev P : Type 0
  P = HeaderAllowed long date

  -- 12
  abbrev room_test : Test
  room_test = asks 12 (HeaderRoom (view_of (places_of b) b) (header_sectors long))

  module _ (a : Bool) (n : ℕ) (s : Says a (HeaderAllowed long date)) (g : Gate (lent_tests b withheld body (a ≡ true)) n) where
    lent : Gate (lent_tests b withheld body P) n
    lent = lent_says b withheld body a P n s g

    pub placing_stops : n ≢ 0 → Gate (place_header_tests b withheld body id long date) n
    unfolding place_header_tests
    placing_stops ne = gate_stop (lent_tests b withheld body P) _ n lent ne

    module _ (e : n ≡ 0) where
      pub placing_few : long ≤ 32762
      placing_few = (lent_allowed b withheld body P n lent e).most

      module _ (m : ℕ) (h : Gate (usable_tests 4 b id) m) where
        pub placing_unusable : m ≢ 0 → Gate (place_header_tests b withheld body id long date) m
        unfolding place_header_tests
        placing_unusable ne = gate_skip (lent_tests b withheld body P) _ n m lent e (gate_stop (usable_tests 4 b id) (room_test ∷ []) m h ne)

        module _ (z : m ≡ 0) (p : Places) (is : p ≡ places_of b) (c : ℕ) (count : c ≡ header_sectors long) (k : Found) (at : k ≡ header_place (view_of p b) c) where
          pub placing_here : k ≡ header_place (view_of (places_of b) b) (header_sectors long)
          placing_here = rw (at, is, count) refl

          room_test_lem : (r : ℕ) → Gate (room_test ∷ []) r → Gate (place_header_tests b withheld body id long date) r
          unfolding place_header_tests
          room_test_lem r q = gate_skip (lent_tests b withheld body P) _ n r lent e (gate_skip (usable_tests 4 b id) (room_test ∷ []) m r h z q)

          pub placing_full : p.zones ≤ k.zone.0 → Gate (place_header_tests b withheld body id long date) 12
          placing_full l =
              room_test_lem 12 (gate_fails 12 _ [] (omega arith) (λ room.
              (let good = lent_good b withheld body P n lent e in
              let high = header_room_place (view_of (places_of b) b) (header_sectors long) good.1.lawful.r3 (omega arith) room in
              omega (arith, ap (λ (q : Places). q.zones) is, ap (λ (q : Found). q.zone.0) placing_here))))

          pub placing_roomy : k.zone.0 < p.zones → Gate (place_header_tests b withheld body id long date) 0
          placing_roomy l =
              room_test_lem 0 (gate_passes 12 _ [] 0 (place_room (view_of (places_of b) b) (header_sectors long)
              (omega (arith, ap (λ (q : Places). q.zones) is, ap (λ (q : Found). q.zone.0) placing_here))) gate_end)

-- ---- what no number says

module _ (b withheld body : List ℕ) (id long : ℕ) (date : List ℕ) (r : ℕ) (g : Gate (place_header_tests b withheld body id long date) r) (e : r ≡ 0) where
  abbrev allowed : Type 0
  allowed = HeaderAllowed long date

  front : Gate (lent_tests b withheld body allowed) 0
  unfolding place_header_tests
  front = gate_front (lent_tests b withheld body allowed) _ (rw e at g)

  rest : Gate (usable_tests 4 b id ++ (asks 12 (HeaderRoom (view_of (places_of b) b) (header_sectors long)) ∷ [])) 0
  unfolding place_header_tests
  rest = gate_rest (lent_tests b withheld body allowed) _ (rw e at g)

  pub placed_valid : HeaderAllowed long date
  placed_valid = lent_allowed b withheld body allowed 0 front refl

  pub placed_few : long ≤ 32762
  placed_few = placed_valid.most

  pub placed_sized : BodySized b body
  placed_sized = lent_sized b withheld body allowed 0 front refl

  pub placed_good : GoodSome b (places_of b)
  placed_good = lent_good b withheld body allowed 0 front refl

  pub placed_room : 2048 ≤ length b
  placed_room = lent_room b withheld body allowed 0 front refl

  pub placed_file : Parent (view_of (places_of b) b) id
  placed_file = (usable_active 4 b id (gate_front (usable_tests 4 b id) _ rest)).0

  -- as many sectors as a header may have
  pub placed_count : (1 ≤ header_sectors long) × (header_sectors long ≤ 32)
  placed_count = (omega arith, omega (arith, placed_few))

  pub placed_high : (header_place (view_of (places_of b) b) (header_sectors long)).zone.0 < (places_of b).zones
  placed_high = header_room_place (view_of (places_of b) b) (header_sectors long) placed_good.1.lawful.r3 placed_count.0 (gate_head 12 _ [] (gate_rest (usable_tests 4 b id) _ rest)).0

  placed_free : RunFree (view_of (places_of b) b) (header_sectors long) (header_place (view_of (places_of b) b) (header_sectors long))
  placed_free = header_free (view_of (places_of b) b) (header_sectors long) placed_good.1.lawful.r2 placed_good.1.lawful.r3 placed_count.1 placed_high

  -- the header lies in the body
  pub placed_inside : (1024 ≤ run_start (header_place (view_of (places_of b) b) (header_sectors long)))
      × (body_place (run_start (header_place (view_of (places_of b) b) (header_sectors long))) + 1024 * header_sectors long ≤ length body)
  placed_inside =
      let f = placed_free in
      (omega (arith, f.low), omega (arith, f.low, f.high, f.within, placed_sized))

  -- what the code asks, with the places, the sectors and the place that it reads
  module _ (p : Places) (is : p ≡ places_of b) where
    -- what the old header's id asks, of a body as long
    pub placing_marks : (body' : List ℕ) → length body' ≡ length body → Layout p (length b) × (((1 ≤ id) × (id ≤ p.indexes)) × HeaderInBody (table_at p b id) (length body'))
    placing_marks body' len = rw (is, len) (mark_asks b body (places_of b) id placed_good.1 placed_file placed_sized)

    pub placing_layout : Layout p (length b)
    placing_layout = rw is placed_good.1.layout

    -- the place that is found, by what the code reads
    pub placing_at : (n : ℕ) → n ≡ header_sectors long → (k : Found) → k ≡ header_place (view_of (places_of b) b) (header_sectors long) → k ≡ header_place (view_of p b) n
    placing_at n count k h = rw (is, count) h

    module _ (n : ℕ) (count : n ≡ header_sectors long) (k : Found) (at : k ≡ header_place (view_of p b) n) where
      k_is : k ≡ header_place (view_of (places_of b) b) (header_sectors long)
      k_is = rw (at, is, count) refl

      pub placing_start : (1 ≤ k.zone.0) × (k.zone.0 ≤ 256) × (k.number ≤ 1024)
      placing_start = let f = placed_free in rw k_is (omega (arith, f.low), omega (arith, f.high, placed_good.1.layout.most), omega (arith, f.within))

      -- what the books' change asks
      pub placing_asks : GoodSome b p × (Parent (view_of p b) id × (((1 ≤ n) × (n ≤ 32)) × (((k ≡ header_place (view_of p b) n) × (k.zone.0 < p.zones)) × (length date ≡ 6))))
      placing_asks =
          (rw is placed_good, (rw is placed_file, ((rw count placed_count.0, rw count placed_count.1), ((at, rw (k_is, is) placed_high), placed_valid.date'.long))))

      module _ (s : ℕ) (start : s ≡ run_start k) where
        s_is : s ≡ run_start (header_place (view_of (places_of b) b) (header_sectors long))
        s_is = start ∙ ap run_start k_is

        pub placing_low : 1024 ≤ s
        placing_low = rw s_is placed_inside.0

        pub placing_inside : (a : ℕ) → a ≡ body_place s → a + 1024 * header_sectors long ≤ length body
        placing_inside a place = rw (place, s_is) placed_inside.1

-- ---- the books

-- the attribute stays, and the date is stored
pub placing_books : (b : List ℕ) (p : Places) (f n : ℕ) (date : List ℕ) → GoodSome b p → (t : List ℕ) → t ≡ table_at p b f → (a : ℕ) → a ≡ attribute_of t
    → (x y : List ℕ) → x ≡ headed p b f n → y ≡ put_state p x f a date → y ≡ header_placed b f n date
unfolding header_placed
placing_books b p f n date g t bytes a read x y ex ey = rw (ey, ex, read, bytes, g.1.places)

-- ---- the request

module _ (b withheld body : List ℕ) (id : ℕ) (content date : List ℕ) where
  pub placing_done : (r : ℕ) (p : Places) (n : ℕ) (k : Found) (s a : ℕ) (x body' b' : List ℕ) → Gate (place_header_tests b withheld body id (length content) date) r → r ≡ 0 → p ≡ places_of b
      → n ≡ header_sectors (length content) → k ≡ header_place (view_of p b) n → s ≡ run_start k → a ≡ body_place s → x ≡ over body a (header_bytes id content)
      → body' ≡ header_marked (view_of p b) id 0 x → b' ≡ header_placed b id n date → HeaderPlaced b withheld body id content date 0 b' body'
  unfolding headed_body
  placing_done r p n k s a x body' b' g e is count at start place laid marked books = record {
    number = rw e at g;
    books = books ∙ ap (λ (c : ℕ). header_placed b id c date) count;
    body'' = rw (marked, laid, place, start, at, is, count);
  }

-- ---- one result

pub header_placed_one : (b withheld body : List ℕ) (id : ℕ) (content date : List ℕ) (r s : ℕ) (x y m n : List ℕ) → HeaderPlaced b withheld body id content date r x m → HeaderPlaced b withheld body id content date s y n
    → (r ≡ s) × ((x ≡ y) × (m ≡ n))
header_placed_one b withheld body id content date r s x y m n h k =
    let e = gate_one (place_header_tests b withheld body id (length content) date) r s h.number k.number in
    (e, (after_one r s x y _ b e h.books k.books, after_one r s m n _ body e h.body'' k.body''))
