-- Show header: each way out, that the header lies in the body, and that each promise allows one result.
use mathlib.Core.Path.{◌≡◌, refl, sym, ap, ◌∙◌}
use mathlib.Core.Logic.{◌≢◌}
use mathlib.Core.List.{List, [], ◌∷◌, ◌++◌}
use Prim.Native.Nat.{ℕ, ◌+◌, ◌*◌, ◌≤◌}
use native.Mathlib.Omega.{arith}
use lib.ListN.{length}
use Rattle.tables.specs.declared.index.Pointer.{Pointer}
use Rattle.tables.specs.declared.places.Places.{Places}
use Rattle.tables.specs.Books.{GoodSome}
use Rattle.tables.specs.Gates.{Test, asks, Gate}
use Rattle.tables.specs.Indexes.{table_at, pointer_at, header_start, header_count}
use Rattle.tables.specs.Places.{places_of, Layout}
use Rattle.tables.specs.Views.{view_of, Parent}
use Rattle.tables.proofs.GateLaws.{gate_one, gate_fails, gate_passes, gate_end, gate_stop, gate_skip, gate_rest, gate_head, gate_front}
use Rattle.files.specs.Moves.{body_place}
use Rattle.requests.specs.declared.show.Part.{Part}
use Rattle.requests.specs.Answers.{use_tests}
use Rattle.requests.specs.Body.{BodySized}
use Rattle.requests.specs.Header.{show_header_tests, HeaderShownAt, HeaderShown}
use Rattle.requests.specs.Named.{file_bytes, usable_tests}
use Rattle.requests.specs.Show.{part_of, bytes_of}
use Rattle.requests.proofs.RequestLaws.{good_room}
use Rattle.requests.proofs.JudgedLaws.{use_good, used_good}
use Rattle.requests.proofs.NamedLaws.{usable_active, usable_parent}
use Rattle.requests.proofs.BodyLaws.{header_part_inside}
use Rattle.requests.proofs.LocateLaws.{part_inside}

-- what the code reads is the file's header pointer
module _ (b : List ℕ) (id : ℕ) (p : Places) (is : p ≡ places_of b) (t : List ℕ) (bytes : t ≡ table_at p b id) (q : Pointer) (read : q ≡ pointer_at t 58) where
  start_is : q.start.0 ≡ header_start (file_bytes b id)
  start_is = rw (read, bytes, is) refl

  count_is : q.count ≡ header_count (file_bytes b id)
  count_is = rw (read, bytes, is) refl

-- ---- 8, 9, 10, then 14

module _ (b withheld : List ℕ) (id : ℕ) where
  abbrev pub header_tests : List Test
  header_tests = usable_tests 8 b id ++ (asks 14 (1 ≤ header_count (file_bytes b id)) ∷ [])

  module _ (m : ℕ) (h : Gate (usable_tests 8 b id) m) where
    pub header_unusable : m ≢ 0 → Gate header_tests m
    header_unusable ne = gate_stop (usable_tests 8 b id) _ m h ne

    module _ (z : m ≡ 0) where
      -- what reading the file's table asks
      pub header_table : (n : ℕ) → Gate (use_tests b withheld) n → n ≡ 0 → (p : Places) → p ≡ places_of b → Layout p (length b) × ((1 ≤ id) × (id ≤ p.indexes))
      header_table n k e p is = let g = use_good b withheld n k e p is in let f = usable_parent 8 b id p m g h z in (g.1.layout, (f.low, f.high))

      module _ (p : Places) (is : p ≡ places_of b) (t : List ℕ) (bytes : t ≡ table_at p b id) (q : Pointer) (read : q ≡ pointer_at t 58) where
        pub header_none : q.count ≡ 0 → Gate header_tests 14
        header_none e = gate_skip (usable_tests 8 b id) _ m 14 h z (gate_fails 14 _ [] (omega arith) (λ l. omega (arith, count_is b id p is t bytes q read)))

        pub header_some : q.count ≢ 0 → Gate header_tests 0
        header_some ne = gate_skip (usable_tests 8 b id) _ m 0 h z (gate_passes 14 _ [] 0 (omega (arith, ne, count_is b id p is t bytes q read)) gate_end)

-- ---- the request

module _ (b withheld body : List ℕ) (id : ℕ) where
  module _ (h : Gate (show_header_tests b withheld body id) 0) where
    header_rest : BodySized b body × Gate (header_tests b withheld id) 0
    unfolding show_header_tests
    header_rest = gate_head 15 (BodySized b body) _ (gate_rest (use_tests b withheld) _ h)

    header_good : GoodSome b (places_of b)
    unfolding show_header_tests
    header_good = used_good b withheld _ h

    header_file : Parent (view_of (places_of b) b) id
    header_file = (usable_active 8 b id (gate_front (usable_tests 8 b id) _ header_rest.1)).0

    header_has : 1 ≤ header_count (file_bytes b id)
    header_has = (gate_head 14 _ [] (gate_rest (usable_tests 8 b id) _ header_rest.1)).0

    -- its sectors lie in the body
    header_inside : (1024 ≤ header_start (file_bytes b id)) × (body_place (header_start (file_bytes b id)) + 1024 * header_count (file_bytes b id) ≤ length body)
    header_inside = header_part_inside b body (places_of b) id header_good.1 header_file header_rest.0 header_has

  module _ (n : ℕ) (h : Gate (show_header_tests b withheld body id) n) (e : n ≡ 0) where
    pub header_room : 2048 ≤ length b
    header_room = good_room b (places_of b) (header_good (rw e at h)).1

    module _ (p : Places) (is : p ≡ places_of b) where
      pub header_asks : Layout p (length b) × ((1 ≤ id) × (id ≤ p.indexes))
      header_asks = let z : Gate (show_header_tests b withheld body id) 0 = rw e at h in rw is ((header_good z).1.layout, ((header_file z).low, (header_file z).high))

      module _ (t : List ℕ) (bytes : t ≡ table_at p b id) (q : Pointer) (read : q ≡ pointer_at t 58) where
        pub header_low : 1024 ≤ q.start.0
        header_low = rw (start_is b id p is t bytes q read) (header_inside (rw e at h)).0

  module _ (r : Part) (h : HeaderShownAt b withheld body id r) where
    pub header_shown_inside : r.at + r.len ≤ length body
    header_shown_inside =
        part_inside body (header_start (file_bytes b id)) (header_count (file_bytes b id)) h.number r h.part (λ z. (header_inside (rw z at h.gate)).1)

-- ---- one result

pub header_shown_at_one : (b withheld body : List ℕ) (id : ℕ) (r s : Part) → HeaderShownAt b withheld body id r → HeaderShownAt b withheld body id s → r ≡ s
header_shown_at_one b withheld body id r s h l =
    let e = gate_one (show_header_tests b withheld body id) h.number l.number h.gate l.gate in
    h.part ∙ ap (λ (n : ℕ). part_of n (header_start (file_bytes b id)) (header_count (file_bytes b id))) e ∙ sym l.part

pub header_shown_one : (b withheld body : List ℕ) (id : ℕ) (x y : List ℕ) → HeaderShown b withheld body id x → HeaderShown b withheld body id y → x ≡ y
header_shown_one b withheld body id x y h l =
    let e = gate_one (show_header_tests b withheld body id) h.number l.number h.gate l.gate in
    h.bytes ∙ ap (λ (n : ℕ). bytes_of n body (header_start (file_bytes b id)) (header_count (file_bytes b id))) e ∙ sym l.bytes
