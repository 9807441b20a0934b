-- Locate and show: each way out, and that each promise allows one result.
use Rattle.std.specs.Prelude.{Result}
use mathlib.Core.Path.{◌≡◌, refl, sym, ap, ◌∙◌}
use mathlib.Core.Logic.{◌≢◌}
use mathlib.Core.List.{List, [], ◌∷◌, ◌++◌}
use Prim.Native.Nat.{ℕ, zero, suc, ◌+◌, ◌-◌, ◌*◌, ◌≤◌, ◌<◌}
use native.Mathlib.Nat.{add-sub_cancel_left}
use native.Mathlib.Omega.{arith}
use lib.ListN.{length, take, drop}
use Rattle.tables.specs.declared.places.Places.{Places}
use Rattle.tables.specs.declared.kinds.Sector.{Sector}
use Rattle.tables.specs.Places.{places_of}
use Rattle.tables.specs.Gates.{Test, asks, Gate}
use Rattle.tables.specs.Books.{GoodSome, GoodWith}
use Rattle.tables.specs.Rules.R8.{file_sectors}
use Rattle.tables.specs.Views.{view_of, Parent}
use Rattle.tables.proofs.GateLaws.{gate_one, gate_fails, gate_passes, gate_end, gate_stop, gate_skip, gate_rest, gate_head, gate_front}
use Rattle.files.specs.declared.spot.Spot.{Spot}
use Rattle.files.specs.Spots.{spot_start, spot_of, kth_sector}
use Rattle.files.specs.Asked.{OnSector}
use Rattle.files.specs.Moves.{body_place}
use Rattle.files.proofs.SpotLaws.{spot_on, kth_inside}
use Rattle.requests.specs.declared.show.Part.{Part}
use Rattle.requests.specs.Answers.{use_tests}
use Rattle.requests.specs.Named.{named_tests, usable_tests}
use Rattle.requests.specs.Body.{BodySized}
use Rattle.requests.specs.Locate.{HasSector, locate_tests, Locates, kth_of}
use Rattle.requests.specs.Show.{show_tests, part_of, ShownAt, bytes_of, Shown}
use Rattle.requests.proofs.RequestLaws.{good_room}
use Rattle.requests.proofs.NamedLaws.{state_file, usable_active}
use Rattle.requests.proofs.JudgedLaws.{used_good}
use Rattle.tables.specs.Refusals.{number_of}
use Rattle.tables.specs.declared.refusal.Refusal.{Refusal}
use Rattle.tables.proofs.RefusalLaws.{answers_one}

-- ---- tests ts, then 14

module _ (b : List ℕ) (id k : ℕ) (ts : List Test) where
  abbrev pub sector_tests : List Test
  sector_tests = ts ++ (asks 14 (HasSector b id k) ∷ [])

  module _ (m : ℕ) (q : Gate ts m) where
    pub sector_refused : m ≢ 0 → Gate sector_tests m
    sector_refused ne = gate_stop ts _ m q ne

    module _ (z : m ≡ 0) (p : Places) (is : p ≡ places_of b) (s : ℕ) (has : s ≡ file_sectors (view_of p b) id) where
      count : s ≡ file_sectors (view_of (places_of b) b) id
      count = has ∙ ap (λ (x : Places). file_sectors (view_of x b) id) is

      pub sector_past : s ≤ k → Gate sector_tests 14
      sector_past le = gate_skip ts _ m 14 q z (gate_fails 14 _ [] (omega arith) (λ lt. omega (arith, count)))

      pub sector_fine : k < s → Gate sector_tests 0
      sector_fine lt = gate_skip ts _ m 0 q z (gate_passes 14 _ [] 0 (omega (arith, count)) gate_end)

  -- where no number applies
  sector_has : Gate sector_tests 0 → Gate ts 0 × HasSector b id k
  sector_has h = (gate_front ts _ h, (gate_head 14 _ [] (gate_rest ts _ h)).0)

-- ---- the k-th sector

module _ (b : List ℕ) (p : Places) (f k : ℕ) {extra : ℕ → ℕ} (g : GoodWith extra b p) (parent : Parent (view_of p b) f) (has : k < file_sectors (view_of p b) f) where
  module _ (c : Spot) (at : c ≡ spot_of (view_of p b) f k) where
    pub kth_on : OnSector (view_of p b) c
    kth_on = rw at (spot_on p b g.layout g.lawful f parent k has)

    pub kth_found : (s : ℕ) → s ≡ spot_start (view_of p b) c + c.off → (s ≡ kth_sector (view_of p b) f k) × (1024 ≤ s) × (s < 1024 * (p.zones - 1))
    unfolding kth_sector
    kth_found s e =
        let is : s ≡ kth_sector (view_of p b) f k = e ∙ ap (λ (d : Spot). spot_start (view_of p b) d + d.off) at in
        let in' = kth_inside p b g.layout g.lawful f parent k has in
        (is, omega (arith, in'.0), omega (arith, in'.1))

-- ---- locate

module _ (b withheld : List ℕ) (id k : ℕ) (h : Gate (locate_tests b withheld id k) 0) where
  locate_file : GoodSome b (places_of b) × (Parent (view_of (places_of b) b) id × HasSector b id k)
  unfolding locate_tests
  locate_file =
      let s = sector_has b id k (named_tests b id) (gate_rest (use_tests b withheld) _ h) in
      (used_good b withheld _ h, ((state_file b id 0 s.0).0, s.1))

  pub locate_room : 2048 ≤ length b
  locate_room = good_room b (places_of b) locate_file.0.1

  module _ (p : Places) (is : p ≡ places_of b) where
    pub locate_asks : GoodSome b p × (Parent (view_of p b) id × (k < file_sectors (view_of p b) id))
    locate_asks = rw is locate_file

-- ---- a part of the body: n is the number, and c sectors from s on are shown

module _ (body : List ℕ) (s c : ℕ) where
  -- it lies in the body if the sectors do
  pub part_inside : (n : ℕ) (r : Part) → r ≡ part_of n s c → (n ≡ 0 → body_place s + 1024 * c ≤ length body) → r.at + r.len ≤ length body
  part_inside zero r e h = rw e (h refl)
  part_inside (suc n) r e h = rw e (omega arith)

  -- and it has their bytes
  pub part_bytes : (n : ℕ) (r : Part) → r ≡ part_of n s c → take (r.at + r.len - r.at) (drop r.at body) ≡ bytes_of n body s c
  part_bytes zero r e = rw (add-sub_cancel_left, e) refl
  part_bytes (suc n) r e = rw (add-sub_cancel_left, e) refl

-- ---- show

module _ (b withheld body : List ℕ) (id k : ℕ) where
  module _ (h : Gate (show_tests b withheld body id k) 0) where
    rest : BodySized b body × Gate (sector_tests b id k (usable_tests 8 b id)) 0
    unfolding show_tests
    rest = gate_head 15 (BodySized b body) _ (gate_rest (use_tests b withheld) _ h)

    show_file : GoodSome b (places_of b) × (Parent (view_of (places_of b) b) id × HasSector b id k)
    unfolding show_tests
    show_file = let s = sector_has b id k (usable_tests 8 b id) rest.1 in (used_good b withheld _ h, ((usable_active 8 b id s.0).0, s.1))

    -- its sector lies in the body
    show_inside : body_place (kth_of b id k) + 1024 * 1 ≤ length body
    show_inside =
        let g = show_file.0 in
        let s = kth_inside (places_of b) b g.1.layout g.1.lawful id show_file.1.0 k show_file.1.1 in
        omega (arith, s.0, s.1, rest.0, g.1.layout.least)

  module _ (n : ℕ) (h : Gate (show_tests b withheld body id k) n) (e : n ≡ 0) where
    pub show_room : 2048 ≤ length b
    show_room = good_room b (places_of b) (show_file (rw e at h)).0.1

    module _ (p : Places) (is : p ≡ places_of b) where
      pub show_asks : GoodSome b p × (Parent (view_of p b) id × (k < file_sectors (view_of p b) id))
      show_asks = rw is (show_file (rw e at h))

  module _ (r : Part) (h : ShownAt b withheld body id k r) where
    pub shown_inside : r.at + r.len ≤ length body
    shown_inside = part_inside body (kth_of b id k) 1 h.number r h.part (λ z. show_inside (rw z at h.gate))

    pub shown_part : Shown b withheld body id k (take (r.at + r.len - r.at) (drop r.at body))
    shown_part = record { number = h.number; gate = h.gate; bytes = part_bytes body (kth_of b id k) 1 h.number r h.part }

-- ---- one result

pub located_one : (b withheld : List ℕ) (id k : ℕ) (r s : Result Sector Refusal) → Locates b withheld id k r → Locates b withheld id k s → r ≡ s
located_one b withheld id k r s h l =
    let e = gate_one (locate_tests b withheld id k) (number_of r) (number_of s) h.number l.number in
    answers_one r s _ _ h.answer l.answer (λ x y p q. ap (λ (n : ℕ). record { 0 = n }) (p ∙ sym q)) e

pub shown_at_one : (b withheld body : List ℕ) (id k : ℕ) (r s : Part) → ShownAt b withheld body id k r → ShownAt b withheld body id k s → r ≡ s
shown_at_one b withheld body id k r s h l =
    let e = gate_one (show_tests b withheld body id k) h.number l.number h.gate l.gate in
    h.part ∙ ap (λ (n : ℕ). part_of n (kth_of b id k) 1) e ∙ sym l.part

pub shown_one : (b withheld body : List ℕ) (id k : ℕ) (x y : List ℕ) → Shown b withheld body id k x → Shown b withheld body id k y → x ≡ y
shown_one b withheld body id k x y h l =
    let e = gate_one (show_tests b withheld body id k) h.number l.number h.gate l.gate in
    h.bytes ∙ ap (λ (n : ℕ). bytes_of n body (kth_of b id k) 1) e ∙ sym l.bytes
