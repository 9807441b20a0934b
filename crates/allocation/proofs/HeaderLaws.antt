-- The place of a header: what the tests of runs and zones say, that there is a place exactly where there is room, and that it is the lowest.
use mathlib.Core.Path.{◌≡◌, refl, sym, ap, ◌∙◌}
use mathlib.Core.Logic.{◌⊎◌, inl, inr, ⊎_elim}
use mathlib.Core.Bool.{true, false, true≢false, and-eq-true_iff}
use Prim.Native.Nat.{ℕ, ◌+◌, ◌-◌, ◌≤◌, ◌<◌}
use native.Mathlib.Decide.{dec_lt}
use native.Mathlib.Omega.{arith}
use lib.Dec.{ltb}
use borrow.Author.Tests.{lt-ltb, le-ltb, ltb-true, eq-eqb, ne_eqb, eqb-true}
use Rattle.field.specs.Sum.{sum_to}
use Rattle.field.proofs.Sums.{sum_more, sum_zero, sum_part}
use Rattle.tables.specs.declared.kinds.Zone.{Zone}
use Rattle.tables.specs.declared.zone.ZoneEntry.{ZoneEntry}
use Rattle.tables.specs.Kinds.{first_of}
use Rattle.tables.specs.Blocks.{header_type}
use Rattle.tables.specs.Open.{is_open}
use Rattle.tables.specs.Room.{spare_in}
use Rattle.tables.specs.Views.{View}
use Rattle.tables.proofs.LackLaws.{in_begun}
use Rattle.allocation.specs.declared.choice.Found.{Found}
use Rattle.allocation.specs.Choice.{begun, lowest_open}
use Rattle.allocation.specs.Headers.{run_fits, lowest_run, fitting, lowest_fitting, run_place, header_place, FittingRun, HeaderRoom, BegunPlace, OpenPlace}
use Rattle.allocation.proofs.FindLaws.{find_low, find_passes, find_none, find_some, find_at, find_all}
use Rattle.allocation.proofs.NextBlockLaws.{begun_yes, begun_no, begun_is}

-- ---- runs

-- in a run that has a sector in use, not all are free
run_set : (n i : ℕ) (f : ℕ → ℕ) → i < n → f i ≡ 1 → 0 < sum_to n f
run_set n i f l e = omega (arith, sum_part n i f l)

-- a run that begins in sectors in use, or takes in the first of them, isn't free: those from `from` + `free` on
pub run_passed : (bit : ℕ → ℕ) (first n from free used : ℕ) → free < n → ((j : ℕ) → j < from → 0 < sum_to n (λ i. bit (first + j + i)))
    → 0 < used → ((k : ℕ) → k < used → bit (first + (from + free) + k) ≡ 1) → (j : ℕ) → j < from + free + used → 0 < sum_to n (λ i. bit (first + j + i))
run_passed bit first n from free used few none some set j l =
    elim (dec_lt j from) [
      | yes h ↦ none j h
      | no h ↦ elim (dec_lt j (from + free)) [
        | yes g ↦
            let e : first + j + (from + free - j) ≡ first + (from + free) + 0 = omega arith in
            run_set n (from + free - j) (λ i. bit (first + j + i)) (omega arith) (ap bit e ∙ set 0 some)
        | no g ↦
            let e : first + j + 0 ≡ first + (from + free) + (j - (from + free)) = omega arith in
            run_set n 0 (λ i. bit (first + j + i)) (omega arith) (ap bit e ∙ set (j - (from + free)) (omega arith))
      ]
    ]

-- a free sector after free ones
pub run_longer : (bit : ℕ → ℕ) (first from free : ℕ) → sum_to free (λ i. bit (first + from + i)) ≡ 0 → bit (first + (from + free)) ≡ 0
    → sum_to (free + 1) (λ i. bit (first + from + i)) ≡ 0
run_longer bit first from free h e =
    let q : first + from + free ≡ first + (from + free) = omega arith in
    omega (arith, sum_more free (λ i. bit (first + from + i)), h, ap bit q, e)

module _ (v : View) (n z : ℕ) where
  -- what the test of a run says, of the sum of its bits and of each
  fits_yes : (k : ℕ) → sum_to n (λ j. v.bit (first_of z + k + j)) ≡ 0 → run_fits v n z k ≡ true
  unfolding run_fits
  fits_yes k h = eq-eqb _ 0 h

  fits_no : (k : ℕ) → 0 < sum_to n (λ j. v.bit (first_of z + k + j)) → run_fits v n z k ≡ false
  unfolding run_fits
  fits_no k h = ne_eqb (sum_to n (λ j. v.bit (first_of z + k + j))) 0 (λ e. omega arith)

  fits_clear : (k : ℕ) → run_fits v n z k ≡ true → (j : ℕ) → j < n → v.bit (first_of z + k + j) ≡ 0
  unfolding run_fits
  fits_clear k h j l = omega (arith, eqb-true (sum_to n (λ j. v.bit (first_of z + k + j))) 0 h, sum_part n j (λ j. v.bit (first_of z + k + j)) l)

  -- the search for a run, whose zone begins at `first`: none below `from` is free
  module _ (first : ℕ) (at : first ≡ first_of z) (from : ℕ) (none : (j : ℕ) → j < from → 0 < sum_to n (λ i. v.bit (first + j + i))) where
    -- so none fits
    run_none : (j : ℕ) → j < from → run_fits v n z j ≡ false
    run_none j l = fits_no j (rw at at (none j l))

    -- the run at `from` is the lowest if its sectors are free, and there is none if it would leave the zone
    pub run_hit : from + n ≤ 1024 → sum_to n (λ i. v.bit (first + from + i)) ≡ 0 → from ≡ lowest_run v n z
    unfolding lowest_run
    run_hit h e = sym (find_at (run_fits v n z) (1025 - n) 0 from (omega arith) (omega arith) (fits_yes from (rw at at e)) (λ j l lo. run_none j l))

    pub run_end : n ≤ 1024 → 1024 < from + n → 1025 - n ≡ lowest_run v n z
    unfolding lowest_run
    run_end few h =
        let e : 0 + (1025 - n) ≡ 1025 - n = omega arith in
        sym (find_all (run_fits v n z) (1025 - n) 0 (λ j l lo. run_none j (omega arith)) ∙ e)

  -- the run that is found fits, and there is one if any fits
  run_fits_lem : lowest_run v n z < 1025 - n → run_fits v n z (lowest_run v n z) ≡ true
  unfolding lowest_run
  run_fits_lem l = find_passes (run_fits v n z) (1025 - n) 0 (omega arith)

  run_some : (k : ℕ) → k + n ≤ 1024 → run_fits v n z k ≡ true → lowest_run v n z < 1025 - n
  unfolding lowest_run
  run_some k l h = let q = find_some (run_fits v n z) (1025 - n) 0 k (omega arith) (omega arith) h in omega arith

  -- none below it does
  run_lowest : (k : ℕ) → k < lowest_run v n z → run_fits v n z k ≡ false
  unfolding lowest_run
  run_lowest k l = find_none (run_fits v n z) (1025 - n) 0 k l (omega arith)

-- ---- zones

module _ (v : View) (n z : ℕ) where
  module _ (r : ℕ) (e : ZoneEntry) (q : e ≡ v.zone z) (is : r ≡ spare_in header_type e) where
    -- by its entry's free sectors, and the run that is found
    pub fitting_none : r ≡ 0 → fitting v n z ≡ false
    unfolding fitting
    fitting_none h = rw (begun_no v header_type z r e q is (omega arith))

    module _ (some : r ≡ 0 → ⊥) where
      pub fitting_short : lowest_run v n z ≡ 1025 - n → fitting v n z ≡ false
      unfolding fitting
      fitting_short h = rw (begun_yes v header_type z r e q is (omega arith), le-ltb (lowest_run v n z) (1025 - n) (omega arith))

      pub fitting_run : lowest_run v n z < 1025 - n → fitting v n z ≡ true
      unfolding fitting
      fitting_run h = rw (begun_yes v header_type z r e q is (omega arith), lt-ltb (lowest_run v n z) (1025 - n) h)

  -- what the test of a zone says
  fitting_is : fitting v n z ≡ true → (begun v header_type z ≡ true) × (lowest_run v n z < 1025 - n)
  unfolding fitting
  fitting_is h =
      let q = (and-eq-true_iff (begun v header_type z) (ltb (lowest_run v n z) (1025 - n))).0 h in
      (q.0, ltb-true (lowest_run v n z) (1025 - n) q.1)

  fitting_of : begun v header_type z ≡ true → lowest_run v n z < 1025 - n → fitting v n z ≡ true
  unfolding fitting
  fitting_of h l = rw (h, lt-ltb (lowest_run v n z) (1025 - n) l)

module _ (v : View) (n : ℕ) where
  -- the zone that is found lies from zone 2 on
  fitting_low : 2 ≤ lowest_fitting v n
  unfolding lowest_fitting
  fitting_low = find_low (fitting v n) (v.zones - 2) 2

  -- it fits, there is one if any fits, and none below it does
  fitting_found : lowest_fitting v n < v.zones → fitting v n (lowest_fitting v n) ≡ true
  unfolding lowest_fitting
  fitting_found l = find_passes (fitting v n) (v.zones - 2) 2 (omega (arith, find_low (fitting v n) (v.zones - 2) 2))

  fitting_some : (z : ℕ) → 2 ≤ z → z < v.zones → fitting v n z ≡ true → lowest_fitting v n < v.zones
  unfolding lowest_fitting
  fitting_some z lo hi h = let l = find_some (fitting v n) (v.zones - 2) 2 z lo (omega arith) h in omega arith

  fitting_lowest : (z : ℕ) → z < lowest_fitting v n → 2 ≤ z → fitting v n z ≡ false
  unfolding lowest_fitting
  fitting_lowest z l lo = find_none (fitting v n) (v.zones - 2) 2 z l lo

module _ (v : View) where
  -- the open zone that is found: from zone 2 on, open, and there is one if any is open
  open_low : 2 ≤ lowest_open v
  unfolding lowest_open
  open_low = find_low (λ z. is_open (v.zone z)) (v.zones - 2) 2

  open_found : lowest_open v < v.zones → is_open (v.zone (lowest_open v)) ≡ true
  unfolding lowest_open
  open_found l = find_passes (λ z. is_open (v.zone z)) (v.zones - 2) 2 (omega (arith, find_low (λ z. is_open (v.zone z)) (v.zones - 2) 2))

  open_some : (z : ℕ) → 2 ≤ z → z < v.zones → is_open (v.zone z) ≡ true → lowest_open v < v.zones
  unfolding lowest_open
  open_some z lo hi h = let l = find_some (λ z. is_open (v.zone z)) (v.zones - 2) 2 z lo (omega arith) h in omega arith

-- ---- the place

module _ (v : View) (n : ℕ) where
  -- in a zone that fits, or else in an open one
  pub place_begun : lowest_fitting v n < v.zones
      → header_place v n ≡ record { zone = record { 0 = lowest_fitting v n }; number = lowest_run v n (lowest_fitting v n); free = (v.zone (lowest_fitting v n)).free - n }
  unfolding header_place
  place_begun h = rw (lt-ltb (lowest_fitting v n) v.zones h)

  pub place_open : v.zones ≤ lowest_fitting v n → header_place v n ≡ record { zone = record { 0 = lowest_open v }; number = 0; free = 1024 - n }
  unfolding header_place
  place_open h = rw (le-ltb (lowest_fitting v n) v.zones h)

  -- the code's ways to it: in the zone that fits, or in the open one
  pub place_here : lowest_fitting v n < v.zones → run_place v n (lowest_fitting v n) ≡ header_place v n
  place_here h = sym (place_begun h)

  module _ (none : lowest_fitting v n ≡ v.zones) where
    pub place_there : (y : Zone) → y.0 ≡ lowest_open v → ◌≡◌ {A = Found} (record { zone = y; number = 0; free = 1024 - n }) (header_place v n)
    place_there y q = rw (place_open (omega arith), sym q)

    pub place_none : lowest_open v ≡ v.zones → v.zones ≤ (header_place v n).zone.0
    place_none q = rw (place_open (omega arith)) (omega arith)

  -- what the place is in either case
  begun_place : lowest_fitting v n < v.zones → BegunPlace v n (header_place v n)
  begun_place h =
      let z = lowest_fitting v n in
      let q = fitting_is v n z (fitting_found v n h) in
      let s = begun_is v header_type z q.0 in
      rw (place_begun h) (record {
        low = fitting_low v n;
        typed = s.ztype;
        begun = s.shut;
        within = omega (arith, q.1);
        clear = fits_clear v n z (lowest_run v n z) (run_fits_lem v n z q.1);
        free = refl;
      })

  open_place : v.zones ≤ lowest_fitting v n → (header_place v n).zone.0 < v.zones → OpenPlace v n (header_place v n)
  open_place h l =
      let l' : lowest_open v < v.zones = rw (place_open h) at l in
      rw (place_open h) (record { low = open_low v; opened = open_found v l'; number = refl; free = refl })

  -- either is the case
  pub place_cases : (header_place v n).zone.0 < v.zones → BegunPlace v n (header_place v n) ⊎ OpenPlace v n (header_place v n)
  place_cases l = elim (dec_lt (lowest_fitting v n) v.zones) [ yes h ↦ inl (begun_place h) | no h ↦ inr (open_place (omega arith) l) ]

  -- where there is a place, there is room
  pub place_room : (header_place v n).zone.0 < v.zones → HeaderRoom v n
  place_room l =
      ⊎_elim
      (λ p. inl (record { zone = (header_place v n).zone.0; number = (header_place v n).number; low = p.low; high = l; typed = p.typed; begun = p.begun; within = p.within; clear = p.clear }))
      (λ p. inr (record { zone = (header_place v n).zone.0; low = p.low; high = l; opened = p.opened })) (place_cases l)

  -- where there is room, there is a place: a B zone with a free sector counts it
  module _ (some : 1 ≤ n)
      (free : (z : ℕ) → 2 ≤ z → z < v.zones → (v.zone z).ztype ≡ header_type → (k : ℕ) → k < 1024 → v.bit (first_of z + k) ≡ 0 → 0 < (v.zone z).free) where
    -- the zone of a fitting run passes the test
    run_fitting : (r : FittingRun v n) → fitting v n r.zone ≡ true
    run_fitting r =
        let e : first_of r.zone + r.number ≡ first_of r.zone + r.number + 0 = omega arith in
        let f = free r.zone r.low r.high r.typed r.number (omega (arith, r.within)) (ap v.bit e ∙ r.clear 0 some) in
        let s = in_begun header_type (v.zone r.zone) (is_open (v.zone r.zone)) refl r.begun r.typed in
        fitting_of v n r.zone (begun_yes v header_type r.zone _ (v.zone r.zone) refl refl (omega arith))
        (run_some v n r.zone r.number r.within (fits_yes v n r.zone r.number (sum_zero n _ r.clear)))

    pub room_place : HeaderRoom v n → (header_place v n).zone.0 < v.zones
    room_place room = elim (dec_lt (lowest_fitting v n) v.zones) [
      | yes h ↦ rw (place_begun h) h
      | no h ↦ rw (place_open (omega arith)) (⊎_elim (λ r. absurd (h (fitting_some v n r.zone r.low r.high (run_fitting r)))) (λ o. open_some v o.zone o.low o.high o.opened) room)
    ]

  -- ---- it is the lowest

  -- no zone below that of a place in a begun zone fits
  pub lowest_zone : (header_place v n).zone.0 < v.zones → is_open (v.zone (header_place v n).zone.0) ≡ false
      → (z : ℕ) → z < (header_place v n).zone.0 → 2 ≤ z → fitting v n z ≡ false
  lowest_zone l shut z below lo = elim (dec_lt (lowest_fitting v n) v.zones) [
    | yes h ↦ fitting_lowest v n z (rw (place_begun h) at below) lo
    | no h ↦ absurd (true≢false (sym (open_place (omega arith) l).opened ∙ shut))
  ]

  -- and no run of its zone below it
  pub lowest_run_lem : (k : ℕ) → k < (header_place v n).number → run_fits v n (header_place v n).zone.0 k ≡ false
  lowest_run_lem k below = elim (dec_lt (lowest_fitting v n) v.zones) [
    | yes h ↦ rw (place_begun h) (run_lowest v n (lowest_fitting v n) k (rw (place_begun h) at below))
    | no h ↦ absurd (let q : k < 0 = rw (place_open (omega arith)) at below in omega arith)
  ]
