-- Runs by zones: a run's part in a zone is whole blocks exactly where its edges are edges of blocks, and a run is lawful exactly where its
-- part in each zone that it meets is.
use mathlib.Core.Path.{◌≡◌, sym, ap, ◌∙◌}
use mathlib.Core.Logic.{◌⊎◌, inl, inr}
use mathlib.Core.Bool.{Bool}
use Prim.Native.Nat.{ℕ, ◌+◌, ◌-◌, ◌*◌, ◌/◌, ◌%◌, ◌≤◌, ◌<◌}
use native.Mathlib.Nat.{mul-le-mul_right, mul_assoc, div-add-mod', mod-lt, add-mul-mod_self_right}
use native.Mathlib.Decide.{dec_lt, ℕ_discrete}
use native.Mathlib.Omega.{arith}
use lib.Dec.{eqb}
use Rattle.field.specs.Says.{Says}
use Rattle.field.proofs.Tests.{says_map, says_eq}
use Rattle.tables.specs.Kinds.{zone_of, first_of}
use Rattle.tables.specs.Blocks.{DataType, block_of, Block, Whole}
use Rattle.tables.specs.Each.{Each}
use Rattle.tables.specs.Views.{View, cov}
use Rattle.tables.specs.Rules.R6.{Run}
use Rattle.examination.specs.ZoneParts.{Inside, Lone, Meets, Edge, Part, Parts}
use Rattle.tables.proofs.BlockLaws.{data_zone, block_of_lem, block_end, block_in}
use Rattle.tables.proofs.PointerLaws.{cov_in, cov_before, cov_after}

-- ---- edges

-- a block that begins before an edge of blocks ends before it
edge_side : (e size k j : ℕ) → e % size ≡ 0 → j < size → k * size < e → k * size + j < e
edge_side e size k j whole l h =
    elim (dec_lt k (e / size)) [
      | yes lt ↦ omega (arith, block_end k (e / size) size lt, div-add-mod' e size)
      | no ge ↦ absurd (omega (arith, mul-le-mul_right {m = e / size} {n = k} size (omega arith), div-add-mod' e size))
    ]

-- the block that holds the n-th sector of a zone is one of the zone's
block_here : (n size : ℕ) → Block size → n < 1024 → n / size < 1024 / size
block_here n size b l =
    elim (dec_lt (n / size) (1024 / size)) [
      | yes lt ↦ lt
      | no ge ↦ absurd (omega (arith, mul-le-mul_right {m = 1024 / size} {n = n / size} size (omega arith), div-add-mod' n size, b.whole))
    ]

-- a zone ends at an edge
zone_edge : (size : ℕ) → Block size → 1024 % size ≡ 0
zone_edge size b = omega (arith, div-add-mod' 1024 size, b.whole)

module _ (a c from size : ℕ) (b : Block size) (m : Meets a c from) where
  -- where a block does not end after the run without beginning after it, and the run begins at an edge, its part is whole blocks
  whole_by : (a - from) % size ≡ 0 → ((k : ℕ) → k < 1024 / size → (j : ℕ) → j < size → k * size < a + c - from → k * size + j < a + c - from) → Whole (cov a c) from size
  whole_by e tail k l j lj =
      elim (dec_lt (k * size) (a - from)) [
        | yes h ↦ cov_before a c _ (omega (arith, edge_side (a - from) size k j e lj h)) ∙ sym (cov_before a c _ (omega arith))
        | no h ↦ elim (dec_lt (k * size) (a + c - from)) [
          | yes g ↦ cov_in a c _ (omega arith) (omega (arith, tail k l j lj g)) ∙ sym (cov_in a c _ (omega arith) (omega arith))
          | no g ↦ cov_after a c _ (omega (arith, m.high)) ∙ sym (cov_after a c _ (omega (arith, m.high)))
        ]
      ]

  -- a part of whole blocks begins at an edge, or with the zone
  head_edge : Whole (cov a c) from size → (a - from) % size ≡ 0
  head_edge w =
      elim (ℕ_discrete ((a - from) % size) 0) [
        | yes e ↦ e
        | no ne ↦ (let q = div-add-mod' (a - from) size in
            absurd (omega (
              arith,
              w ((a - from) / size) (block_here (a - from) size b (omega (arith, m.low))) ((a - from) % size) (mod-lt (a - from) b.some),
              cov_in a c (from + (a - from) / size * size + (a - from) % size) (omega arith) (omega (arith, m.high)),
              cov_before a c (from + (a - from) / size * size) (omega arith),
            )))
      ]

  -- and ends at an edge, or with the zone
  tail_edge : Whole (cov a c) from size → a + c - from ≤ 1024 → (a + c - from) % size ≡ 0
  tail_edge w few =
      elim (ℕ_discrete ((a + c - from) % size) 0) [
        | yes e ↦ e
        | no ne ↦ (let q = div-add-mod' (a + c - from) size in
            let l : a + c - from < 1024 = elim (ℕ_discrete (a + c - from) 1024) [ yes z ↦ absurd (ne (rw z (zone_edge size b))) | no z ↦ omega arith ] in
            absurd (omega (
              arith,
              w ((a + c - from) / size) (block_here (a + c - from) size b l) ((a + c - from) % size) (mod-lt (a + c - from) b.some),
              cov_after a c (from + (a + c - from) / size * size + (a + c - from) % size) (omega (arith, m.high)),
              cov_in a c (from + (a + c - from) / size * size) (inner q) (omega (arith, m.high)),
            )))
      ]
    where
      inner : (a + c - from) / size * size + (a + c - from) % size ≡ a + c - from → a ≤ from + (a + c - from) / size * size
      inner q =
          elim (dec_lt ((a + c - from) / size * size) (a - from)) [
            | yes h ↦ absurd (omega (arith, edge_side (a - from) size ((a + c - from) / size) ((a + c - from) % size) (head_edge w) (mod-lt (a + c - from) b.some) h))
            | no h ↦ omega arith
          ]

  -- what the code finds: the run begins at no edge; else where it ends decides
  pub head_cut : ((a - from) % size ≡ 0 → ⊥) → Whole (cov a c) from size → ⊥
  head_cut n w = n (head_edge w)

  pub tail_says : (r : Bool) → (a - from) % size ≡ 0 → Says r (Edge (a + c) from size) → Says r (Whole (cov a c) from size)
  tail_says r n = says_map r to of
    where
      to : Edge (a + c) from size → Whole (cov a c) from size
      to (inl far) = whole_by n (λ k l j lj lt. omega (arith, block_in k size b l))
      to (inr e) = whole_by n (λ k l j lj lt. edge_side (a + c - from) size k j e lj lt)

      of : Whole (cov a c) from size → Edge (a + c) from size
      of w = elim (dec_lt (a + c) (from + 1024)) [ yes l ↦ inr (tail_edge w (omega arith)) | no l ↦ inl (omega arith) ]

-- a zone begins at an edge, so a sector may be counted from 0 on
slip : (n from size : ℕ) → Block size → from % 1024 ≡ 0 → from ≤ n → (n - from) % size ≡ n % size
slip n from size b e l =
    let y : n - from + from / 1024 * (1024 / size) * size ≡ n = omega (arith, mul_assoc (from / 1024) (1024 / size) size, ap (λ (m : ℕ). from / 1024 * m) b.whole) in
    sym (add-mul-mod_self_right (n - from) (from / 1024 * (1024 / size)) size) ∙ ap (λ (m : ℕ). m % size) y

-- the ways out of the tests of the two edges
module _ (n from size : ℕ) (b : Block size) (e : from % 1024 ≡ 0) where
  pub head_here : from < n → Says (eqb (n % size) 0) ((n - from) % size ≡ 0)
  head_here l = says_eq (n % size) 0 (λ t. slip n from size b e (omega arith) ∙ t) (λ t. sym (slip n from size b e (omega arith)) ∙ t)

  pub tail_here : from < n → n < from + 1024 → Says (eqb (n % size) 0) (Edge n from size)
  tail_here l h = says_eq (n % size) 0 (λ t. inr (slip n from size b e (omega arith) ∙ t)) of
    where
      of : Edge n from size → n % size ≡ 0
      of (inl far) = absurd (omega arith)
      of (inr t) = sym (slip n from size b e (omega arith)) ∙ t

-- a run within one zone: the zone begins at an edge, so the run's own numbers decide
module _ (a c size : ℕ) (b : Block size) (h : Lone a c) where
  lone_meets : Meets a c (first_of (zone_of a))
  lone_meets = record { some = h.some; low = omega arith; high = omega (arith, h.some) }

  lone_head : (a - first_of (zone_of a)) % size ≡ a % size
  lone_head = slip a (first_of (zone_of a)) size b (omega arith) (omega arith)

  lone_tail : a % size ≡ 0 → (a + c - first_of (zone_of a)) % size ≡ c % size
  lone_tail e =
      let z : (a - first_of (zone_of a)) % size ≡ 0 = lone_head ∙ e in
      let y : c + (a - first_of (zone_of a)) / size * size ≡ a + c - first_of (zone_of a) = omega (arith, div-add-mod' (a - first_of (zone_of a)) size) in
      sym (ap (λ (n : ℕ). n % size) y) ∙ add-mul-mod_self_right c ((a - first_of (zone_of a)) / size) size

  pub lone_cut : (a % size ≡ 0 → ⊥) → Whole (cov a c) (first_of (zone_of a)) size → ⊥
  lone_cut ne w = ne (sym lone_head ∙ head_edge a c (first_of (zone_of a)) size b lone_meets w)

  pub lone_says : a % size ≡ 0 → Says (eqb (c % size) 0) (Whole (cov a c) (first_of (zone_of a)) size)
  lone_says e =
      says_eq
      (c % size)
      0
      (λ t. whole_by a c (first_of (zone_of a)) size b lone_meets (lone_head ∙ e) (λ k l j lj lt. edge_side (a + c - first_of (zone_of a)) size k j (lone_tail e ∙ t) lj lt))
      (λ w. sym (lone_tail e) ∙ tail_edge a c (first_of (zone_of a)) size b lone_meets w (omega (arith, h.one)))

-- ---- zones

-- where a run does not meet a zone it has one value on it
whole_none : (a c from size : ℕ) → Block size → (a + c ≤ from) ⊎ (from + 1024 ≤ a) → Whole (cov a c) from size
whole_none a c from size b (inl h) k l j lj = cov_after a c _ (omega arith) ∙ sym (cov_after a c _ (omega arith))
whole_none a c from size b (inr h) k l j lj = cov_before a c _ (omega (arith, block_in k size b l)) ∙ sym (cov_before a c _ (omega (arith, block_in k size b l)))

-- zone by zone
pub parts_says : (v : View) (a c from end : ℕ) (r : Bool) → from ≡ zone_of a → end ≡ zone_of (a + c - 1) + 1 → Says r (Each (Part v a c) from end) → Says r (Parts v a c)
parts_says v a c from end r f e s = rw (f, e) at s

module _ (v : View) (a c : ℕ) (i : Inside v.zones a c) (few : c ≤ 32767) where
  parts_run : Parts v a c → Run v a c
  parts_run parts = record {
    some = i.some;
    few = few;
    low = i.low;
    high = i.high;
    typed = λ s l h. (parts (zone_of s) (omega arith) (omega arith)).typed;
    whole = λ z l h t. elim (dec_lt z (zone_of a)) [
      | yes lo ↦ whole_none a c (first_of z) (block_of (v.zone z).ztype) (block_of_lem _ t) (inr (omega arith))
      | no lo ↦ elim (dec_lt z (zone_of (a + c - 1) + 1)) [
        | yes hi ↦ (parts z hi (omega arith)).whole
        | no hi ↦ whole_none a c (first_of z) (block_of (v.zone z).ztype) (block_of_lem _ t) (inl (omega (arith, i.some)))
      ]
    ];
  }

  run_parts : Run v a c → Parts v a c
  run_parts r z l h =
      let t = met (ℕ_discrete z (zone_of a)) in
      record { typed = t; whole = r.whole z (omega (arith, i.some, i.high)) (omega (arith, i.low)) (data_zone t) }
    where
      met : Dec (z ≡ zone_of a) → DataType (v.zone z).ztype
      met (yes e) = rw e (r.typed a (omega (arith, i.some)) (omega arith))
      met (no ne) = (let e : zone_of (first_of z) ≡ z = omega arith in rw e at (r.typed (first_of z) (omega (arith, i.some)) (omega arith)))

  -- the zones that a run meets decide
  pub run_says : (r : Bool) → Says r (Parts v a c) → Says r (Run v a c)
  run_says r = says_map r parts_run run_parts

  -- of a run within one zone, that zone
  pub run_lone : (r : Bool) (last first : ℕ) → last ≡ zone_of (a + c - 1) → first ≡ zone_of a → last ≡ first → Says r (Part v a c (zone_of a)) → Says r (Run v a c)
  run_lone r last first x y q s =
      run_says r (says_map r (λ (part : Part v a c (zone_of a)) k l lo. rw (let e : k ≡ zone_of a = omega arith in e) part) (λ parts. parts (zone_of a) (omega arith) (omega arith)) s)
