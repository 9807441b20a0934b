-- Marks below a limit: what a run, a table and all tables do to them, and what the lowest sector met twice says of R7.
use Rattle.std.specs.Prelude.{Option, Some, None}
use Rattle.std.specs.Option.{option_or}
use mathlib.Core.Path.{◌≡◌, refl, sym, ap, ◌∙◌}
use mathlib.Core.Logic.{inl, inr, ⊎_elim}
use mathlib.Core.Bool.{Bool, true, false}
use mathlib.Core.List.{List}
use Prim.Native.Nat.{ℕ, ◌+◌, ◌-◌, ◌*◌, ◌≤◌, ◌<◌}
use native.Mathlib.Decide.{dec_lt}
use native.Mathlib.Omega.{arith}
use lib.ListN.{length}
use Rattle.field.specs.Sum.{sum_to}
use Rattle.field.specs.Numbers.{u16_at, u32_at}
use Rattle.field.specs.Bits.{bit_at}
use Rattle.field.proofs.Sums.{sum_more}
use Rattle.field.proofs.BitLaws.{bit_at_lt}
use Rattle.tables.specs.declared.index.Pointer.{Pointer}
use Rattle.tables.specs.declared.places.Places.{Places}
use Rattle.tables.specs.Places.{Layout}
use Rattle.tables.specs.Indexes.{word_of, pointer_at, slots_of, base_of, header_start, header_count}
use Rattle.tables.specs.Views.{View, view_of, cov, over_of, header_over, claims_of, tally, claims_over}
use Rattle.tables.specs.Rules.R6.{R6}
use Rattle.tables.specs.Withheld.{Withholds, withheld_over}
use Rattle.tables.proofs.WithheldLaws.{withheld_once}
use Rattle.tables.proofs.PointerLaws.{cov_in, cov_before, cov_after, cov_cases, cov_join, header_over_lem, header_other, claimed_inside}
use Rattle.examination.specs.Findings.{Finds}
use Rattle.marks.specs.Marks.{mark_at, MarksAdded, MarksAre, Adds, over_first, over_tables}
use Rattle.examination.specs.Rulings.{SectorLaw}
use Rattle.examination.specs.Limits.{Limited, Lowers, MarkLaw}
use Rattle.marks.proofs.MarkLaws.{mark_one}

-- ---- a run, sector by sector

-- a sector that is not marked can be marked
pub set_one : (r : Bool) (m m' : List ℕ) (s : ℕ) → mark_at m s ≡ 0 → Adds r m m' (cov s 1) → MarksAdded m m' (cov s 1)
set_one true m m' s z a = a
set_one false m m' s z a = absurd (a fits)
  where
    fits : (n : ℕ) → mark_at m n + cov s 1 n ≤ 1
    fits n = ⊎_elim (λ h. (let e : n ≡ s = omega (arith, h.low, h.high) in omega (arith, h.one, ap (mark_at m) e))) (λ h. omega (arith, mark_one m n)) (cov_cases s 1 n)

module _ (m₀ m : List ℕ) (from i count limit : ℕ) (long : length m₀ ≡ 4096) (a : MarksAdded m₀ m (cov from i)) where
  -- as far as it is marked, the marks are those of the whole run
  so_far : (n : ℕ) → i ≤ count → n < from + i → mark_at m n ≡ mark_at m₀ n + cov from count n
  so_far n h l =
      let e : cov from count n ≡ cov from (i + (count - i)) n = ap (λ (c : ℕ). cov from c n) (let g : count ≡ i + (count - i) = omega arith in g) in
      omega (arith, a.bits n, cov_join from i (count - i) n, cov_before (from + i) (count - i) n l)

  -- the limit is reached; a sector was marked already; or the run is at its end
  pub run_far : i ≤ count → limit ≤ from + i → Lowers m₀ limit (cov from count) m limit
  run_far h l = record { long = a.len ∙ long; lower = omega arith; bits = λ n k. so_far n h (omega arith); twice = inl refl }

  pub run_twice : (x : ℕ) → i < count → from + i < limit → x ≡ mark_at m (from + i) → (x ≡ 0 → ⊥) → Lowers m₀ limit (cov from count) m (from + i)
  run_twice x h l e ne = record {
    long = a.len ∙ long;
    lower = omega arith;
    bits = λ n k. so_far n (omega arith) k;
    twice = inr (omega (arith, a.bits (from + i), cov_after from i (from + i) (omega arith), cov_in from count (from + i) (omega arith) (omega arith)));
  }

-- ---- one after the other

-- nothing more changes nothing; and what is added in two steps is added
lowers_none : (m : List ℕ) (limit : ℕ) (D : ℕ → ℕ) → length m ≡ 4096 → ((s : ℕ) → D s ≡ 0) → Lowers m limit D m limit
lowers_none m limit D l z = record { long = l; lower = omega arith; bits = λ s h. omega (arith, z s); twice = inl refl }

lowers_more : {m m' m'' : List ℕ} {l l' l'' : ℕ} {D E : ℕ → ℕ} (F : ℕ → ℕ) → Lowers m l D m' l' → Lowers m' l' E m'' l'' → ((s : ℕ) → F s ≡ D s + E s) → Lowers m l F m'' l''
lowers_more {m} {m'} {m''} {l} {l'} {l''} {D} {E} F x y e = record {
  long = y.long;
  lower = omega (arith, x.lower, y.lower);
  bits = λ s h. omega (arith, y.bits s h, x.bits s (omega (arith, y.lower)), e s);
  twice = elim (dec_lt l'' l') [
    | yes h ↦ ⊎_elim (λ g. absurd (omega arith)) (λ g. inr (omega (arith, x.bits l'' h, e l''))) y.twice
    | no h ↦ (let g : l'' ≡ l' = omega (arith, y.lower) in rw g (⊎_elim (λ k. inl k) (λ k. inr (omega (arith, e l'))) x.twice))
  ];
}

-- ---- a table, pointer by pointer

module _ (t : List ℕ) (base : ℕ) (m₀ : List ℕ) (limit : ℕ) where
  pub pointers_none : length m₀ ≡ 4096 → Lowers m₀ limit (over_first t base 0) m₀ limit
  unfolding over_first sum_to
  pointers_none l = lowers_none m₀ limit (over_first t base 0) l (λ s. refl)

  module _ (m : List ℕ) (low j : ℕ) (a : Lowers m₀ limit (over_first t base j) m low) where
    pub pointers_more : (q : Pointer) (m' : List ℕ) (low' : ℕ) → q ≡ pointer_at t (base + 6 * j) → Lowers m low (cov q.start.0 q.count) m' low' → Lowers m₀ limit (over_first t base (j + 1)) m' low'
    unfolding over_first
    pointers_more q m' low' e d =
        lowers_more (over_first t base (j + 1)) a (rw e at d) (λ s. sum_more j (λ j. cov (u32_at t (base + 6 * j)) (u16_at t (base + 6 * j + 4)) s))

    pub pointers_end : (i slots : ℕ) → base ≡ base_of i t → slots ≡ slots_of i t → j ≤ slots → slots ≤ j → Lowers m₀ limit (over_of i t) m low
    unfolding over_first over_of
    pointers_end i slots eb es h l = let e : j ≡ slots_of i t = omega arith in rw (e, eb) at a

-- ---- its header, after its pointers

-- a table that is no parent has none; a parent's is a run like another
module _ (i : ℕ) (t : List ℕ) (w : ℕ) (ew : w ≡ word_of t) (m : List ℕ) (limit : ℕ) where
  pub header_past : length m ≡ 4096 → (w ≡ i → ⊥) → Lowers m limit (header_over i t) m limit
  header_past l ne = lowers_none m limit (header_over i t) l (λ s. header_other i t s (λ e. ne (ew ∙ e)))

  pub header_lowers : (m' : List ℕ) (low : ℕ) (q : Pointer) → w ≡ i → q ≡ pointer_at t 58 → Lowers m limit (cov q.start.0 q.count) m' low → Lowers m limit (header_over i t) m' low
  header_lowers m' low q e at a =
      let x : Lowers m limit (cov (header_start t) (header_count t)) m' low = rw at at a in
      let same : (s : ℕ) → header_over i t s ≡ cov (header_start t) (header_count t) s = λ s. header_over_lem i t s (sym ew ∙ e) in
      record {
        long = x.long;
        lower = x.lower;
        bits = λ s h. omega (arith, x.bits s h, same s);
        twice = ⊎_elim (λ h. inl h) (λ h. inr (omega (arith, same low))) x.twice;
      }

-- the two steps
module _ (i : ℕ) (t m m' : List ℕ) (limit low : ℕ) (a : Lowers m limit (over_of i t) m' low) where
  pub claims_lower : (m'' : List ℕ) (low' : ℕ) → Lowers m' low (header_over i t) m'' low' → Lowers m limit (claims_of i t) m'' low'
  unfolding claims_of
  claims_lower m'' low' d = lowers_more (claims_of i t) a d (λ s. refl)

-- ---- all tables

module _ (v : View) (m₀ : List ℕ) (limit : ℕ) where
  pub all_none : length m₀ ≡ 4096 → Lowers m₀ limit (over_tables v 0) m₀ limit
  unfolding over_tables sum_to
  all_none l = lowers_none m₀ limit (over_tables v 0) l (λ s. refl)

  module _ (m : List ℕ) (low k : ℕ) (a : Lowers m₀ limit (over_tables v k) m low) where
    pub all_more : (t m' : List ℕ) (low' : ℕ) → t ≡ v.table (k + 1) → Lowers m low (claims_of (k + 1) t) m' low' → Lowers m₀ limit (over_tables v (k + 1)) m' low'
    unfolding over_tables
    all_more t m' low' e d = lowers_more (over_tables v (k + 1)) a (rw e at d) (λ s. sum_more k (λ k. claims_of (k + 1) (v.table (k + 1)) s))

    pub all_end : k ≤ v.indexes → v.indexes ≤ k → Lowers m₀ limit (claims_over v) m low
    unfolding over_tables claims_over tally
    all_end h l = let e : k ≡ v.indexes = omega arith in rw e at a

-- ---- marks and bits compared

-- below the limit; then the limit is the lowest, where it is not the end
module _ (p : Places) (b m : List ℕ) (limit : ℕ) where
  pub unequal_or : (f : Option ℕ) → 1024 ≤ limit → limit < 1024 * (p.zones - 1) → Finds (λ k. bit_at b p.sectortable k ≡ mark_at m k) 1024 limit f
      → Finds (MarkLaw m limit (view_of p b).bit) 1024 (1024 * (p.zones - 1)) (option_or f (Some limit))
  unequal_or None lo l h = record { low = lo; high = l; fails = λ e. omega (arith, e.0); below = λ k lk low. (lk, h k lk low) }
  unequal_or (Some s) lo l h = record { low = h.low; high = omega (arith, h.high); fails = λ e. h.fails e.1; below = λ k lk low. (omega (arith, h.high), h.below k lk low) }

  pub unequal_only : (f : Option ℕ) → limit ≤ 1024 * (p.zones - 1) → 1024 * (p.zones - 1) ≤ limit → Finds (λ k. bit_at b p.sectortable k ≡ mark_at m k) 1024 limit f
      → Finds (MarkLaw m limit (view_of p b).bit) 1024 (1024 * (p.zones - 1)) f
  unequal_only None most least h = λ k lk low. (omega arith, h k (omega arith) low)
  unequal_only (Some s) most least h = record { low = h.low; high = omega (arith, h.high); fails = λ e. h.fails e.1; below = λ k lk low. (omega (arith, h.high), h.below k lk low) }

-- ---- R7

-- the withheld blocks were marked first, then what the tables own
module _ (p : Places) (b withheld m₀ m : List ℕ) (limit : ℕ) (z : MarksAre m₀ (withheld_over (view_of p b) withheld))
    (a : Lowers m₀ (1024 * (p.zones - 1)) (claims_over (view_of p b)) m limit) where
  limited : Limited m limit (λ s. claims_over (view_of p b) s + withheld_over (view_of p b) withheld s) (1024 * (p.zones - 1))
  limited = record {
    long = a.long;
    most = a.lower;
    bits = λ s h. omega (arith, a.bits s h, z.bits s);
    twice = ⊎_elim (λ h. inl h) (λ h. inr (omega (arith, z.bits limit))) a.twice;
  }

  -- nothing in zone 1 is owned, and no sector is withheld twice
  pub limit_inside : Layout p (length b) → R6 (view_of p b) → Withholds (view_of p b) withheld → (1024 ≤ limit) × (limit ≤ 1024 * (p.zones - 1))
  limit_inside lay r6 list = (
    elim (dec_lt limit 1024) [
      | yes l ↦ ⊎_elim (λ e. omega (arith, lay.least)) (λ two.
          absurd (omega (arith, (claimed_inside (view_of p b) r6 limit (omega (arith, withheld_once (view_of p b) withheld list limit))).0))) limited.twice
      | no l ↦ omega arith
    ],
    limited.most,
  )

  -- below the limit the rule is that mark and bit are the same
  same_law : (s : ℕ) → s < limit → bit_at b p.sectortable s ≡ mark_at m s → SectorLaw (view_of p b) withheld s
  same_law s l e = omega (arith, limited.bits s l)

  law_same : (s : ℕ) → s < limit → SectorLaw (view_of p b) withheld s → bit_at b p.sectortable s ≡ mark_at m s
  law_same s l e = omega (arith, limited.bits s l)

  -- at the limit it fails
  pub marks_find : 1024 ≤ limit → (f : Option ℕ) → Finds (MarkLaw m limit (view_of p b).bit) 1024 (1024 * (p.zones - 1)) f → Finds (SectorLaw (view_of p b) withheld) 1024 (1024 * (p.zones - 1)) f
  marks_find low None h = λ k lk lo. (let e = h k lk lo in same_law k e.0 e.1)
  marks_find low (Some k) h = record { low = h.low; high = h.high; fails = broken; below = λ j lj lo. (let e = h.below j lj lo in same_law j e.0 e.1) }
    where
      broken : SectorLaw (view_of p b) withheld k → ⊥
      broken e = elim (dec_lt k limit) [
        | yes l ↦ h.fails (l, law_same k l e)
        | no nl ↦ elim (dec_lt limit k) [
          | yes over ↦ omega (arith, (h.below limit over low).0)
          | no at ↦ (let q : limit ≡ k = omega arith in
              ⊎_elim (λ end. omega (arith, h.high)) (λ two. omega (arith, bit_at_lt b p.sectortable k, rw q at two)) limited.twice)
        ]
      ]

  pub lowest_found : Layout p (length b) → R6 (view_of p b) → Withholds (view_of p b) withheld → (f : Option ℕ) → Finds (MarkLaw m limit (view_of p b).bit) 1024 (1024 * (p.zones - 1)) f
      → Finds (SectorLaw (view_of p b) withheld) 1024 (1024 * (p.zones - 1)) f
  lowest_found lay r6 list f h = marks_find (limit_inside lay r6 list).0 f h
