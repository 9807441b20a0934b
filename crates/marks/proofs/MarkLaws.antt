-- Marks that are added run by run, table by table, and what they say of R7.
use mathlib.Core.Path.{◌≡◌, refl, sym, ap, ap₂, ◌∙◌}
use mathlib.Core.Logic.{◌≢◌, ◌⊎◌, inl, inr, ⊎_elim}
use mathlib.Core.Bool.{Bool, true, false, not}
use mathlib.Core.List.{List}
use Prim.Native.Nat.{ℕ, zero, suc, ◌+◌, ◌-◌, ◌*◌, ◌/◌, ◌%◌, ◌^◌, ◌≤◌, ◌<◌}
use native.Mathlib.Nat.{zero-div}
use native.Mathlib.Decide.{dec_lt}
use native.Mathlib.Omega.{arith}
use lib.ListN.{length, get_or, replicate}
use Rattle.std.specs.Bool.{MatchBool}
use Rattle.std.specs.List.{AllWithin, HoldsAt, range_with_len}
use Rattle.std.proofs.lemmas.List.FromFn.{length-range_with_len, get_or-range_with_len}
use Rattle.field.specs.Says.{Says}
use Rattle.field.specs.Sum.{sum_to}
use Rattle.field.specs.Numbers.{u16_at, u32_at}
use Rattle.field.specs.Bits.{bit_of, bit_at}
use Rattle.field.proofs.Tests.{says_map}
use Rattle.field.proofs.Sums.{sum_more, sum_cut, sum_zero, sum_upto}
use Rattle.field.proofs.NumberLaws.{u32_lt, get_d_zeros}
use Rattle.field.proofs.BitLaws.{bit_lt, bit_at_lt}
use Rattle.tables.specs.declared.index.Pointer.{Pointer}
use Rattle.tables.specs.declared.places.Places.{Places}
use Rattle.tables.specs.Places.{Layout}
use Rattle.tables.specs.Indexes.{table_at, word_of, pointer_at, slots_of, base_of, start_of, count_of, Used, header_start, header_count}
use Rattle.tables.specs.Views.{View, view_of, cov, over_of, header_over, claims_of, tally, claims_over}
use Rattle.tables.specs.Withheld.{withheld_over}
use Rattle.tables.specs.Rules.R6.{R6, Shape}
use Rattle.tables.specs.Rules.R7.{Owned, R7}
use Rattle.marks.specs.Marks.{Piece, mark_at, word_at, MarksAdded, MarksAre, Adds, over_first, over_tables, TableFits, Agrees}
use Rattle.tables.proofs.IndexLaws.{length_table, slots_in}
use Rattle.marks.proofs.PieceLaws.{bit_low, bit_high, word_same}
use Rattle.tables.proofs.PointerLaws.{cov_none, cov_join, header_over_lem, header_other, claimed_inside}

-- ---- what was marked, on each way on from it

adds_true : (r : Bool) (m m' : List ℕ) (D : ℕ → ℕ) → Adds r m m' D → not r ≡ false → MarksAdded m m' D
adds_true true m m' D a e = a
adds_true false m m' D a e = absurd (let z : ◌≡◌ {A = ℕ} 0 1 = cc in omega arith)

adds_false : (r : Bool) (m m' : List ℕ) (D : ℕ → ℕ) → Adds r m m' D → not r ≡ true → ((n : ℕ) → mark_at m n + D n ≤ 1) → ⊥
adds_false true m m' D a e = absurd (let z : ◌≡◌ {A = ℕ} 0 1 = cc in omega arith)
adds_false false m m' D a e = a

-- ---- a run, piece by piece

pub run_none : (m : List ℕ) (from : ℕ) → MarksAdded m m (cov from 0)
run_none m from = record { len = refl; bits = λ n. omega (arith, cov_none from n) }

pub run_more : (r : Bool) (m₀ m m' : List ℕ) (from i w : ℕ) → MarksAdded m₀ m (cov from i) → Adds r m m' (cov (from + i) w) → not r ≡ false → MarksAdded m₀ m' (cov from (i + w))
run_more r m₀ m m' from i w a q e =
    let x = adds_true r m m' _ q e in
    record { len = x.len ∙ a.len; bits = λ n. omega (arith, x.bits n, a.bits n, cov_join from i w n) }

pub run_stop : (r : Bool) (m₀ m m' : List ℕ) (from count i w : ℕ) → MarksAdded m₀ m (cov from i) → i < count → Piece (from + i) (count - i) w → Adds r m m' (cov (from + i) w) → not r ≡ true
    → Adds false m₀ m' (cov from count)
run_stop r m₀ m m' from count i w a l p q e h =
    adds_false r m m' _ q e (λ n. omega (arith, h n, a.bits n, cov_join from i (count - i) n, cov_join (from + i) w (count - i - w) n, whole n, part n))
  where
    whole : (n : ℕ) → cov from count n ≡ cov from (i + (count - i)) n
    whole n = ap (λ (c : ℕ). cov from c n) (let g : count ≡ i + (count - i) = omega arith in g)

    part : (n : ℕ) → cov (from + i) (count - i) n ≡ cov (from + i) (w + (count - i - w)) n
    part n = ap (λ (c : ℕ). cov (from + i) c n) (let g : count - i ≡ w + (count - i - w) = omega (arith, p.few) in g)

pub run_end : (m₀ m : List ℕ) (from count i : ℕ) → MarksAdded m₀ m (cov from i) → i ≤ count → count ≤ i → Adds true m₀ m (cov from count)
run_end m₀ m from count i a h l = let e : i ≡ count = omega arith in rw e at a

-- ---- a table, pointer by pointer

pub first_none : (t : List ℕ) (base : ℕ) (m : List ℕ) → MarksAdded m m (over_first t base 0)
unfolding over_first sum_to
first_none t base m = record { len = refl; bits = λ n. omega arith }

pub still_long : (i : ℕ) (t m₀ m : List ℕ) (D : ℕ → ℕ) → MarksAdded m₀ m D → TableFits i t (length m₀) → length m ≡ 4096
still_long i t m₀ m D a f = a.len ∙ f.long

-- a pointer stands within its table
pub slot_in : (i : ℕ) (t : List ℕ) (base slots j : ℕ) → base ≡ base_of i t → slots ≡ slots_of i t → j < slots → base + 6 * j + 6 ≤ 128
slot_in i t base slots j eb es l = omega (arith, slots_in i t)

-- a pointer that is read ends within the marks
pub pointer_room : (i : ℕ) (t : List ℕ) (len base slots j : ℕ) (q : Pointer) → TableFits i t len → base ≡ base_of i t → slots ≡ slots_of i t → j < slots → q ≡ pointer_at t (base + 6 * j)
    → q.start.0 + q.count ≤ 262144
pointer_room i t len base slots j q f eb es l e = rw (e, eb) (f.fit j (omega arith))

module _ (t : List ℕ) (m₀ m : List ℕ) (base j : ℕ) (a : MarksAdded m₀ m (over_first t base j)) where
  module _ (q : Pointer) (eq : q ≡ pointer_at t (base + 6 * j)) where
    start_is : q.start.0 ≡ u32_at t (base + 6 * j)
    start_is = ap (λ (p : Pointer). p.start.0) eq

    count_is : q.count ≡ u16_at t (base + 6 * j + 4)
    count_is = ap (λ (p : Pointer). p.count) eq

    pub first_more : (r : Bool) (m' : List ℕ) → Adds r m m' (cov q.start.0 q.count) → not r ≡ false → MarksAdded m₀ m' (over_first t base (j + 1))
    unfolding over_first
    first_more r m' d e =
        let x = rw (start_is, count_is) at (adds_true r m m' _ d e) in
        record { len = x.len ∙ a.len; bits = λ n. omega (arith, x.bits n, a.bits n, sum_more j (λ j. cov (u32_at t (base + 6 * j)) (u16_at t (base + 6 * j + 4)) n)) }

    module _ (i slots : ℕ) (eb : base ≡ base_of i t) (es : slots ≡ slots_of i t) (l : j < slots) where
      pub first_stop : (r : Bool) (m' : List ℕ) → Adds r m m' (cov q.start.0 q.count) → not r ≡ true → Adds false m₀ m' (over_of i t)
      unfolding over_first over_of
      first_stop r m' d e h =
          adds_false r m m' _ d e
          (λ n. rw (start_is, count_is) (omega (arith, rw (← eb, ← es) at (h n), a.bits n, sum_upto slots j (λ j. cov (u32_at t (base + 6 * j)) (u16_at t (base + 6 * j + 4)) n) l)))

      -- at a pointer with no sectors there are no more marks to add
      pub first_rest : TableFits i t (length m₀) → q.count ≡ 0 → Adds true m₀ m (over_of i t)
      unfolding over_first over_of
      first_rest f z = record {
        len = a.len;
        bits = λ n. rw (← eb, ← es) (omega (arith, a.bits n, cut n, sum_cut j (slots - j) (over n), none n));
      }
        where
          over : ℕ → ℕ → ℕ
          over n j = cov (u32_at t (base + 6 * j)) (u16_at t (base + 6 * j + 4)) n

          cut : (n : ℕ) → sum_to slots (over n) ≡ sum_to (j + (slots - j)) (over n)
          cut n = ap (λ (k : ℕ). sum_to k (over n)) (let g : slots ≡ j + (slots - j) = omega arith in g)

          none : (n : ℕ) → sum_to (slots - j) (λ k. over n (j + k)) ≡ 0
          none n = sum_zero (slots - j) _ (λ k lk. rw (rw (← eb) at (f.rest j (rw (← eb) (sym count_is ∙ z)) (j + k) (omega arith) (omega arith))) (cov_none _ n))

  pub first_end : (i slots : ℕ) → base ≡ base_of i t → slots ≡ slots_of i t → j ≤ slots → slots ≤ j → Adds true m₀ m (over_of i t)
  unfolding over_first over_of
  first_end i slots eb es h l = let e : j ≡ slots_of i t = omega arith in rw (e, eb) at a

-- ---- a table's header, after its pointers

-- a parent's header ends within the marks; another table has none
module _ (i : ℕ) (t : List ℕ) (w : ℕ) (ew : w ≡ word_of t) where
  pub header_room : (len : ℕ) (q : Pointer) → TableFits i t len → w ≡ i → q ≡ pointer_at t 58 → q.start.0 + q.count ≤ 262144
  header_room len q f e at = rw at (f.header (sym ew ∙ e))

  pub header_skip : (m : List ℕ) → (w ≡ i → ⊥) → Adds true m m (header_over i t)
  header_skip m ne = record { len = refl; bits = λ n. omega (arith, header_other i t n (λ e. ne (ew ∙ e))) }

  pub header_adds : (r : Bool) (m m' : List ℕ) (q : Pointer) → w ≡ i → q ≡ pointer_at t 58 → Adds r m m' (cov q.start.0 q.count) → Adds r m m' (header_over i t)
  header_adds r m m' q e at a = go r (rw at at a)
    where
      same : (n : ℕ) → header_over i t n ≡ cov (header_start t) (header_count t) n
      same n = header_over_lem i t n (sym ew ∙ e)

      go : (r : Bool) → Adds r m m' (cov (header_start t) (header_count t)) → Adds r m m' (header_over i t)
      go true x = record { len = x.len; bits = λ n. omega (arith, x.bits n, same n) }
      go false x = λ h. x (λ n. omega (arith, h n, same n))

-- the two steps
module _ (i : ℕ) (t m₀ m : List ℕ) where
  pub claims_stop : (r : Bool) → r ≡ false → Adds r m₀ m (over_of i t) → Adds r m₀ m (claims_of i t)
  unfolding claims_of
  claims_stop true e a = absurd (let z : ◌≡◌ {A = ℕ} 0 1 = cc in omega arith)
  claims_stop false e a = λ h. a (λ n. omega (arith, h n))

  pub claims_more : MarksAdded m₀ m (over_of i t) → (s : Bool) (m' : List ℕ) → Adds s m m' (header_over i t) → Adds s m₀ m' (claims_of i t)
  unfolding claims_of
  claims_more x true m' d = record { len = d.len ∙ x.len; bits = λ n. omega (arith, d.bits n, x.bits n) }
  claims_more x false m' d = λ h. d (λ n. omega (arith, h n, x.bits n))

-- ---- R6 gives that what a table owns fits, and that none of it lies in zone 1 or Z

module _ (v : View) (i : ℕ) (shape : Shape v i (v.table i)) where
  fit : v.zones ≤ 256 → (j : ℕ) → j < slots_of i (v.table i) → start_of i (v.table i) j + count_of i (v.table i) j ≤ 262144
  fit z j l = elim (dec_lt 0 (start_of i (v.table i) j + count_of i (v.table i) j)) [ yes u ↦ omega (arith, (shape.used j l u).high) | no u ↦ omega arith ]

  header_fit : v.zones ≤ 256 → word_of (v.table i) ≡ i → header_start (v.table i) + header_count (v.table i) ≤ 262144
  header_fit z e = elim (dec_lt 0 (header_start (v.table i) + header_count (v.table i))) [ yes u ↦ omega (arith, ((shape.header e).run u).high) | no u ↦ omega arith ]

  -- after an unused pointer all are unused
  unused : (j : ℕ) → count_of i (v.table i) j ≡ 0 → (k : ℕ) → j + k < slots_of i (v.table i) → Used i (v.table i) (j + k) → ⊥
  unused j z zero l u = omega (arith, (shape.used (j + 0) l u).some, ap (count_of i (v.table i)) (let e : j + 0 ≡ j = omega arith in e))
  unused j z (suc k) l u =
      let e : j + suc k ≡ suc (j + k) = omega arith in
      unused j z k (omega arith) (shape.first (j + k) (omega arith) (rw e at u))

  rest : (j : ℕ) → count_of i (v.table i) j ≡ 0 → (k : ℕ) → k < slots_of i (v.table i) → j ≤ k → count_of i (v.table i) k ≡ 0
  rest j z k l h = elim (dec_lt 0 (count_of i (v.table i) k)) [
    | yes u ↦ (let e : j + (k - j) ≡ k = omega arith in absurd ((rw e at (unused j z (k - j))) l (omega arith)))
    | no u ↦ omega arith
  ]

module _ (p : Places) (b : List ℕ) (lay : Layout p (length b)) (r6 : R6 (view_of p b)) where
  pub table_fits : (i len : ℕ) (t : List ℕ) → 1 ≤ i → i ≤ p.indexes → t ≡ table_at p b i → len ≡ 4096 → TableFits i t len
  table_fits i len t lo hi e el =
      let shape = r6 i (omega arith) lo in
      rw e (record {
        size = length_table p b i lay lo hi;
        long = el;
        fit = fit (view_of p b) i shape lay.most;
        rest = rest (view_of p b) i shape;
        header = header_fit (view_of p b) i shape lay.most;
      })

  outside : (n : ℕ) → (n < 1024) ⊎ (1024 * (p.zones - 1) ≤ n) → claims_over (view_of p b) n ≡ 0
  outside n d = elim (dec_lt 0 (claims_over (view_of p b) n)) [
    | yes h ↦ (let x = claimed_inside (view_of p b) r6 n h in ⊎_elim (λ l. absurd (omega (arith, x.0))) (λ l. absurd (omega (arith, x.1))) d)
    | no h ↦ omega arith
  ]

  -- ---- the rule, from the marks

  -- by R7 no sector is marked twice, also with marks that were there before
  rule_fits : {extra : ℕ → ℕ} → Owned (view_of p b) extra → (n : ℕ) → extra n ≤ 1 → extra n + claims_over (view_of p b) n ≤ 1
  rule_fits rule n most = elim (dec_lt n 1024) [
    | yes h ↦ omega (arith, outside n (inl h))
    | no h ↦ elim (dec_lt n (1024 * (p.zones - 1))) [
      | yes g ↦ omega (arith, rule.count n g (omega arith), bit_at_lt b p.sectortable n)
      | no g ↦ omega (arith, outside n (inr (omega arith)))
    ]
  ]

-- ---- all tables

module _ (v : View) where
  pub tables_none : (m : List ℕ) → MarksAdded m m (over_tables v 0)
  unfolding over_tables sum_to
  tables_none m = record { len = refl; bits = λ n. omega arith }

  module _ (r : Bool) (m₀ m m' : List ℕ) (k : ℕ) (a : MarksAdded m₀ m (over_tables v k)) (t : List ℕ) (e : t ≡ v.table (k + 1)) (d : Adds r m m' (claims_of (k + 1) t)) where
    pub tables_more : not r ≡ false → MarksAdded m₀ m' (over_tables v (k + 1))
    unfolding over_tables
    tables_more g =
        let x = rw e at (adds_true r m m' _ d g) in
        record { len = x.len ∙ a.len; bits = λ n. omega (arith, x.bits n, a.bits n, sum_more k (λ k. claims_of (k + 1) (v.table (k + 1)) n)) }

    pub tables_stop : k < v.indexes → not r ≡ true → Adds false m₀ m' (claims_over v)
    unfolding over_tables claims_over tally
    tables_stop l g h = adds_false r m m' _ d g (λ n. rw e (omega (arith, h n, a.bits n, sum_upto v.indexes k (λ k. claims_of (k + 1) (v.table (k + 1)) n) l)))

  pub tables_end : (m₀ m : List ℕ) (k : ℕ) → MarksAdded m₀ m (over_tables v k) → k ≤ v.indexes → v.indexes ≤ k → Adds true m₀ m (claims_over v)
  unfolding over_tables claims_over tally
  tables_end m₀ m k a h l = let e : k ≡ v.indexes = omega arith in rw e at a

-- ---- words compared for bits

module _ (b : List ℕ) (small : (j : ℕ) → get_or b j 0 < 256) where
  -- a byte within a number
  byte_of : (h x l k j : ℕ) → x < 256 → l < 2 ^ k → j < 8 → bit_of ((h * 256 + x) * 2 ^ k + l) (k + j) ≡ bit_of x j
  byte_of h x l k j hx hl hj = bit_high (h * 256 + x) l k j hl ∙ bit_low h x 8 j hx hj

  four_bit : (o q j : ℕ) → q < 4 → j < 8 → bit_of (u32_at b o) (8 * (3 - q) + j) ≡ bit_of (get_or b (o + q) 0) j
  unfolding u32_at
  four_bit o zero j lq lj =
      let e : get_or b o 0 * 16777216 + get_or b (o + 1) 0 * 65536 + get_or b (o + 2) 0 * 256 + get_or b (o + 3) 0 ≡ (0 * 256 + get_or b o 0) * 2 ^ 24 + (get_or b (o + 1) 0 * 65536 + get_or b (o + 2) 0 * 256 + get_or b (o + 3) 0) = omega arith in
      let z : o ≡ o + 0 = omega arith in
      ap (λ (n : ℕ). bit_of n (24 + j)) e ∙ byte_of 0 (get_or b o 0) (get_or b (o + 1) 0 * 65536 + get_or b (o + 2) 0 * 256 + get_or b (o + 3) 0) 24 j (small o) (omega (arith, small (o + 1), small (o + 2), small (o + 3))) lj
      ∙ ap (λ (n : ℕ). bit_of (get_or b n 0) j) z
  four_bit o (suc zero) j lq lj =
      let e : get_or b o 0 * 16777216 + get_or b (o + 1) 0 * 65536 + get_or b (o + 2) 0 * 256 + get_or b (o + 3) 0 ≡ (get_or b o 0 * 256 + get_or b (o + 1) 0) * 2 ^ 16 + (get_or b (o + 2) 0 * 256 + get_or b (o + 3) 0) = omega arith in
      ap (λ (n : ℕ). bit_of n (16 + j)) e ∙ byte_of (get_or b o 0) (get_or b (o + 1) 0) (get_or b (o + 2) 0 * 256 + get_or b (o + 3) 0) 16 j (small (o + 1)) (omega (arith, small (o + 2), small (o + 3))) lj
  four_bit o (suc (suc zero)) j lq lj =
      let e : get_or b o 0 * 16777216 + get_or b (o + 1) 0 * 65536 + get_or b (o + 2) 0 * 256 + get_or b (o + 3) 0 ≡ ((get_or b o 0 * 256 + get_or b (o + 1) 0) * 256 + get_or b (o + 2) 0) * 2 ^ 8 + get_or b (o + 3) 0 = omega arith in
      ap (λ (n : ℕ). bit_of n (8 + j)) e ∙ byte_of (get_or b o 0 * 256 + get_or b (o + 1) 0) (get_or b (o + 2) 0) (get_or b (o + 3) 0) 8 j (small (o + 2)) (small (o + 3)) lj
  four_bit o (suc (suc (suc zero))) j lq lj =
      let e : get_or b o 0 * 16777216 + get_or b (o + 1) 0 * 65536 + get_or b (o + 2) 0 * 256 + get_or b (o + 3) 0 ≡ ((get_or b o 0 * 256 + get_or b (o + 1) 0) * 256 + get_or b (o + 2) 0) * 2 ^ 8 + get_or b (o + 3) 0 = omega arith in
      let z : 0 + j ≡ j = omega arith in
      ap₂ bit_of e z ∙ bit_low ((get_or b o 0 * 256 + get_or b (o + 1) 0) * 256 + get_or b (o + 2) 0) (get_or b (o + 3) 0) 8 j (small (o + 3)) lj
  four_bit o (suc (suc (suc (suc q)))) j lq lj = absurd (omega arith)

  -- bit n of the eight bytes, counted as in a table of bits
  word_bit : (o n : ℕ) → n < 64 → bit_of (word_at b o) (63 - n) ≡ bit_of (get_or b (o + n / 8) 0) (7 - n % 8)
  unfolding word_at
  word_bit o n l =
      let hl = u32_lt b (o + 4) small in
      elim (dec_lt n 32) [
        | yes h ↦ (let e : 63 - n ≡ 32 + (8 * (3 - n / 8) + (7 - n % 8)) = omega arith in
            ap (bit_of (u32_at b o * 4294967296 + u32_at b (o + 4))) e ∙ bit_high (u32_at b o) (u32_at b (o + 4)) 32 (8 * (3 - n / 8) + (7 - n % 8)) hl ∙ four_bit o (n / 8) (7 - n % 8) (omega arith) (omega arith))
        | no h ↦ (let e : 63 - n ≡ 8 * (3 - (n / 8 - 4)) + (7 - n % 8) = omega arith in
            let f : o + 4 + (n / 8 - 4) ≡ o + n / 8 = omega arith in
            ap (bit_of (u32_at b o * 4294967296 + u32_at b (o + 4))) e ∙ bit_low (u32_at b o) (u32_at b (o + 4)) 32 (8 * (3 - (n / 8 - 4)) + (7 - n % 8)) hl (omega arith) ∙ four_bit (o + 4) (n / 8 - 4) (7 - n % 8) (omega arith) (omega arith) ∙ ap (λ (i : ℕ). bit_of (get_or b i 0) (7 - n % 8)) f)
      ]

  word_lt : (o : ℕ) → word_at b o < 2 ^ 64
  unfolding word_at
  word_lt o = omega (arith, u32_lt b o small, u32_lt b (o + 4) small)

  -- the sector table's bits by its words
  table_bit : (base s : ℕ) → bit_of (word_at b (base + 8 * (s / 64))) (63 - s % 64) ≡ bit_at b base s
  unfolding bit_at
  table_bit base s =
      let e : base + 8 * (s / 64) + s % 64 / 8 ≡ base + s / 8 = omega arith in
      let f : s % 64 % 8 ≡ s % 8 = omega arith in
      rw (e, f) at (word_bit (base + 8 * (s / 64)) (s % 64) (omega arith))

  module _ (p : Places) (m : List ℕ) where
    agrees_stop : (k x : ℕ) → ((j : ℕ) → get_or m j 0 < 2 ^ 64) → 16 ≤ k → k < 16 * (p.zones - 1) → x ≡ word_at b (p.sectortable + 8 * k) → (x ≡ get_or m k 0 → ⊥) → Agrees p b m → ⊥
    unfolding mark_at
    agrees_stop k x hm lo hi e ne h = ne (e ∙ word_same (word_at b (p.sectortable + 8 * k)) (get_or m k 0) (word_lt (p.sectortable + 8 * k)) (hm k) (λ j l. bit j l))
      where
        bit : (j : ℕ) → j < 64 → bit_of (word_at b (p.sectortable + 8 * k)) j ≡ bit_of (get_or m k 0) j
        bit j l =
            let e₁ : (64 * k + (63 - j)) / 64 ≡ k = omega arith in
            let e₂ : 63 - (64 * k + (63 - j)) % 64 ≡ j = omega arith in
            rw (e₁, e₂) at (table_bit p.sectortable (64 * k + (63 - j)) ∙ sym (h (64 * k + (63 - j)) (omega arith) (omega arith)))

    agrees_end : (k : ℕ) → 16 * (p.zones - 1) ≤ k → ((j : ℕ) → j < k → 16 ≤ j → word_at b (p.sectortable + 8 * j) ≡ get_or m j 0) → Agrees p b m
    unfolding mark_at
    agrees_end k l h s hi lo = ap (λ (n : ℕ). bit_of n (63 - s % 64)) (sym (h (s / 64) (omega arith) (omega arith))) ∙ table_bit p.sectortable s

    -- the words of the zones between are gone through
    abbrev words : List ℕ
    words = range_with_len 16 (16 * (p.zones - 1) - 16)

    pub agrees_says : ((j : ℕ) → get_or m j 0 < 2 ^ 64) → (r : Bool)
        → MatchBool r (AllWithin (λ j. word_at b (p.sectortable + 8 * j) ≡ get_or m j 0) words 0 (length words)) ((k : ℕ) × (k < length words) × HoldsAt (λ j. word_at b (p.sectortable + 8 * j) ≢ get_or m j 0) words k)
        → Says r (Agrees p b m)
    agrees_says hm true h = agrees_end (16 * (p.zones - 1)) (omega arith) (λ j l lo. rw (at j l lo) at (h (j - 16) 0 (omega arith) (omega (arith, length-range_with_len 16 (16 * (p.zones - 1) - 16)))))
      where
        at : (j : ℕ) → j < 16 * (p.zones - 1) → 16 ≤ j → get_or words (j - 16) 0 ≡ j
        at j l lo = get_or-range_with_len 16 (16 * (p.zones - 1) - 16) (j - 16) 0 (omega arith) ∙ (let e : 16 + (j - 16) ≡ j = omega arith in e)
    agrees_says hm false h =
        let l : h.0 < 16 * (p.zones - 1) - 16 = omega (arith, h.1, length-range_with_len 16 (16 * (p.zones - 1) - 16)) in
        agrees_stop (16 + h.0) _ hm (omega arith) (omega arith) refl (rw (get_or-range_with_len 16 (16 * (p.zones - 1) - 16) h.0 0 l) at (h.2 0))

-- ---- R7

pub zeros_clear : (k n : ℕ) → mark_at (replicate k 0) n ≡ 0
unfolding mark_at bit_of
zeros_clear k n = rw (get_d_zeros k (n / 64), zero-div (2 ^ (63 - n % 64)))

-- a mark is 0 or 1
pub mark_one : (m : List ℕ) (n : ℕ) → mark_at m n ≤ 1
unfolding mark_at
mark_one m n = omega (arith, bit_lt (get_or m (n / 64) 0) (63 - n % 64))

pub owned_stop : (p : Places) (b m₀ m : List ℕ) (d : Bool) → d ≡ false → Adds d m₀ m (claims_over (view_of p b)) → Layout p (length b) → R6 (view_of p b) → Says d (Owned (view_of p b) (mark_at m₀))
owned_stop p b m₀ m true e a lay r6 = absurd (let z : ◌≡◌ {A = ℕ} 0 1 = cc in omega arith)
owned_stop p b m₀ m false e a lay r6 = λ rule. a (λ n. rule_fits p b lay r6 rule n (mark_one m₀ n))

-- what is set besides may be said in another way
owned_same : {v : View} {x y : ℕ → ℕ} → ((s : ℕ) → x s ≡ y s) → Owned v x → Owned v y
owned_same e r = record { count = λ s l lo. omega (arith, e s, r.count s l lo) }

pub rule_says : (v : View) (withheld m : List ℕ) (r : Bool) → MarksAre m (withheld_over v withheld) → Says r (Owned v (mark_at m)) → Says r (R7 v withheld)
rule_says v withheld m r are s = says_map r (owned_same (λ n. are.bits n)) (owned_same (λ n. sym (are.bits n))) s
