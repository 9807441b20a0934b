-- The bytes of one index table: what is read of it where a pointer, a link or nothing but its head has been written.
use mathlib.Core.Path.{◌≡◌, refl, sym, ◌∙◌}
use mathlib.Core.Logic.{◌≢◌, inl, inr, ⊎_elim}
use mathlib.Core.List.{List}
use Prim.Native.Nat.{ℕ, ◌+◌, ◌*◌, ◌≤◌, ◌<◌}
use native.Mathlib.Decide.{dec_lt}
use native.Mathlib.Omega.{arith}
use lib.ListN.{get_or, length, replicate, length-replicate, get_or-eq_default}
use Rattle.field.specs.Numbers.{u16_at, u32_at, put_u16, put_u32}
use Rattle.field.specs.Kept.{Kept, Apart}
use Rattle.field.specs.Parts.{over}
use Rattle.field.proofs.Frames.{kept_trans, kept_wider}
use Rattle.field.proofs.NumberLaws.{u16_kept, u32_kept, kept_put_u16, kept_put_u32, u16_put_same, u32_put_same, get_d_zeros, u16_zeros, u32_zeros}
use Rattle.field.proofs.PartLaws.{kept_over, over_part, same_at}
use Rattle.tables.specs.declared.index.Pointer.{Pointer}
use Rattle.tables.specs.Indexes.{word_of, parent_of, length_of, attribute_of, minus, slots_of, base_of, start_of, count_of, file_of, pointer_at}
use Rattle.tables.proofs.IndexLaws.{slots_in, base_low}
use Rattle.allocation.specs.NewTables.{New}
use Rattle.allocation.specs.Steps.{with_pointer, child_bytes, parent_bytes}

-- ---- a table of which a part is written: what its number, its kind and its pointers read

module _ (i : ℕ) (t t' : List ℕ) (word : word_of t' ≡ word_of t) where
  pub slots_word : slots_of i t' ≡ slots_of i t
  unfolding slots_of
  slots_word = rw word

  pub base_word : base_of i t' ≡ base_of i t
  unfolding base_of
  base_word = rw word

  pub file_word : parent_of t' ≡ parent_of t → file_of i t' ≡ file_of i t
  unfolding file_of
  file_word parent = rw (word, parent)

module _ (i : ℕ) {t t' : List ℕ} {o n : ℕ} (k : Kept t t' o n) (behind : 8 ≤ o) where
  pub word_kept : word_of t' ≡ word_of t
  word_kept = u32_kept 0 k (inl (omega arith))

  pub parent_kept : parent_of t' ≡ parent_of t
  parent_kept = u32_kept 4 k (inl (omega arith))

  pub slots_kept : slots_of i t' ≡ slots_of i t
  slots_kept = slots_word i t t' word_kept

  pub base_kept : base_of i t' ≡ base_of i t
  base_kept = base_word i t t' word_kept

  pub file_kept : file_of i t' ≡ file_of i t
  file_kept = file_word i t t' word_kept parent_kept

  pub start_kept : (j : ℕ) → Apart (base_of i t + 6 * j) 6 o n → start_of i t' j ≡ start_of i t j
  start_kept j a = rw base_kept (u32_kept (base_of i t + 6 * j) k (⊎_elim (λ h. inl (omega arith)) (λ h. inr (omega arith)) a))

  pub count_kept : (j : ℕ) → Apart (base_of i t + 6 * j) 6 o n → count_of i t' j ≡ count_of i t j
  count_kept j a = rw base_kept (u16_kept (base_of i t + 6 * j + 4) k (⊎_elim (λ h. inl (omega arith)) (λ h. inr (omega arith)) a))

-- ---- a pointer is written

pub kept_pointer : (t : List ℕ) (at : ℕ) (q : Pointer) → Kept t (with_pointer t at q) at 6
kept_pointer t at q =
    kept_trans (kept_wider {p = at} {m = 6} (kept_put_u32 t at q.start.0) (omega arith) (omega arith))
    (kept_wider {p = at} {m = 6} (kept_put_u16 (put_u32 t at q.start.0) (at + 4) q.count) (omega arith) (omega arith))

module _ (t : List ℕ) (at : ℕ) (q : Pointer) (long : length t ≡ 128) (fits : at + 6 ≤ 128) where
  pub pointer_start : u32_at (with_pointer t at q) at ≡ q.start.0
  pointer_start = u32_kept at (kept_put_u16 (put_u32 t at q.start.0) (at + 4) q.count) (inl (omega arith)) ∙ u32_put_same t at q.start.0 (omega arith)

  pub pointer_count : u16_at (with_pointer t at q) (at + 4) ≡ q.count
  pointer_count = u16_put_same (put_u32 t at q.start.0) (at + 4) q.count (omega (arith, (kept_put_u32 t at q.start.0).len))

  pub pointer_read : q ≡ pointer_at (with_pointer t at q) at
  pointer_read = sym (rw (pointer_start, pointer_count))

-- it is the table's pointer j: that one reads q, the others stay
module _ (i at j : ℕ) (t t' : List ℕ) (q : Pointer) (is : t' ≡ with_pointer t at q) (place : at ≡ base_of i t + 6 * j) where
  kept : Kept t t' at 6
  kept = rw is (kept_pointer t at q)

  behind : 8 ≤ at
  behind = omega (arith, base_low i t)

  pub start_others : (n : ℕ) → n ≢ j → start_of i t' n ≡ start_of i t n
  start_others n ne = start_kept i kept behind n (elim (dec_lt n j) [ yes h ↦ inl (omega arith) | no h ↦ inr (omega arith) ])

  pub count_others : (n : ℕ) → n ≢ j → count_of i t' n ≡ count_of i t n
  count_others n ne = count_kept i kept behind n (elim (dec_lt n j) [ yes h ↦ inl (omega arith) | no h ↦ inr (omega arith) ])

  pub at_slot : base_of i t' + 6 * j ≡ at
  at_slot = omega (arith, base_kept i kept behind)

  module _ (long : length t ≡ 128) (slot : j < slots_of i t) where
    pub start_slot : start_of i t' j ≡ q.start.0
    start_slot = rw (at_slot, is) (pointer_start t at q long (omega (arith, slots_in i t)))

    pub count_slot : count_of i t' j ≡ q.count
    count_slot = rw (at_slot, is) (pointer_count t at q long (omega (arith, slots_in i t)))

-- ---- a child without pointers

module _ (x f : ℕ) where
  pub kept_child : Kept (replicate 128 0) (child_bytes x f) 0 8
  kept_child =
      kept_trans (kept_wider {p = 0} {m = 8} (kept_put_u32 (replicate 128 0) 0 (minus x)) (omega arith) (omega arith))
      (kept_wider {p = 0} {m = 8} (kept_put_u32 (put_u32 (replicate 128 0) 0 (minus x)) 4 f) (omega arith) (omega arith))

  pub child_length : length (child_bytes x f) ≡ 128
  child_length = kept_child.len ∙ length-replicate {A = ℕ} 128 0

  pub child_word : word_of (child_bytes x f) ≡ minus x
  child_word =
      u32_kept 0 (kept_put_u32 (put_u32 (replicate 128 0) 0 (minus x)) 4 f) (inl (omega arith))
      ∙ u32_put_same (replicate 128 0) 0 (minus x) (omega (arith, length-replicate {A = ℕ} 128 0))

  pub child_parent : parent_of (child_bytes x f) ≡ f
  child_parent =
      u32_put_same (put_u32 (replicate 128 0) 0 (minus x)) 4 f
      (omega (arith, (kept_put_u32 (replicate 128 0) 0 (minus x)).len, length-replicate {A = ℕ} 128 0))

  pub child_zero32 : (o : ℕ) → 8 ≤ o → u32_at (child_bytes x f) o ≡ 0
  child_zero32 o l = u32_kept o kept_child (inr l) ∙ u32_zeros 128 o

  pub child_zero16 : (o : ℕ) → 8 ≤ o → u16_at (child_bytes x f) o ≡ 0
  child_zero16 o l = u16_kept o kept_child (inr l) ∙ u16_zeros 128 o

-- ---- a parent without pointers

module _ (x : ℕ) (n : New) (name : length n.name ≤ 24) (date : length n.date ≡ 6) where
  module _ (a b c d e f : List ℕ) (ea : a ≡ put_u32 (replicate 128 0) 0 x) (eb : b ≡ over a 4 n.name) (ec : c ≡ over b 28 n.date) (ed : d ≡ over c 34 n.date)
      (ee : e ≡ put_u32 d 40 n.length) (ef : f ≡ put_u16 e 44 n.attribute) where
    id_kept : Kept (replicate 128 0) a 0 4
    id_kept = rw ea (kept_put_u32 (replicate 128 0) 0 x)

    size_a : length a ≡ 128
    size_a = id_kept.len ∙ length-replicate {A = ℕ} 128 0

    name_kept : Kept a b 4 (length n.name)
    name_kept = rw eb (kept_over a 4 n.name (omega (arith, size_a)))

    created_kept : Kept b c 28 6
    created_kept = rw (date, ← ec) at (kept_over b 28 n.date (omega (arith, size_a, name_kept.len)))

    changed_kept : Kept c d 34 6
    changed_kept = rw (date, ← ed) at (kept_over c 34 n.date (omega (arith, size_a, name_kept.len, created_kept.len)))

    long_kept : Kept d e 40 4
    long_kept = rw ee (kept_put_u32 d 40 n.length)

    attribute_kept : Kept e f 44 2
    attribute_kept = rw ef (kept_put_u16 e 44 n.attribute)

    rest_kept : Kept a f 4 42
    rest_kept =
        kept_trans (kept_wider name_kept (omega arith) (omega arith)) (kept_trans (kept_wider created_kept (omega arith) (omega arith))
        (kept_trans (kept_wider changed_kept (omega arith) (omega arith))
        (kept_trans (kept_wider long_kept (omega arith) (omega arith)) (kept_wider attribute_kept (omega arith) (omega arith)))))

    -- what is written from byte 40 on leaves what stands before it
    before : (o : ℕ) → o < 40 → get_or f o 0 ≡ get_or d o 0
    before o l = attribute_kept.out o (inl (omega arith)) ∙ long_kept.out o (inl (omega arith))

    named : (k : ℕ) → k < 24 → get_or f (4 + k) 0 ≡ get_or n.name k 0
    named k l =
        before (4 + k) (omega arith) ∙ changed_kept.out (4 + k) (inl (omega arith)) ∙ created_kept.out (4 + k) (inl (omega arith)) ∙
        elim (dec_lt k (length n.name)) [
          | yes h ↦ rw eb (same_at (over a 4 n.name) n.name 4 (over_part a 4 n.name (omega (arith, size_a))) k h)
          | no h ↦ name_kept.out (4 + k) (inr (omega arith)) ∙ id_kept.out (4 + k) (inr (omega arith)) ∙ get_d_zeros 128 (4 + k) ∙ sym (get_or-eq_default n.name 0 (omega arith))
        ]

    first_date : (k : ℕ) → k < 6 → get_or f (28 + k) 0 ≡ get_or n.date k 0
    first_date k l =
        before (28 + k) (omega arith) ∙ changed_kept.out (28 + k) (inl (omega arith))
        ∙ rw ec (same_at (over b 28 n.date) n.date 28 (over_part b 28 n.date (omega (arith, size_a, name_kept.len))) k (omega arith))

    second_date : (k : ℕ) → k < 6 → get_or f (34 + k) 0 ≡ get_or n.date k 0
    second_date k l =
        before (34 + k) (omega arith)
        ∙ rw ed (same_at (over c 34 n.date) n.date 34 (over_part c 34 n.date (omega (arith, size_a, name_kept.len, created_kept.len))) k (omega arith))

    long : length_of f ≡ n.length
    long = u32_kept 40 attribute_kept (inl (omega arith)) ∙ rw ee (u32_put_same d 40 n.length (omega (arith, size_a, name_kept.len, created_kept.len, changed_kept.len)))

    word : word_of f ≡ x
    word = u32_kept 0 rest_kept (inl (omega arith)) ∙ rw ea (u32_put_same (replicate 128 0) 0 x (omega (arith, length-replicate {A = ℕ} 128 0)))

    attribute : attribute_of f ≡ n.attribute
    attribute = rw ef (u16_put_same e 44 n.attribute (omega (arith, size_a, name_kept.len, created_kept.len, changed_kept.len, long_kept.len)))

    all_kept : Kept (replicate 128 0) f 0 46
    all_kept = kept_trans (kept_wider id_kept (omega arith) (omega arith)) (kept_wider rest_kept (omega arith) (omega arith))

  kept_parent : Kept (replicate 128 0) (parent_bytes x n) 0 46
  kept_parent = all_kept _ _ _ _ _ _ refl refl refl refl refl refl

  pub parent_length : length (parent_bytes x n) ≡ 128
  parent_length = kept_parent.len ∙ length-replicate {A = ℕ} 128 0

  pub parent_word : word_of (parent_bytes x n) ≡ x
  parent_word = word _ _ _ _ _ _ refl refl refl refl refl refl

  pub parent_name : (k : ℕ) → k < 24 → get_or (parent_bytes x n) (4 + k) 0 ≡ get_or n.name k 0
  parent_name = named _ _ _ _ _ _ refl refl refl refl refl refl

  pub parent_created : (k : ℕ) → k < 6 → get_or (parent_bytes x n) (28 + k) 0 ≡ get_or n.date k 0
  parent_created = first_date _ _ _ _ _ _ refl refl refl refl refl refl

  pub parent_changed : (k : ℕ) → k < 6 → get_or (parent_bytes x n) (34 + k) 0 ≡ get_or n.date k 0
  parent_changed = second_date _ _ _ _ _ _ refl refl refl refl refl refl

  pub parent_long : length_of (parent_bytes x n) ≡ n.length
  parent_long = long _ _ _ _ _ _ refl refl refl refl refl refl

  pub parent_attribute : attribute_of (parent_bytes x n) ≡ n.attribute
  parent_attribute = attribute _ _ _ _ _ _ refl refl refl refl refl refl

  pub parent_zero32 : (o : ℕ) → 46 ≤ o → u32_at (parent_bytes x n) o ≡ 0
  parent_zero32 o l = u32_kept o kept_parent (inr l) ∙ u32_zeros 128 o

  pub parent_zero16 : (o : ℕ) → 46 ≤ o → u16_at (parent_bytes x n) o ≡ 0
  parent_zero16 o l = u16_kept o kept_parent (inr l) ∙ u16_zeros 128 o
