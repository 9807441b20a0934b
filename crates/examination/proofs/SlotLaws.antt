-- A table's pointers, place by place: how a turn goes on, where it stops, and what the rest of the table then decides.
use mathlib.Core.Path.{◌≡◌, sym, ap, ◌∙◌}
use mathlib.Core.Bool.{Bool, true, false}
use Prim.Native.Nat.{ℕ, zero, suc, ◌+◌, ◌-◌, ◌*◌, ◌/◌, ◌%◌, ◌≤◌, ◌<◌}
use native.Mathlib.Nat.{add-suc, add-zero}
use native.Mathlib.Decide.{dec_lt}
use native.Mathlib.Omega.{arith}
use mathlib.Core.List.{List}
use lib.ListN.{get_or}
use Rattle.field.specs.Says.{Says}
use Rattle.field.specs.Numbers.{u16_at, u32_at}
use Rattle.field.specs.Parts.{AllBytes}
use Rattle.field.proofs.Tests.{says_true, says_map}
use Rattle.tables.specs.declared.index.Pointer.{Pointer}
use Rattle.tables.specs.declared.entry.Entry.{Entry}
use Rattle.tables.specs.Entries.{entry_of, is_parent}
use Rattle.tables.specs.Indexes.{word_of, pointer_at, slots_of, base_of, UsedAt}
use Rattle.tables.specs.Views.{View}
use Rattle.tables.specs.Rules.R6.{Shape, PointerLaw}
use Rattle.examination.specs.Slots.{SlotsLaw, Leading, Heads}
use Rattle.tables.proofs.KindLaws.{parent_word, not_parent}
use Rattle.tables.proofs.IndexLaws.{base_parent, slots_in}

-- ---- one pointer

six_of : (P : ℕ → Type 0) → P 0 → P 1 → P 2 → P 3 → P 4 → P 5 → (m : ℕ) → m < 6 → P m
six_of P a b c d e f zero l = a
six_of P a b c d e f (suc zero) l = b
six_of P a b c d e f (suc (suc zero)) l = c
six_of P a b c d e f (suc (suc (suc zero))) l = d
six_of P a b c d e f (suc (suc (suc (suc zero)))) l = e
six_of P a b c d e f (suc (suc (suc (suc (suc zero))))) l = f
six_of P a b c d e f (suc (suc (suc (suc (suc (suc m)))))) l = absurd (omega arith)

-- a pointer is zero exactly where its six bytes are
zero_bytes : (t : List ℕ) (o : ℕ) → (UsedAt t o → ⊥) → AllBytes t o 6 0
unfolding u16_at u32_at
zero_bytes t o un =
    let z : u32_at t o + u16_at t (o + 4) ≡ 0 = elim (dec_lt 0 (u32_at t o + u16_at t (o + 4))) [ yes l ↦ absurd (un l) | no l ↦ omega arith ] in
    let e : get_or t (o + 4 + 1) 0 ≡ get_or t (o + 5) 0 = ap (λ (x : ℕ). get_or t x 0) (omega arith) in
    let f : get_or t (o + 0) 0 ≡ get_or t o 0 = ap (λ (x : ℕ). get_or t x 0) (add-zero o) in
    six_of (λ m. get_or t (o + m) 0 ≡ 0) (omega arith) (omega arith) (omega arith) (omega arith) (omega arith) (omega arith)

bytes_zero : (t : List ℕ) (o : ℕ) → AllBytes t o 6 0 → UsedAt t o → ⊥
unfolding u16_at u32_at
bytes_zero t o all h =
    let e : get_or t (o + 4 + 1) 0 ≡ get_or t (o + 5) 0 = ap (λ (x : ℕ). get_or t x 0) (omega arith) in
    let f : get_or t (o + 0) 0 ≡ get_or t o 0 = ap (λ (x : ℕ). get_or t x 0) (add-zero o) in
    omega (arith, all 0 (omega arith), all 1 (omega arith), all 2 (omega arith), all 3 (omega arith), all 4 (omega arith), all 5 (omega arith))

-- what was read of it
module _ (t : List ℕ) (o : ℕ) (q : Pointer) (at : q ≡ pointer_at t o) where
  pub read_zero : q.start.0 + q.count ≡ 0 → UsedAt t o → ⊥
  read_zero e h = (let z : u32_at t o + u16_at t (o + 4) ≡ 0 = rw at at e in omega arith)

-- ---- the pointers of a table

module _ (v : View) (t : List ℕ) (at : ℕ) where
  -- after an unused pointer all bytes are null
  module _ (n j : ℕ) (l : j < n) (un : UsedAt t (at + 6 * j) → ⊥) where
    rest_unused : AllBytes t (at + 6 * j) (6 * (n - j)) 0 → (k : ℕ) → k < n → j ≤ k → UsedAt t (at + 6 * k) → ⊥
    rest_unused all k lk h =
        bytes_zero t (at + 6 * k) (λ m lm. let e : at + 6 * j + (6 * (k - j) + m) ≡ at + 6 * k + m = omega arith in rw e at (all (6 * (k - j) + m) (omega arith)))

    unused_on : SlotsLaw v t at n → (d : ℕ) → j + d < n → UsedAt t (at + 6 * (j + d)) → ⊥
    unused_on s zero ld f = un (rw add-zero at f)
    unused_on s (suc d) ld f =
        let e : j + suc d ≡ suc (j + d) = add-suc j d in
        unused_on s d (omega arith) (s.first (j + d) (omega arith) (rw e at f))

    rest_slots : Leading v t at j → AllBytes t (at + 6 * j) (6 * (n - j)) 0 → SlotsLaw v t at n
    rest_slots lead all = record {
      first = λ k lk f. elim (dec_lt (suc k) j) [ yes h ↦ (lead k (omega arith)).used | no h ↦ absurd (rest_unused all (suc k) lk (omega arith) f) ];
      used = λ k lk f. elim (dec_lt k j) [ yes h ↦ (lead k h).run | no h ↦ absurd (rest_unused all k lk (omega arith) f) ];
    }

    slots_rest : SlotsLaw v t at n → AllBytes t (at + 6 * j) (6 * (n - j)) 0
    slots_rest s m lm =
        let e : at + 6 * (j + m / 6) + m % 6 ≡ at + 6 * j + m = omega arith in
        rw e at (zero_bytes t (at + 6 * (j + m / 6)) (unused_on s (m / 6) (omega arith)) (m % 6) (omega arith))

  pub slots_says : (n j : ℕ) (q : Pointer) (u r : Bool) → Leading v t at j → j < n → q ≡ pointer_at t (at + 6 * j) → Says u (q.start.0 + q.count ≡ 0) → u ≡ true
      → Says r (AllBytes t (at + 6 * j) (6 * (n - j)) 0) → Says r (SlotsLaw v t at n)
  slots_says n j q u r lead l e s z =
      let un = read_zero t (at + 6 * j) q e (says_true u s z) in
      says_map r (rest_slots n j l un lead) (slots_rest n j l un)

-- ---- a table

-- all pointers stand before the link
pub slots_room : (i : ℕ) (t : List ℕ) (at n : ℕ) → at ≡ base_of i t → n ≡ slots_of i t → at + 6 * n ≤ 124
slots_room i t at n base slots = omega (arith, slots_in i t)

module _ (v : View) (i : ℕ) (t : List ℕ) where
  shape_heads : word_of t ≡ i → Shape v i t → Heads v t
  shape_heads e h = record { one = rw (base_parent i t e) at (h.one e); header = h.header e }

  shape_child : SlotsLaw v t (base_of i t) (slots_of i t) → (word_of t ≡ i → ⊥) → Shape v i t
  shape_child s ne = record { first = s.first; used = s.used; one = λ e. absurd (ne e); header = λ e. absurd (ne e) }

  shape_parent : SlotsLaw v t (base_of i t) (slots_of i t) → word_of t ≡ i → Heads v t → Shape v i t
  shape_parent s e h = record { first = s.first; used = s.used; one = λ w. rw (base_parent i t e) h.one; header = λ w. h.header }

module _ (v : View) (i : ℕ) (t : List ℕ) (at n : ℕ) (is : t ≡ v.table i) (base : at ≡ base_of i t) (slots : n ≡ slots_of i t) where
  -- by what the table is
  module _ (e : Entry) (c : Bool) (d : e ≡ entry_of i (v.table i)) (ask : c ≡ is_parent e.kind) (h : SlotsLaw v t at n) where
    pub table_child : 1 ≤ i → c ≡ false → PointerLaw v i
    table_child lo n = rw is at (shape_child v i t (rw (base, slots) at h) (λ w. not_parent i (v.table i) e d lo (sym ask ∙ n) (ap word_of (sym is) ∙ w)))

    pub table_says : (p : Bool) → c ≡ true → Says p (Heads v t) → Says p (PointerLaw v i)
    table_says p n =
        let o : word_of t ≡ i = ap word_of is ∙ parent_word i (v.table i) e d (sym ask ∙ n) in
        says_map p (λ x. rw is at (shape_parent v i t (rw (base, slots) at h) o x)) (λ law. shape_heads v i t o (rw is law))
