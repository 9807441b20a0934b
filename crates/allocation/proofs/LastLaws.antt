-- The end of a file's chain and of a table's pointers: step by step as the code comes to them, and that it is the end.
use mathlib.Core.Path.{◌≡◌, refl, sym, ap, ◌∙◌}
use mathlib.Core.Logic.{◌≢◌}
use mathlib.Core.Bool.{Bool, true≢false}
use mathlib.Core.List.{List}
use Prim.Native.Nat.{ℕ, zero, suc, ◌+◌, ◌-◌, ◌*◌, ◌≤◌, ◌<◌}
use native.Mathlib.Decide.{ℕ_discrete}
use native.Mathlib.Omega.{arith}
use lib.Dec.{eqb}
use borrow.Author.Tests.{eq-eqb, ne_eqb}
use Rattle.field.specs.Numbers.{u16_at, u32_at}
use Rattle.field.proofs.Sums.{different_le}
use Rattle.tables.specs.declared.places.Places.{Places}
use Rattle.tables.specs.declared.index.Pointer.{Pointer}
use Rattle.tables.specs.declared.kinds.Index.{Index}
use Rattle.tables.specs.Indexes.{table_at, word_of, link_of, slots_of, base_of, start_of, count_of, Used, pointer_at, pointer_place}
use Rattle.tables.specs.Views.{View, view_of, Begins, Parent, walk, next}
use Rattle.tables.specs.Rules.R5.{R5, FileChain}
use Rattle.tables.specs.Rules.R6.{Shape, R6}
use Rattle.tables.proofs.ChainLaws.{walk_none, walk_once}
use Rattle.tables.proofs.IndexLaws.{slots_parent, slots_child, base_parent, base_child}
use Rattle.std.specs.Prelude.{Option, unwrap_or}
use Rattle.allocation.specs.declared.growth.Cursor.{Cursor}
use Rattle.allocation.specs.Find.{find}
use Rattle.allocation.proofs.FindLaws.{find_high, find_passes, find_none, FirstIn, number_found}
use Rattle.allocation.specs.Last.{chain_end, last_table, used_pointers, cursor_of}

-- ---- the last table of a file

-- the code's place i in the chain of f, once k links are passed
pub record Onward (v : View) (f i k : ℕ) : Type 0 where
  pub long : ℕ
  pub chain : FileChain v f long
  pub steps : ℕ
  pub within : steps ≤ long
  pub here : walk (next v) f steps ≡ i
  pub low : 1 ≤ i
  pub high : i ≤ v.indexes
  pub ends : chain_end (next v) (v.indexes - k) i ≡ last_table v f

end_here : (link : ℕ → ℕ) (n i : ℕ) → link i ≡ 0 → chain_end link n i ≡ i
unfolding chain_end
end_here link zero i e = refl
end_here link (suc n) i e = rw (eq-eqb (link i) 0 e)

end_next : (link : ℕ → ℕ) (n i : ℕ) → (link i ≡ 0 → ⊥) → chain_end link (suc n) i ≡ chain_end link n (link i)
unfolding chain_end
end_next link n i ne = rw (ne_eqb (link i) 0 ne)

end_none : (link : ℕ → ℕ) (i : ℕ) → chain_end link 0 i ≡ i
unfolding chain_end
end_none link i = refl

walk_step : (f : ℕ → ℕ) (h k : ℕ) → walk f h (suc k) ≡ f (walk f h k)
unfolding walk
walk_step f h k = refl

pub onward_none : (v : View) (f : ℕ) → R5 v → Parent v f → Onward v f f 0
unfolding last_table
onward_none v f r parent = record {
  long = r.long f;
  chain = r.chain f parent;
  steps = 0;
  within = omega arith;
  here = walk_none (next v) f;
  low = parent.low;
  high = parent.high;
  ends = let e : v.indexes - 0 ≡ v.indexes = omega arith in ap (λ (n : ℕ). chain_end (next v) n f) e;
}

module _ (v : View) (f i k : ℕ) (o : Onward v f i k) where
  pub onward_end : v.indexes ≤ k → i ≡ last_table v f
  onward_end l = let e : v.indexes - k ≡ 0 = omega arith in sym (ap (λ (n : ℕ). chain_end (next v) n i) e ∙ end_none (next v) i) ∙ o.ends

  module _ (x : ℕ) (t : List ℕ) (is : x ≡ link_of t) (of : t ≡ v.table i) where
    linked : x ≡ next v i
    linked = is ∙ ap link_of of

    pub onward_last : x ≡ 0 → i ≡ last_table v f
    onward_last z = sym (end_here (next v) (v.indexes - k) i (sym linked ∙ z)) ∙ o.ends

    pub onward_more : k < v.indexes → (x ≡ 0 → ⊥) → Onward v f x (k + 1)
    onward_more some ne =
        let on : walk (next v) f (suc o.steps) ≡ x = walk_step (next v) f o.steps ∙ ap (next v) o.here ∙ sym linked in
        let further : suc o.steps ≤ o.long
        = elim (ℕ_discrete o.steps o.long) [
          | yes e ↦ absurd (ne (sym on ∙ ap (λ (k : ℕ). walk (next v) f (suc k)) e ∙ o.chain.ends))
          | no d ↦ omega (arith, o.within)
        ] in
        let child = o.chain.each o.steps (omega (arith, further)) in
        let e : v.indexes - k ≡ suc (v.indexes - (k + 1)) = omega arith in
        record {
          long = o.long;
          chain = o.chain;
          steps = suc o.steps;
          within = further;
          here = on;
          low = omega (arith, on, child.low);
          high = omega (arith, on, child.high);
          ends = ap (chain_end (next v) (v.indexes - (k + 1))) linked
              ∙ sym (ap (λ (n : ℕ). chain_end (next v) n i) e ∙ end_next (next v) (v.indexes - (k + 1)) i (λ e. ne (linked ∙ e))) ∙ o.ends;
        }

-- ---- it is the last of the file's chain, since no chain is longer than the number of index tables

module _ (v : View) (f m : ℕ) (parent : Parent v f) (ch : FileChain v f m) where
  pub chain_begins : (k : ℕ) → k < suc m → (w : ℕ) × Begins v (walk (next v) f k) w
  chain_begins zero l = (f, rw (walk_none (next v) f) parent)
  chain_begins (suc k) l = (_, ch.each k (omega arith))

  pub file_short : suc m ≤ v.indexes
  file_short =
      different_le v.indexes (suc m) (λ k. walk (next v) f k - 1) (λ k l. omega (arith, (is k l).low, (is k l).high))
      (λ k l j lj e. walk_once (next v) f (suc m) ch.ends (λ k l. (is k l).low) k l j lj (omega (arith, (is k l).low, (is j (omega arith)).low)))
    where
      is : (k : ℕ) (l : k < suc m) → Begins v (walk (next v) f k) (chain_begins k l).0
      is k l = (chain_begins k l).1

  -- so the last table is found
  end_at : (d n k : ℕ) → k + d ≡ m → d ≤ n → chain_end (next v) n (walk (next v) f k) ≡ walk (next v) f m
  unfolding chain_end walk
  end_at zero n k e l =
      let q : k ≡ m = omega arith in
      end_here (next v) n (walk (next v) f k) (ap (λ (i : ℕ). walk (next v) f (suc i)) q ∙ ch.ends) ∙ ap (walk (next v) f) q
  end_at (suc d) zero k e l = absurd (omega arith)
  end_at (suc d) (suc n) k e l =
      let b = ch.each k (omega arith) in
      rw (ne_eqb (next v (walk (next v) f k)) 0 (λ z. omega (arith, b.low))) (end_at d n (suc k) (omega arith) (omega arith))

  pub last_table_lem : walk (next v) f m ≡ last_table v f
  unfolding last_table
  last_table_lem = sym (end_at m v.indexes 0 (omega arith) (omega (arith, file_short))) ∙ ap (chain_end (next v) v.indexes) (walk_none (next v) f)

-- ---- a table's used pointers

-- the pointer at the j-th place is unused
abbrev pub blank_at : List ℕ → ℕ → ℕ → Bool
blank_at t at j = eqb (u32_at t (at + 6 * j) + u16_at t (at + 6 * j + 4)) 0

-- the code's way: the first of them
pub used_is : (i : ℕ) (t : List ℕ) (n at : ℕ) → n ≡ slots_of i t → at ≡ base_of i t → (r : Option ℕ) → FirstIn (blank_at t at) 0 n r → unwrap_or r n ≡ used_pointers i t
unfolding used_pointers
used_is i t n at en ea r h =
    let e : n - 0 ≡ n = omega arith in
    number_found (blank_at t at) 0 n r (omega arith) h ∙ ap (λ (k : ℕ). find (blank_at t at) k 0) e ∙ rw (en, ea)

module _ (i : ℕ) (t : List ℕ) where
  pub used_le : used_pointers i t ≤ slots_of i t
  unfolding used_pointers
  used_le = omega (arith, find_high (λ j. blank_at t (base_of i t) j) (slots_of i t) 0)

  pub used_before : (j : ℕ) → j < used_pointers i t → Used i t j
  unfolding used_pointers
  used_before j l = elim (ℕ_discrete (start_of i t j + count_of i t j) 0) [
    | yes z ↦ absurd (true≢false (sym (eq-eqb (start_of i t j + count_of i t j) 0 z) ∙ find_none (blank_at t (base_of i t)) (slots_of i t) 0 j l (omega arith)))
    | no ne ↦ omega arith
  ]

  module _ (first : (j : ℕ) → suc j < slots_of i t → Used i t (suc j) → Used i t j) where
    used_down : (d j : ℕ) → j + d < slots_of i t → Used i t (j + d) → Used i t j
    used_down zero j l u = let e : j + 0 ≡ j = omega arith in rw e at u
    used_down (suc d) j l u = let e : j + suc d ≡ suc (j + d) = omega arith in used_down d j (omega arith) (first (j + d) (omega arith) (rw e at u))

    -- the first of the others is unused, so all are
    pub used_not : (j : ℕ) → j < slots_of i t → used_pointers i t ≤ j → Used i t j → ⊥
    unfolding used_pointers
    used_not j l o u =
        let k = used_pointers i t in
        let e : k + (j - k) ≡ j = omega arith in
        let d : (k + (j - k) < slots_of i t) × Used i t (k + (j - k)) = rw e (l, u) in
        let w = used_down (j - k) k d.0 d.1 in
        true≢false (sym (find_passes (blank_at t (base_of i t)) (slots_of i t) 0 (omega arith)) ∙ ne_eqb (start_of i t k + count_of i t k) 0 (λ z. omega arith))

    pub used_some : (j : ℕ) → j < slots_of i t → Used i t j → 1 ≤ used_pointers i t
    used_some j l u = elim (ℕ_discrete (used_pointers i t) 0) [ yes z ↦ absurd (used_not j l (omega arith) u) | no ne ↦ omega arith ]

  -- the pointers of a table end before its link, unless it is free
  pub slots_end : word_of t ≢ 0 → base_of i t + 6 * slots_of i t ≡ 124
  slots_end nz = elim (ℕ_discrete (word_of t) i) [
    | yes e ↦ omega (arith, base_parent i t e, slots_parent i t nz e)
    | no ne ↦ omega (arith, base_child i t ne, slots_child i t nz ne)
  ]

-- R5 and R6: a file's last table has a pointer
module _ (v : View) (f : ℕ) (r5 : R5 v) (r6 : R6 v) (parent : Parent v f) where
  abbrev i : ℕ
  i = last_table v f

  pub last_shape : Shape v i (v.table i)
  last_shape =
      let b = rw (last_table_lem v f (r5.long f) parent (r5.chain f parent)) at (chain_begins v f (r5.long f) parent (r5.chain f parent) (r5.long f) (omega arith)) in
      r6 i (omega (arith, b.1.high)) b.1.low

  pub last_some : 1 ≤ used_pointers i (v.table i)
  last_some = go (r5.long f) (last_table_lem v f (r5.long f) parent (r5.chain f parent)) (omega arith)
    where
      go : (k : ℕ) → walk (next v) f k ≡ i → k ≤ r5.long f → 1 ≤ used_pointers i (v.table i)
      go zero e l =
          let q : f ≡ i = sym (walk_none (next v) f) ∙ e in
          let o : 0 < slots_of f (v.table f) = omega (arith, slots_parent f (v.table f) (λ z. omega (arith, parent.low, parent.word)) parent.word) in
          used_some i (v.table i) last_shape.first 0 (rw q at o) (rw q at ((r6 f (omega (arith, parent.high)) parent.low).one parent.word))
      go (suc k) e l =
          let o = r5.one i (rw e at ((r5.chain f parent).each k (omega arith))) in
          used_some i (v.table i) last_shape.first o.0 o.1 o.2

-- where a file goes on is made of what was found
pub used_within : (i : ℕ) (t : List ℕ) (slot capacity : ℕ) → slot ≡ used_pointers i t → capacity ≡ slots_of i t → slot ≤ capacity
used_within i t slot capacity es ec = omega (arith, used_le i t)

pub cursor_is : (p : Places) (b : List ℕ) (f : ℕ) (i : Index) (t : List ℕ) (capacity slot at : ℕ) (q : Pointer)
    → i.0 ≡ last_table (view_of p b) f → t ≡ table_at p b i.0 → capacity ≡ slots_of i.0 t → slot ≡ used_pointers i.0 t → at ≡ pointer_place capacity slot → q ≡ pointer_at t at
    → ◌≡◌ {A = Cursor} (record { tail = record { last = q; slot = slot; capacity = capacity; tables = 0 }; table = i }) (cursor_of p b f)
unfolding cursor_of
cursor_is p b f i t capacity slot at q ei et ec es ea eq = rw (eq, ea, ec, es, et, ← ei)
