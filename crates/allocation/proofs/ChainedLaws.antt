-- The free chain while a file is made and grows: it stays where a pointer of a file is written, and loses its head to a new parent or a
-- further child.
use mathlib.Core.Path.{◌≡◌, refl, sym, ap, ◌∙◌}
use mathlib.Core.Logic.{◌≢◌, ◌⊎◌, inl, inr}
use mathlib.Core.List.{List}
use Prim.Native.Nat.{ℕ, zero, suc, ◌+◌, ◌-◌, ◌≤◌, ◌<◌}
use native.Mathlib.Decide.{ℕ_discrete}
use native.Mathlib.Omega.{arith}
use lib.ListN.{length}
use Rattle.field.proofs.NumberLaws.{kept_put_u32}
use Rattle.field.proofs.Sums.{sum_same, sum_at, sum_some}
use Rattle.tables.specs.declared.places.Places.{Places}
use Rattle.tables.specs.declared.index.Pointer.{Pointer}
use Rattle.tables.specs.Each.{Each}
use Rattle.tables.specs.Indexes.{word_of, link_of, minus, table_at}
use Rattle.tables.specs.Sector1.{free_of, first_free_of}
use Rattle.tables.specs.Views.{View, view_of, Free, walk, next, tally}
use Rattle.tables.specs.Rules.R4.{FreeChain, Own, R4}
use Rattle.tables.specs.Rules.R9.{free_one}
use Rattle.tables.proofs.ChainLaws.{walk_same, walk_once, walk_tail, walk_none}
use Rattle.tables.proofs.Sector1CountLaws.{free_yes, free_no}
use Rattle.allocation.specs.NewTables.{New}
use Rattle.allocation.specs.Steps.{Written, child_bytes, Extended, Made}
use Rattle.allocation.specs.Ready.{Head, Chained}
use Rattle.allocation.proofs.PointerBytes.{word_kept, kept_pointer, child_word, parent_word}

-- ---- sums over the tables

-- where all tables but x have the same part, a sum changes by x's
pub tally_part : (v v' : View) (x : ℕ) → v'.indexes ≡ v.indexes → 1 ≤ x → x ≤ v.indexes → (g : ℕ → List ℕ → ℕ)
    → ((j : ℕ) → 1 ≤ j → j ≤ v.indexes → j ≢ x → g j (v'.table j) ≡ g j (v.table j)) → tally v' g + g x (v.table x) ≡ tally v g + g x (v'.table x)
unfolding tally
tally_part v v' x indexes low high g same =
    let q : x - 1 + 1 ≡ x = omega arith in
    let e = sum_at v.indexes (x - 1) (λ k. g (k + 1) (v'.table (k + 1))) (λ k. g (k + 1) (v.table (k + 1))) (omega arith)
    (λ k l ne. same (k + 1) (omega arith) (omega arith) (omega arith)) in
    rw indexes (rw q at e)

-- ---- the chain's head

chain_first : (v : View) (m : ℕ) → FreeChain v m → 1 ≤ m → Free v v.head
chain_first v m c l = rw (walk_none (next v) v.head) at (c.each 0 l)

-- it is free, if there is one
pub head_free : (v : View) → R4 v → v.head ≢ 0 → Free v v.head
head_free v r ne = go r.long r.chain
  where
    go : (m : ℕ) → FreeChain v m → Free v v.head
    go zero c = absurd (ne (sym (walk_none (next v) v.head) ∙ c.ends))
    go (suc m) c = chain_first v (suc m) c (omega arith)

-- a free table is in the chain, which so has a head
pub chained_head : (p : Places) (b : List ℕ) → Chained p b → 1 ≤ free_of b → Head p b
unfolding tally
chained_head p b c l =
    let v = view_of p b in
    let s = sum_some p.indexes (λ k. free_one (k + 1) (table_at p b (k + 1))) (omega (arith, c.free)) in
    let f : Free v (s.0 + 1) = record { low = omega arith; high = omega (arith, s.1); word = is (s.0 + 1) (table_at p b (s.0 + 1)) s.2 } in
    let e = c.r4.chain.every (s.0 + 1) f in
    let h = chain_first v c.r4.long c.r4.chain (omega (arith, e.1)) in
    record { low = h.low; high = h.high; some = l }
  where
    is : (i : ℕ) (t : List ℕ) → 0 < free_one i t → word_of t ≡ 0
    is i t l = elim (ℕ_discrete (word_of t) 0) [ yes e ↦ e | no ne ↦ absurd (omega (arith, free_no i t ne)) ]

-- ---- R4 where free tables but x stay as they are, and x is not free afterwards

pub record FreeBut (v v' : View) (x : ℕ) : Type 0 where
  pub indexes : v'.indexes ≡ v.indexes
  pub word : (i : ℕ) → 1 ≤ i → i ≤ v.indexes → (word_of (v'.table i) ≡ 0) ⊎ ((word_of (v'.table i) ≡ i) ⊎ (word_of (v'.table i) ≡ minus i))
  pub was : (i : ℕ) → Free v' i → (i ≢ x) × Free v i
  pub same : (i : ℕ) → i ≢ x → Free v i → v'.table i ≡ v.table i

-- the other tables begin as before
pub free_but : (v v' : View) (x : ℕ) → v'.indexes ≡ v.indexes → word_of (v'.table x) ≢ 0
    → (word_of (v'.table x) ≡ 0) ⊎ ((word_of (v'.table x) ≡ x) ⊎ (word_of (v'.table x) ≡ minus x))
    → ((i : ℕ) → 1 ≤ i → i ≤ v.indexes → i ≢ x → word_of (v'.table i) ≡ word_of (v.table i)) → ((i : ℕ) → i ≢ x → Free v i → v'.table i ≡ v.table i)
    → R4 v → FreeBut v v' x
free_but v v' x indexes nz new word same r = record {
  indexes = indexes;
  word = λ i lo hi. elim (ℕ_discrete i x) [ yes e ↦ rw e new | no ne ↦ rw (word i lo hi ne) (r.own i (omega arith) lo).word ];
  was = λ i f. (let ne : i ≢ x = λ e. nz (ap (λ (n : ℕ). word_of (v'.table n)) (sym e) ∙ f.word) in
      let hi : i ≤ v.indexes = rw indexes at f.high in
      (ne, record { low = f.low; high = hi; word = sym (word i f.low hi ne) ∙ f.word }));
  same = same;
}

module _ (v v' : View) (x : ℕ) (h : FreeBut v v' x) where
  still_free : (i : ℕ) → i ≢ x → Free v i → Free v' i
  still_free i ne f = record { low = f.low; high = rw h.indexes f.high; word = ap word_of (h.same i ne f) ∙ f.word }

  own_all : Each (Own v) 1 (v.indexes + 1) → Each (Own v') 1 (v'.indexes + 1)
  own_all own i l lo =
      let hi : i ≤ v.indexes = omega (arith, h.indexes) in
      record {
        word = h.word i lo hi;
        blank = λ z. (let o = h.was i (record { low = lo; high = omega arith; word = z }) in
            rw (h.same i o.0 o.1) ((own i (omega arith) lo).blank o.1.word));
      }

  one_same : (i : ℕ) → 1 ≤ i → i ≤ v.indexes → (Free v i → i ≢ x) → free_one i (v'.table i) ≡ free_one i (v.table i)
  one_same i lo hi other = elim (ℕ_discrete (word_of (v.table i)) 0) [
    | yes e ↦ (let f : Free v i = record { low = lo; high = hi; word = e } in ap (free_one i) (h.same i (other f) f))
    | no ne ↦ free_no i (v'.table i) (λ z. ne (h.was i (record { low = lo; high = rw h.indexes hi; word = z })).1.word) ∙ sym (free_no i (v.table i) ne)
  ]

  -- x was not free either
  module _ (not : Free v x → ⊥) where
    not_x : (i : ℕ) → Free v i → i ≢ x
    not_x i f e = not (rw e at f)

    pub kept_R4 : v'.head ≡ v.head → R4 v → R4 v'
    kept_R4 head r = record {
      own = own_all r.own;
      long = r.long;
      chain = record {
        ends = go r.long (omega arith) ∙ r.chain.ends;
        each = λ k l. rw (go k (omega arith)) (let f = r.chain.each k l in still_free _ (not_x _ f) f);
        every = λ i f. (let e = r.chain.every i (h.was i f).1 in (e.0, e.1, go e.0 (omega (arith, e.1)) ∙ e.2));
      };
    }
      where
        go : (k : ℕ) → k ≤ r.long → walk (next v') v'.head k ≡ walk (next v) v.head k
        go k l =
            ap (λ (i : ℕ). walk (next v') i k) head
            ∙ walk_same (next v) (next v') v.head r.long (λ k l. (let f = r.chain.each k l in ap link_of (h.same _ (not_x _ f) f))) k l

    kept_tally : tally v' free_one ≡ tally v free_one
    unfolding tally
    kept_tally = rw h.indexes (sum_same v.indexes _ _ (λ k l. one_same (k + 1) (omega arith) (omega arith) (not_x (k + 1))))

  -- x was the chain's head, which is now the table after it
  module _ (low : 1 ≤ x) (head : v.head ≡ x) (moved : v'.head ≡ link_of (v.table x)) where
    module _ (n : ℕ) (c : FreeChain v (suc n)) where
      not_head : (k : ℕ) → k < n → walk (next v) v.head (suc k) ≢ x
      not_head k l e =
          walk_once (next v) v.head (suc n) c.ends (λ j l. (c.each j l).low) (suc k) (omega arith) 0 (omega arith) (walk_none (next v) v.head ∙ head ∙ sym e)

      behind_head : (k : ℕ) → k ≤ n → walk (next v') v'.head k ≡ walk (next v) v.head (suc k)
      behind_head k l =
          ap (λ (i : ℕ). walk (next v') i k) (moved ∙ ap (next v) (sym head))
          ∙ walk_same (next v) (next v') (next v v.head) n
          (λ j l. ap link_of (rw (walk_tail (next v) v.head j) (h.same _ (not_head j l) (c.each (suc j) (omega arith))))) k l
          ∙ walk_tail (next v) v.head k

      popped_chain : FreeChain v' n
      popped_chain = record {
        ends = behind_head n (omega arith) ∙ c.ends;
        each = λ k l. rw (behind_head k (omega arith)) (still_free _ (not_head k l) (c.each (suc k) (omega arith)));
        every = λ i f. (let o = h.was i f in let e = c.every i o.1 in go i o.0 e.0 e.1 e.2);
      }
        where
          go : (i : ℕ) → i ≢ x → (k : ℕ) → k < suc n → walk (next v) v.head k ≡ i → (j : ℕ) × (j < n) × (walk (next v') v'.head j ≡ i)
          go i ne zero l e = absurd (ne (sym e ∙ walk_none (next v) v.head ∙ head))
          go i ne (suc k) l e = (k, omega arith, behind_head k (omega arith) ∙ e)

    pub popped_R4 : R4 v → R4 v'
    popped_R4 r = record { own = own_all r.own; long = r.long - 1; chain = at r.long r.chain }
      where
        at : (n : ℕ) → FreeChain v n → FreeChain v' (n - 1)
        at zero c = absurd (let z : x ≡ 0 = sym head ∙ sym (walk_none (next v) v.head) ∙ c.ends in omega arith)
        at (suc n) c = let e : suc n - 1 ≡ n = omega arith in rw e (popped_chain n c)

  popped_tally : Free v x → tally v' free_one + 1 ≡ tally v free_one
  popped_tally f =
      let new = free_no x (v'.table x) (λ z. (h.was x (record { low = f.low; high = rw h.indexes f.high; word = z })).0 refl) in
      let s = tally_part v v' x h.indexes f.low f.high free_one (λ j lo hi ne. one_same j lo hi (λ g. ne)) in
      omega (arith, free_yes x (v.table x) f.word, new, s)

-- ---- the chain with its number

chained_pops : (p : Places) (b b' : List ℕ) → Chained p b → FreeBut (view_of p b) (view_of p b') (first_free_of b) → Free (view_of p b) (first_free_of b)
    → first_free_of b' ≡ link_of (table_at p b (first_free_of b)) → free_of b' ≡ free_of b - 1 → Chained p b'
chained_pops p b b' c h f head free = record {
  r4 = popped_R4 (view_of p b) (view_of p b') (first_free_of b) h f.low refl head c.r4;
  free = omega (arith, free, c.free, popped_tally (view_of p b) (view_of p b') (first_free_of b) h f);
}

pub chained_free : (p : Places) (b : List ℕ) → Chained p b → first_free_of b ≢ 0 → Free (view_of p b) (first_free_of b)
chained_free p b c = head_free (view_of p b) c.r4

-- a pointer written, in a table that is not free
module _ (p : Places) (b b' : List ℕ) (i at : ℕ) (q : Pointer) (w : Written (view_of p b) (view_of p b') i at q) (from : 22 ≤ at) (low : 1 ≤ i) (high : i ≤ p.indexes)
    (used : word_of (table_at p b i) ≢ 0) where
  written_word : word_of (table_at p b' i) ≡ word_of (table_at p b i)
  written_word = rw w.here (word_kept i (kept_pointer (table_at p b i) at q) (omega arith))

  pub written_used : word_of (table_at p b' i) ≢ 0
  written_used z = used (sym written_word ∙ z)

  pub chained_written : Chained p b → Chained p b'
  chained_written c =
      let h = free_but (view_of p b) (view_of p b') i refl written_used (rw written_word (c.r4.own i (omega arith) low).word) (λ j lo hi ne. ap word_of (w.there j lo hi ne))
      (λ j ne f. w.there j f.low f.high ne) c.r4 in
      let not : (Free (view_of p b) i → ⊥) = λ f. used f.word in
      record {
        r4 = kept_R4 (view_of p b) (view_of p b') i h not w.head c.r4;
        free = w.free ∙ c.free ∙ sym (kept_tally (view_of p b) (view_of p b') i h not);
      }

-- a further child is chained on
module _ (p : Places) (b b' : List ℕ) (f last : ℕ) (q : Pointer) (w : Extended (view_of p b) (view_of p b') f last q)
    (used : word_of (table_at p b last) ≢ 0) (few : p.indexes ≤ 4096) (free : Free (view_of p b) (first_free_of b)) where
  extended_new : word_of (table_at p b' (first_free_of b)) ≡ minus (first_free_of b)
  extended_new = rw w.new (word_kept (first_free_of b) (kept_pointer (child_bytes (first_free_of b) f) 22 q) (omega arith) ∙ child_word (first_free_of b) f)

  pub extended_used : word_of (table_at p b' (first_free_of b)) ≢ 0
  extended_used z = omega (arith, extended_new, free.high)

  extended_word : (i : ℕ) → 1 ≤ i → i ≤ p.indexes → i ≢ first_free_of b → word_of (table_at p b' i) ≡ word_of (table_at p b i)
  extended_word i lo hi ne = elim (ℕ_discrete i last) [
    | yes e ↦ rw (e, w.last') (word_kept last (kept_put_u32 (table_at p b last) 124 (first_free_of b)) (omega arith))
    | no nl ↦ ap word_of (w.there i lo hi ne nl)
  ]

  pub chained_extended : Chained p b → Chained p b'
  chained_extended c =
      chained_pops p b b' c
      (free_but (view_of p b) (view_of p b') (first_free_of b) refl extended_used (inr (inr extended_new)) extended_word
      (λ i ne h. w.there i h.low h.high ne (λ e. used (ap (λ (n : ℕ). word_of (table_at p b n)) (sym e) ∙ h.word))) c.r4) free w.head w.free

-- a parent is made
module _ (p : Places) (b b' : List ℕ) (n : New) (s d : ℕ) (w : Made (view_of p b) (view_of p b') n s d) (name : length n.name ≤ 24) (date : length n.date ≡ 6)
    (free : Free (view_of p b) (first_free_of b)) where
  made_word : word_of (table_at p b' (first_free_of b)) ≡ first_free_of b
  made_word = rw w.new (parent_word (first_free_of b) n name date)

  pub made_used : word_of (table_at p b' (first_free_of b)) ≢ 0
  made_used z = omega (arith, made_word, free.low)

  pub chained_made : Chained p b → Chained p b'
  chained_made c =
      chained_pops p b b' c
      (free_but (view_of p b) (view_of p b') (first_free_of b) refl made_used (inr (inl made_word)) (λ j lo hi ne. ap word_of (w.there j lo hi ne))
      (λ j ne f. w.there j f.low f.high ne) c.r4) free w.head w.free
