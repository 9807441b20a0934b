-- A file given back: its tables are free and stand before the old free chain, all others are as they were. R4 and R5.
use mathlib.Core.Path.{◌≡◌, sym, ap, ◌∙◌}
use mathlib.Core.Logic.{◌≢◌, inl}
use mathlib.Core.List.{List}
use Prim.Native.Nat.{ℕ, suc, ◌+◌, ◌-◌, ◌≤◌, ◌<◌}
use native.Mathlib.Decide.{ℕ_discrete, dec_lt}
use native.Mathlib.Omega.{arith}
use lib.Dec.{eqb}
use Rattle.field.specs.Numbers.{u32_at}
use Rattle.field.proofs.PartLaws.{all_within}
use Rattle.field.proofs.Sums.{sum_same, sum_add}
use Rattle.tables.specs.Indexes.{word_of, parent_of, link_of, file_of}
use Rattle.tables.specs.Views.{View, Begins, Free, Parent, Child, walk, next, only_if, tally}
use Rattle.tables.specs.Rules.R4.{FreeChain, Own, R4}
use Rattle.tables.specs.Rules.R5.{FileChain, Stands, R5}
use Rattle.tables.proofs.ChainLaws.{walk_add, walk_same}
use Rattle.tables.proofs.Sector1CountLaws.{only_eq, only_ne}
use Rattle.allocation.specs.Last.{last_table}
use Rattle.allocation.proofs.LastLaws.{last_table_lem}
use Rattle.allocation.proofs.ChangeLaws.{Stays, free_file, parent_file, child_file, member_file, stays_same, walk_stays, chain_stays}
use Rattle.files.specs.Freed.{Freed}
use Rattle.files.proofs.FileTables.{tables_in, tables_once, file_member}

module _ (v v' : View) (f : ℕ) (h : Freed v v' f) where
  -- ---- single tables

  pub freed_word : (j : ℕ) → 1 ≤ j → j ≤ v.indexes → file_of j (v.table j) ≡ f → word_of (v'.table j) ≡ 0
  unfolding u32_at
  freed_word j lo hi e = let b = h.blank j lo hi e in omega (arith, b 0 (omega arith), b 1 (omega arith), b 2 (omega arith), b 3 (omega arith))

  -- what is used afterwards is not of the file
  used_out : (j w : ℕ) → w ≢ 0 → Begins v' j w → file_of j (v.table j) ≢ f
  used_out j w nz b e = nz (sym b.word ∙ freed_word j b.low (rw h.indexes at b.high) e)

  begins_left : (j w : ℕ) → file_of j (v.table j) ≢ f → Begins v j w → Begins v' j w
  begins_left j w ne b = record { low = b.low; high = rw h.indexes b.high; word = ap word_of (h.there j b.low b.high ne) ∙ b.word }

  begins_was : (j w : ℕ) → file_of j (v.table j) ≢ f → Begins v' j w → Begins v j w
  begins_was j w ne b =
      let hi : j ≤ v.indexes = rw h.indexes at b.high in
      record { low = b.low; high = hi; word = sym (ap word_of (h.there j b.low hi ne)) ∙ b.word }

  -- a sum to which free tables add nothing falls by the file's part
  pub tally_gone : (g : ℕ → List ℕ → ℕ) → ((j : ℕ) (t : List ℕ) → 1 ≤ j → word_of t ≡ 0 → g j t ≡ 0) → tally v' g + tally v (λ i t. only_if (eqb (file_of i t) f) (g i t)) ≡ tally v g
  unfolding tally
  tally_gone g none = rw h.indexes (sym (sum_add v.indexes _ _) ∙ sum_same v.indexes _ _ (λ k l. here (k + 1) (omega arith) (omega arith)))
    where
      here : (j : ℕ) → 1 ≤ j → j ≤ v.indexes → g j (v'.table j) + only_if (eqb (file_of j (v.table j)) f) (g j (v.table j)) ≡ g j (v.table j)
      here j lo hi =
          elim (ℕ_discrete (file_of j (v.table j)) f) [
            | yes e ↦ omega (arith, none j (v'.table j) lo (freed_word j lo hi e), only_eq (file_of j (v.table j)) f (g j (v.table j)) e)
            | no ne ↦ omega (arith, ap (g j) (h.there j lo hi ne), only_ne (file_of j (v.table j)) f (g j (v.table j)) ne)
          ]

  -- ---- R4: the file's tables in order, then the old free chain

  module _ (few : v.indexes ≤ 4096) (r4 : R4 v) (r5 : R5 v) (parent : Parent v f) where
    abbrev m : ℕ
    m = r5.long f

    ch : FileChain v f (r5.long f)
    ch = r5.chain f parent

    inside : (k : ℕ) → k < suc m → (1 ≤ walk (next v) f k) × (walk (next v) f k ≤ v.indexes)
    inside = tables_in v f m parent ch

    of : (k : ℕ) → k < suc m → file_of (walk (next v) f k) (v.table (walk (next v) f k)) ≡ f
    of = member_file v few f m parent ch

    free_not : (j : ℕ) → Free v j → file_of j (v.table j) ≢ f
    free_not j b e = omega (arith, parent.low, free_file v j b)

    freed_is : (j : ℕ) → 1 ≤ j → j ≤ v.indexes → file_of j (v.table j) ≡ f → Free v' j
    freed_is j lo hi e = record { low = lo; high = rw h.indexes hi; word = freed_word j lo hi e }

    last_not : (k : ℕ) → k < m → walk (next v) f k ≢ last_table v f
    last_not k l e = tables_once v f m parent ch m (omega arith) k l (e ∙ sym (last_table_lem v f m parent ch))

    file_walk : (k : ℕ) → k ≤ m → walk (next v') f k ≡ walk (next v) f k
    file_walk = walk_same (next v) (next v') f m (λ k l. (let b = inside k (omega arith) in h.link _ b.0 b.1 (of k (omega arith)) (last_not k l)))

    at_end : walk (next v') f (suc m) ≡ v.head
    unfolding walk
    at_end = ap (next v') (file_walk m (omega arith) ∙ last_table_lem v f m parent ch) ∙ h.last

    new_walk : (k : ℕ) → k < suc m → walk (next v') v'.head k ≡ walk (next v) f k
    new_walk k l = ap (λ (i : ℕ). walk (next v') i k) h.head ∙ file_walk k (omega arith)

    old_walk : (k : ℕ) → k ≤ r4.long → walk (next v') v'.head (k + suc m) ≡ walk (next v) v.head k
    old_walk k l =
        ap (λ (i : ℕ). walk (next v') i (k + suc m)) h.head ∙ walk_add (next v') f (suc m) k ∙ ap (λ (i : ℕ). walk (next v') i k) at_end
        ∙ walk_same (next v) (next v') v.head r4.long (λ j lj. (let b = r4.chain.each j lj in ap link_of (h.there _ b.low b.high (free_not _ b)))) k l

    chain_pushed : FreeChain v' (r4.long + suc m)
    chain_pushed = record {
      ends = old_walk r4.long (omega arith) ∙ r4.chain.ends;
      each = λ k l. elim (dec_lt k (suc m)) [ yes n ↦ (let b = inside k n in rw (new_walk k n) (freed_is _ b.0 b.1 (of k n))) | no n ↦ later k l (omega arith) ];
      every = every;
    }
      where
        later : (k : ℕ) → k < r4.long + suc m → suc m ≤ k → Free v' (walk (next v') v'.head k)
        later k l n =
            let e : k ≡ k - suc m + suc m = omega arith in
            let b = r4.chain.each (k - suc m) (omega arith) in
            rw (ap (walk (next v') v'.head) e ∙ old_walk (k - suc m) (omega arith)) (begins_left _ 0 (free_not _ b) b)

        every : (j : ℕ) → Free v' j → (k : ℕ) × (k < r4.long + suc m) × (walk (next v') v'.head k ≡ j)
        every j b =
            let hi : j ≤ v.indexes = rw h.indexes at b.high in
            elim (ℕ_discrete (file_of j (v.table j)) f) [
              | yes e ↦ (let r = file_member v r4 r5 few f parent j b.low hi e in (r.0, omega (arith, r.1), new_walk r.0 r.1 ∙ r.2))
              | no ne ↦ (let r = r4.chain.every j (begins_was j 0 ne b) in (r.0 + suc m, omega (arith, r.1), old_walk r.0 (omega (arith, r.1)) ∙ r.2))
            ]

    pub freed_R4 : R4 v'
    freed_R4 = record { own = λ j l lo. own j lo (omega (arith, h.indexes)); long = r4.long + suc m; chain = chain_pushed }
      where
        own : (j : ℕ) → 1 ≤ j → j ≤ v.indexes → Own v' j
        own j lo hi =
            elim (ℕ_discrete (file_of j (v.table j)) f) [
              | yes e ↦ record { word = inl (freed_word j lo hi e); blank = λ z. all_within (v'.table j) 0 4 120 124 0 (omega arith) (h.blank j lo hi e) }
              | no ne ↦ (let o = r4.own j (omega arith) lo in let e = h.there j lo hi ne in record { word = rw e o.word; blank = rw e o.blank })
            ]

  -- ---- R5: other files' chains

  module _ (few : v.indexes ≤ 4096) where
    module _ (p n : ℕ) (par : Parent v p) (ne : p ≢ f) (c : FileChain v p n) where
      member_stays : (k : ℕ) → k < suc n → Stays v v' (walk (next v) p k)
      member_stays k l =
          let b = tables_in v p n par c k l in
          stays_same v v' _ (h.there _ b.0 b.1 (λ e. ne (sym (member_file v few p n par c k l) ∙ e)))

    pub freed_R5 : R5 v → R5 v'
    freed_R5 r = record {
      long = r.long;
      chain = λ p b. (let out = used_out p p (omega (arith, b.low)) b in
          let par = begins_was p p out b in
          let c = r.chain p par in
          chain_stays v v' h.indexes p (r.long p) c (member_stays p (r.long p) par (λ e. out (parent_file v p par ∙ e)) c));
      stands = λ c b. (let out = used_out c _ (omega (arith, b.high, h.indexes)) b in stands c out (begins_was c _ out b));
      one = λ c b. (let out = used_out c _ (omega (arith, b.high, h.indexes)) b in
          let w = begins_was c _ out b in
          rw (h.there c w.low w.high out) (r.one c w));
    }
      where
        stands : (c : ℕ) → file_of c (v.table c) ≢ f → Child v c → Stands v' (parent_of (v'.table c)) (r.long (parent_of (v'.table c))) c
        stands c out w =
            let o = r.stands c w in
            let p = parent_of (v.table c) in
            let ne : p ≢ f = λ e. out (child_file v c few w ∙ e) in
            let ch = r.chain p o.parent in
            rw (h.there c w.low w.high out) (record {
              parent = begins_left _ _ (λ e. ne (sym (parent_file v p o.parent) ∙ e)) o.parent;
              place = o.place;
              below = o.below;
              here = walk_stays v v' h.indexes p (r.long p) ch (member_stays p (r.long p) o.parent ne ch) (suc o.place) (omega (arith, o.below)) ∙ o.here;
            })
