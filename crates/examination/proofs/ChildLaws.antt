-- R5: the walk along the chains of all parents.
use mathlib.Core.Path.{◌≡◌, refl, sym, ap, ◌∙◌}
use mathlib.Core.Logic.{◌⊎◌, inl, inr, ⊎_elim}
use mathlib.Core.Bool.{Bool, true, false, not}
use Prim.Native.Nat.{ℕ, zero, suc, ◌+◌, ◌-◌, ◌≤◌, ◌<◌}
use native.Mathlib.Nat.{not-suc-le-zero}
use native.Mathlib.Decide.{ℕ_discrete, dec_lt, dec_le}
use native.Mathlib.Omega.{arith}
use mathlib.Core.List.{List}
use lib.ListN.{get_or, set, length, length-set, replicate, length-replicate}
use Rattle.field.specs.Says.{Says}
use Rattle.field.proofs.Tests.{says_map, passed}
use Rattle.field.proofs.NumberLaws.{get_d_zeros}
use borrow.Author.Tests.{not-true, not-false}
use Rattle.tables.specs.declared.entry.Entry.{Entry}
use Rattle.tables.specs.Entries.{entry_of, is_parent, is_child}
use Rattle.tables.specs.Indexes.{word_of, parent_of, link_of}
use Rattle.tables.specs.Each.{Each}
use Rattle.tables.specs.Views.{View, Parent, Child, walk, next}
use Rattle.examination.specs.Met.{MarkedAt, SomeUsed, ChildMet, Follows, InChain, Passed, Before, Starts}
use Rattle.tables.specs.Rules.R5.{Full, FileChain, Stands, R5}
use Rattle.tables.proofs.KindLaws.{parent_word, not_parent, child_word, not_child}
use Rattle.tables.proofs.ChainLaws.{walk_once, walk_none, chain_one}
use Rattle.examination.proofs.MetLaws.{up, marked_here, marked_still, marked_before}

-- ---- a child by its entry

module _ (v : View) (p prev cur : ℕ) (r : Bool) (s : Says r (Follows v p prev cur)) (e : not r ≡ false) where
  pub child_small : v.indexes ≤ 4096 → cur < 4097
  child_small few = omega (arith, (passed r s e).child.high)

-- ---- the scan for a child that no chain has met, or that has no pointer

module _ (v : View) (seen : List ℕ) (i : ℕ) (e : Entry) (c : Bool) (is : e ≡ entry_of i (v.table i)) (ask : c ≡ is_child e.kind) (lo : 1 ≤ i) (high : i ≤ v.indexes) where
  pub met_other : v.indexes ≤ 4096 → c ≡ false → ChildMet v seen i
  met_other few n h = absurd (not_child i (v.table i) e is lo (omega arith) (sym ask ∙ n) h.word)

  module _ (n : c ≡ true) where
    child : Child v i
    child = record { low = lo; high = high; word = child_word i (v.table i) e is (sym ask ∙ n) }

    pub met_not : get_or seen i 0 ≡ 0 → ChildMet v seen i → ⊥
    met_not z h = (h child).0 z

    pub met_says : (t : List ℕ) → t ≡ v.table i → (get_or seen i 0 ≡ 0 → ⊥) → (r : Bool) → Says r (SomeUsed i t) → Says r (ChildMet v seen i)
    met_says t et m r = says_map r (λ s c. (m, rw et at s)) (λ h. rw et (h child).1)

-- ---- chains

-- the walk along p's children has come to cur, after prev; the marks were old when it began
pub record Going (v : View) (p : ℕ) (old seen : List ℕ) (prev cur : ℕ) : Type 0 where
  pub steps : ℕ
  pub behind : walk (next v) p steps ≡ prev
  pub ahead : walk (next v) p (suc steps) ≡ cur
  pub low : 1 ≤ prev
  pub high : prev ≤ v.indexes
  pub each : (j : ℕ) → j < steps → Child v (walk (next v) p (suc j))
  pub names : (j : ℕ) → j < steps → parent_of (v.table (walk (next v) p (suc j))) ≡ p
  pub full : (j : ℕ) → j < steps → Full v (walk (next v) p j)
  pub hit : (j : ℕ) → j < steps → MarkedAt seen (walk (next v) p (suc j))
  pub keep : (c : ℕ) → MarkedAt old c → MarkedAt seen c
  pub only : (c : ℕ) → MarkedAt seen c → MarkedAt old c ⊎ ((j : ℕ) × (j < steps) × (walk (next v) p (suc j) ≡ c))
  pub long : length seen ≡ 4097

module _ (v : View) (p : ℕ) (old : List ℕ) (st : Starts v old p) where
  pub going_none : (cur : ℕ) → cur ≡ link_of (v.table p) → Going v p old old p cur
  unfolding walk
  going_none cur e = record {
    steps = 0;
    behind = refl;
    ahead = sym e;
    low = st.parent.low;
    high = st.parent.high;
    each = λ k l. absurd (not-suc-le-zero l);
    names = λ k l. absurd (not-suc-le-zero l);
    full = λ k l. absurd (not-suc-le-zero l);
    hit = λ k l. absurd (not-suc-le-zero l);
    keep = λ c h. h;
    only = λ c h. inl h;
    long = st.passed.long;
  }

  module _ (seen : List ℕ) (prev cur : ℕ) (g : Going v p old seen prev cur) where
    pub child_index : (r : Bool) → Says r (Follows v p prev cur) → not r ≡ false → v.indexes ≤ 4096 → cur < length seen
    child_index r s e few = omega (arith, (passed r s e).child.high, g.long)

    pub going_more : (r : Bool) → Says r (Follows v p prev cur) → not r ≡ false → v.indexes ≤ 4096 → (n : ℕ) → n ≡ link_of (v.table cur) → Going v p old (set seen cur 1) cur n
    unfolding walk
    going_more r s e few n q =
        let f = passed r s e in
        let small = child_index r s e few in
        record {
          steps = suc g.steps;
          behind = g.ahead;
          ahead = ap (next v) g.ahead ∙ sym q;
          low = f.child.low;
          high = f.child.high;
          each = up g.steps g.each (rw g.ahead f.child);
          names = up g.steps g.names (rw g.ahead f.names);
          full = up g.steps g.full (rw g.behind f.full);
          hit = up g.steps (λ j l. marked_still seen cur small (walk (next v) p (suc j)) (g.hit j l)) (rw g.ahead (marked_here seen cur small));
          keep = λ c h. marked_still seen cur small c (g.keep c h);
          only = λ c h. elim (ℕ_discrete c cur) [ yes d ↦ inr (g.steps, omega arith, g.ahead ∙ sym d) | no ne ↦ ⊎_elim (λ o. inl o) (λ o. inr (o.0, omega (arith, o.1), o.2)) (g.only c (marked_before seen cur small c ne h)) ];
          long = length-set seen cur 1 ∙ g.long;
        }

    -- where the rule holds and the walk is not at its end, every test passes
    module _ (r : R5 v) (ne : cur ≡ 0 → ⊥) where
      goes_on : g.steps < r.long p
      goes_on = elim (dec_lt g.steps (r.long p)) [
        | yes l ↦ l
        | no h ↦ absurd (elim (dec_lt (r.long p) g.steps) [
          | yes l ↦ omega (arith, (r.chain p st.parent).ends, (g.each (r.long p) l).low)
          | no k ↦ ne (sym g.ahead ∙ ap (λ (n : ℕ). walk (next v) p (suc n)) (let e : g.steps ≡ r.long p = omega arith in e) ∙ (r.chain p st.parent).ends)
        ])
      ]

      goes_follows : Follows v p prev cur
      goes_follows = record {
        child = rw g.ahead at ((r.chain p st.parent).each g.steps goes_on);
        names = rw g.ahead at ((r.chain p st.parent).names g.steps goes_on);
        full = rw g.behind at ((r.chain p st.parent).full g.steps goes_on);
      }

      -- another chain that held it would name another parent
      elsewhere : InChain v (p - 1) cur → ⊥
      elsewhere o =
          let e : o.p ≡ p = sym (o.chain.names o.place o.below) ∙ ap (λ (c : ℕ). parent_of (v.table c)) o.here ∙ goes_follows.names in
          omega (arith, o.upto, st.parent.low)

      some : (n : ℕ) → n < suc (r.long p) → 1 ≤ walk (next v) p n
      some zero l = rw (walk_none (next v) p) st.parent.low
      some (suc n) l = ((r.chain p st.parent).each n (omega arith)).low

      again : (j : ℕ) → j < g.steps → walk (next v) p (suc j) ≡ cur → ⊥
      again j l e = walk_once (next v) p (suc (r.long p)) (r.chain p st.parent).ends some (suc g.steps) (omega (arith, goes_on)) (suc j) (omega arith) (e ∙ sym g.ahead)

      goes_clear : MarkedAt seen cur → ⊥
      goes_clear h = ⊎_elim (λ o. elsewhere (st.passed.only cur o)) (λ o. again o.0 o.1 o.2) (g.only cur h)

    pub stop_marked : MarkedAt seen cur → (cur ≡ 0 → ⊥) → R5 v → ⊥
    stop_marked h ne rule = goes_clear rule ne h

-- ---- all tables

pub passed_none : (v : View) → Passed v (replicate 4097 0) 0
passed_none v = record {
  chains = λ p l h. absurd (omega (arith, h.low));
  hit = λ p l h. absurd (omega (arith, h.low));
  only = λ c h. absurd (h (get_d_zeros 4097 c));
  long = length-replicate {A = ℕ} 4097 0;
}

module _ (v : View) (seen : List ℕ) (i : ℕ) (e : Entry) (c : Bool) (b : Before v seen i) (is : e ≡ entry_of i (v.table i)) (ask : c ≡ is_parent e.kind) where
  pub before_starts : not c ≡ false → Starts v seen i
  before_starts n = record { parent = record { low = b.low; high = b.high; word = parent_word i (v.table i) e is (sym ask ∙ not-false c n) }; passed = b.passed }

  -- a table that is no parent is passed over
  pub before_skip : not c ≡ true → Passed v seen i
  before_skip n = record {
    chains = λ a l h. b.passed.chains a (below a l h) h;
    hit = λ a l h. b.passed.hit a (below a l h) h;
    only = λ c h. (let x = b.passed.only c h in record { p = x.p; upto = omega (arith, x.upto); parent = x.parent; long = x.long; chain = x.chain; place = x.place; below = x.below; here = x.here });
    long = b.passed.long;
  }
    where
      below : (a : ℕ) → a ≤ i → Parent v a → a ≤ i - 1
      below a l h = elim (ℕ_discrete a i) [ yes q ↦ absurd (not_parent i (v.table i) e is b.low (sym ask ∙ not-true c n) (rw q at h).word) | no ne ↦ omega arith ]

-- ---- the rule, where all tables are passed

module _ (v : View) (seen : List ℕ) (q : Passed v seen v.indexes) where
  dec_parent : (p : ℕ) → (Parent v p) ⊎ (Parent v p → ⊥)
  dec_parent p = elim (dec_le 1 p) [
    | yes a ↦ elim (dec_le p v.indexes) [ yes b ↦ elim (ℕ_discrete (word_of (v.table p)) p) [ yes c ↦ inl (record { low = a; high = b; word = c }) | no c ↦ inr (λ h. c h.word) ] | no b ↦ inr (λ h. b h.high) ]
    | no a ↦ inr (λ h. a h.low)
  ]

  len : (p : ℕ) → (Parent v p) ⊎ (Parent v p → ⊥) → ℕ
  len p (inl h) = (q.chains p h.high h).0
  len p (inr h) = 0

  len_chain : (p : ℕ) (d : (Parent v p) ⊎ (Parent v p → ⊥)) → Parent v p → FileChain v p (len p d)
  unfolding len
  len_chain p (inl h) g = (q.chains p h.high h).1
  len_chain p (inr h) g = absurd (h g)

  met_rule : Each (ChildMet v seen) 1 (v.indexes + 1) → R5 v
  met_rule all = record {
    long = λ p. len p (dec_parent p);
    chain = λ p h. len_chain p (dec_parent p) h;
    stands = λ c h. stand c (q.only c (all c (omega (arith, h.high)) h.low h).0);
    one = λ c h. (all c (omega (arith, h.high)) h.low h).1;
  }
    where
      stand : (c : ℕ) → InChain v v.indexes c → Stands v (parent_of (v.table c)) (len (parent_of (v.table c)) (dec_parent (parent_of (v.table c)))) c
      stand c x =
          let e : parent_of (v.table c) ≡ x.p = ap (λ (c : ℕ). parent_of (v.table c)) (sym x.here) ∙ x.chain.names x.place x.below in
          rw e (record {
            parent = x.parent;
            place = x.place;
            below = rw (chain_one v x.p _ x.long (len_chain x.p (dec_parent x.p) x.parent) x.chain) x.below;
            here = x.here;
          })

  rule_met : R5 v → Each (ChildMet v seen) 1 (v.indexes + 1)
  rule_met r c l lo h = (λ z. (let o = r.stands c h in marked o.place o.parent o.below (rw o.here z)), r.one c h)
    where
      p : ℕ
      p = parent_of (v.table c)

      marked : (k : ℕ) → Parent v p → k < r.long p → MarkedAt seen (walk (next v) p (suc k))
      marked k par lk = q.hit p par.high par (r.long p) (r.chain p par) k lk

pub met_says_rule : (v : View) (seen : List ℕ) (i : ℕ) (r : Bool) → Passed v seen (i - 1) → i ≤ v.indexes + 1 → v.indexes < i → Says r (Each (ChildMet v seen) 1 (v.indexes + 1)) → Says r (R5 v)
met_says_rule v seen i r q hi end =
    let e : i - 1 ≡ v.indexes = omega arith in
    let w : Passed v seen v.indexes = rw e at q in
    says_map r (met_rule v seen w) (rule_met v seen w)
