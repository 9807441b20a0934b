-- R5 place by place: the pass over all chains, what it notes of each child, and what the notes say of a child.
use mathlib.Core.Path.{◌≡◌, refl, sym, ap, ap₂, ◌∙◌}
use mathlib.Core.Logic.{◌⊎◌, ◌≢◌, inl, inr, ⊎_elim}
use mathlib.Core.Bool.{Bool, true, false, not, cond}
use Prim.Native.Nat.{ℕ, zero, suc, ◌+◌, ◌-◌, ◌≤◌, ◌<◌}
use native.Mathlib.Nat.{not-suc-le-zero}
use native.Mathlib.Decide.{ℕ_discrete, dec_lt}
use native.Mathlib.Omega.{arith}
use borrow.Author.Tests.{eq-eqb, ne_eqb}
use mathlib.Core.List.{List}
use lib.ListN.{get_or, set, length, length-set, replicate, length-replicate}
use lib.Seq.{get_or-set_same, get_or-set_other}
use lib.Dec.{eqb}
use Rattle.field.specs.Says.{Says}
use Rattle.field.specs.Sum.{sum_to}
use Rattle.field.proofs.Sums.{sum_at}
use Rattle.field.proofs.Tests.{says_map, says_true, says_false, passed, refused}
use Rattle.field.proofs.NumberLaws.{get_d_zeros}
use Rattle.tables.specs.declared.entry.Entry.{Entry}
use Rattle.tables.specs.Entries.{entry_of, is_parent, is_child}
use Rattle.tables.specs.Indexes.{link_of}
use Rattle.tables.specs.Views.{View, Parent, Child, walk, next}
use Rattle.tables.proofs.KindLaws.{parent_word, not_parent, child_word, not_child}
use Rattle.tables.proofs.ChainLaws.{walk_add}
use Rattle.examination.specs.Chained.{StandsAt}
use Rattle.examination.specs.Meetings.{twice, after_meeting, MetOnce, MetTwice, Noted, MetUpTo, PassedPairs, MetWithin}
use Rattle.examination.proofs.MetLaws.{up}

-- ---- a table by its entry

module _ (v : View) (i : ℕ) (e : Entry) (is : e ≡ entry_of i (v.table i)) (lo : 1 ≤ i) (hi : i ≤ v.indexes) where
  parent_says : (r : Bool) → r ≡ is_parent e.kind → Says r (Parent v i)
  parent_says true q = record { low = lo; high = hi; word = parent_word i (v.table i) e is (sym q) }
  parent_says false q = λ h. not_parent i (v.table i) e is lo (sym q) h.word

  pub child_says : v.indexes ≤ 4096 → (r : Bool) → r ≡ is_child e.kind → Says r (Child v i)
  child_says few true q = record { low = lo; high = hi; word = child_word i (v.table i) e is (sym q) }
  child_says few false q = λ h. not_child i (v.table i) e is lo (omega arith) (sym q) h.word

-- ---- pairs that stand

-- where the chains of p and p' meet, they go on alike
stands_alike : (v : View) (p k p' k' at j c : ℕ) → StandsAt v p k at → StandsAt v p' k' at → StandsAt v p' (k' + j) c → StandsAt v p (k + j) c
stands_alike v p k p' k' at j c s s' a = record { parent = s.parent; children = λ i l. each i l (dec_lt i k); here = along j ∙ a.here }
  where
    along : (d : ℕ) → walk (next v) p (suc (k + d)) ≡ walk (next v) p' (suc (k' + d))
    along d =
        let e : suc (k + d) ≡ d + suc k = omega arith in
        let e' : d + suc k' ≡ suc (k' + d) = omega arith in
        ap (walk (next v) p) e ∙ walk_add (next v) p (suc k) d ∙ ap (λ (x : ℕ). walk (next v) x d) (s.here ∙ sym s'.here) ∙ sym (walk_add (next v) p' (suc k') d) ∙ ap (walk (next v) p') e'

    each : (i : ℕ) → i < suc (k + j) → Dec (i < k) → Child v (walk (next v) p (suc i))
    each i l (yes h) = s.children i (omega arith)
    each i l (no h) =
        let e : k + (i - k) ≡ i = omega arith in
        let h : Child v (walk (next v) p (suc (k + (i - k)))) = rw (along (i - k)) (a.children (k' + (i - k)) (omega arith)) in
        rw e at h

-- a pair that stands later passes what stands before it
stands_before : (v : View) (p k j at c : ℕ) → walk (next v) p (suc k) ≡ at → StandsAt v p (k + j) c → StandsAt v p k at
stands_before v p k j at c e s = record { parent = s.parent; children = λ i l. s.children i (omega arith); here = e }

-- ---- what is noted

-- what is met twice is not met by one pair alone
not_alone : (v : View) (In : ℕ → ℕ → Type 0) (c of place : ℕ) → MetTwice v In c → ((p k : ℕ) → In p k → StandsAt v p k c → (p ≡ of) × (k ≡ place)) → ⊥
not_alone v In c of place t once =
    let a = once t.p t.k t.passed t.stands in
    let b = once t.p' t.k' t.passed' t.stands' in
    t.differ (a.0 ∙ sym b.0, a.1 ∙ sym b.1)

module _ (v : View) (In In' : ℕ → ℕ → Type 0) (more : (p k : ℕ) → In p k → In' p k) where
  twice_wider : (c : ℕ) → MetTwice v In c → MetTwice v In' c
  twice_wider c t = record {
    p = t.p;
    k = t.k;
    passed = more t.p t.k t.passed;
    stands = t.stands;
    p' = t.p';
    k' = t.k';
    passed' = more t.p' t.k' t.passed';
    stands' = t.stands';
    differ = t.differ;
  }

  -- more pairs may count as passed, if they stand only where two others do
  noted_wider : (met : List ℕ) → ((p k c : ℕ) → In' p k → StandsAt v p k c → (In p k) ⊎ (MetTwice v In c)) → Noted v In met → Noted v In' met
  noted_wider met old n = record {
    long = n.long;
    none = λ c z p k i s. ⊎_elim (λ o. n.none c z p k o s) (λ t. n.none c z t.p t.k t.passed t.stands) (old p k c i s);
    once = λ c z w. (let o = n.once c z w in record {
      place = o.place;
      passed = more _ o.place o.passed;
      stands = o.stands;
      once = λ p k i s. ⊎_elim (λ q. o.once p k q s) (λ t. absurd (not_alone v In c _ o.place t o.once)) (old p k c i s);
    });
    again = λ c e. twice_wider c (n.again c e);
  }

-- no chain is passed
pub noted_none : (v : View) → MetUpTo v (replicate 4097 0) 0
noted_none v = record {
  long = length-replicate {A = ℕ} 4097 0;
  none = λ c z p k i s. omega (arith, s.parent.low);
  once = λ c z w. absurd (z (get_d_zeros 4097 c));
  again = λ c e. absurd (omega (arith, get_d_zeros 4097 c));
}

-- `at`, the m-th child after parent `of`, is met
module _ (v : View) (met : List ℕ) (of m at : ℕ) (n : MetWithin v met of m) (s : StandsAt v of m at) (few : v.indexes ≤ 4096) (small : at < 4097) where
  more : (p k : ℕ) → PassedPairs of m p k → PassedPairs of (suc m) p k
  more p k i = ⊎_elim (λ l. inl l) (λ e. inr (e.0, omega (arith, e.1))) i

  cut : (p k : ℕ) → PassedPairs of (suc m) p k → (PassedPairs of m p k) ⊎ ((p ≡ of) × (k ≡ m))
  cut p k i =
      ⊎_elim (λ l. inl (inl l)) (λ e. elim (dec_lt k m) [ yes l ↦ inl (inr (e.0, l)) | no h ↦ inr (e.0, omega (arith, e.1)) ]) i

  new : PassedPairs of (suc m) of m
  new = inr (refl, omega arith)

  not_yet : (p k : ℕ) → PassedPairs of m p k → (p ≡ of) × (k ≡ m) → ⊥
  not_yet p k i e = ⊎_elim (λ l. omega (arith, e.0)) (λ h. omega (arith, h.1, e.1)) i

  -- the new pair stands nowhere else
  other : (c : ℕ) → c ≢ at → (p k : ℕ) → PassedPairs of (suc m) p k → StandsAt v p k c → PassedPairs of m p k
  other c ne p k i q =
      ⊎_elim (λ o. o) (λ e. absurd (ne (sym q.here ∙ ap₂ (λ (x y : ℕ). walk (next v) x (suc y)) e.0 e.1 ∙ s.here))) (cut p k i)

  -- y is noted of it
  module _ (y : ℕ) where
    same : (c : ℕ) → c ≢ at → get_or (set met at y) c 0 ≡ get_or met c 0
    same c ne = get_or-set_other met at c y 0 ne

    now : get_or (set met at y) at 0 ≡ y
    now = get_or-set_same met at y 0 (omega (arith, n.long))

    noted_set : y ≢ 0 → (y ≢ twice → MetOnce v (PassedPairs of (suc m)) at y) → (y ≡ twice → MetTwice v (PassedPairs of (suc m)) at) → MetWithin v (set met at y) of (suc m)
    noted_set none once again = record {
      long = length-set met at y ∙ n.long;
      none = λ c z p k i q. elim (ℕ_discrete c at) [
        | yes e ↦ none (sym now ∙ (rw e at z))
        | no ne ↦ n.none c (sym (same c ne) ∙ z) p k (other c ne p k i q) q
      ];
      once = λ c z w. elim (ℕ_discrete c at) [
        | yes e ↦ rw (e, now) (once (λ q. w (rw e (now ∙ q))))
        | no ne ↦ rw (same c ne) (before c ne (n.once c (λ q. z (same c ne ∙ q)) (λ q. w (same c ne ∙ q))))
      ];
      again = λ c z. elim (ℕ_discrete c at) [
        | yes e ↦ rw e (again (sym now ∙ (rw e at z)))
        | no ne ↦ twice_wider v (PassedPairs of m) (PassedPairs of (suc m)) more c (n.again c (sym (same c ne) ∙ z))
      ];
    }
      where
        before : (c : ℕ) → c ≢ at → {x : ℕ} → MetOnce v (PassedPairs of m) c x → MetOnce v (PassedPairs of (suc m)) c x
        before c ne {x} o = record { place = o.place; passed = more x o.place o.passed; stands = o.stands; once = λ p k i q. o.once p k (other c ne p k i q) q }

  -- it was met by no pair, or by one
  noted_more : get_or met at 0 ≢ twice → MetWithin v (set met at (after_meeting (get_or met at 0) of)) of (suc m)
  noted_more w = elim (ℕ_discrete (get_or met at 0) 0) [
    | yes z ↦ rw (eq-eqb (get_or met at 0) 0 z) (noted_set of (λ e. omega (arith, s.parent.low)) (λ h. first z) (λ e. absurd (omega (arith, s.parent.high))))
    | no nz ↦ rw (ne_eqb (get_or met at 0) 0 nz) (noted_set twice (λ e. omega arith) (λ h. absurd (h refl)) (λ e. second (n.once at nz w)))
  ]
    where
      first : get_or met at 0 ≡ 0 → MetOnce v (PassedPairs of (suc m)) at of
      first z = record { place = m; passed = new; stands = s; once = λ p k i q. ⊎_elim (λ o. absurd (n.none at z p k o q)) (λ e. e) (cut p k i) }

      second : {x : ℕ} → MetOnce v (PassedPairs of m) at x → MetTwice v (PassedPairs of (suc m)) at
      second {x} o = record {
        p = x;
        k = o.place;
        passed = more x o.place o.passed;
        stands = o.stands;
        p' = of;
        k' = m;
        passed' = new;
        stands' = s;
        differ = not_yet x o.place o.passed;
      }

-- ---- the walk along a chain

-- so many children of parent `of` are met, and `at` is what follows them
pub record Meeting (v : View) (of : ℕ) (met : List ℕ) (at : ℕ) : Type 0 where
  pub steps : ℕ
  pub noted : MetWithin v met of steps
  pub each : (j : ℕ) → j < steps → Child v (walk (next v) of (suc j))
  pub ahead : walk (next v) of (suc steps) ≡ at

pub meeting_none : (v : View) (of : ℕ) (met : List ℕ) (at : ℕ) → Parent v of → MetUpTo v met (of - 1) → at ≡ link_of (v.table of) → Meeting v of met at
unfolding walk
meeting_none v of met at par n e = record {
  steps = 0;
  noted = noted_wider v (λ p k. p ≤ of - 1) (PassedPairs of 0) (λ p k l. inl (omega (arith, par.low))) met (λ p k c i s. inl (⊎_elim (λ l. omega arith) (λ h. absurd (not-suc-le-zero h.1)) i)) n;
  each = λ j l. absurd (not-suc-le-zero l);
  ahead = sym e;
}

-- what is a child has a number, and a note
module _ (v : View) (at : ℕ) (r : Bool) (a : Says r (Child v at)) (e : r ≡ true) where
  pub number_small : v.indexes ≤ 4096 → at < 4097
  number_small few = omega (arith, (says_true r a e).high)

module _ (v : View) (of : ℕ) (met : List ℕ) (at : ℕ) (g : Meeting v of met at) (par : Parent v of) where
  pub meeting_more : (r : Bool) → Says r (Child v at) → r ≡ true → v.indexes ≤ 4096 → get_or met at 0 ≢ twice → (y : ℕ) → y ≡ after_meeting (get_or met at 0) of → (n : ℕ) → n ≡ link_of (v.table at) → Meeting v of (set met at y) n
  unfolding walk
  meeting_more r a t few w y ey n en = record {
    steps = suc g.steps;
    noted = rw ey (noted_more v met of g.steps at g.noted stands few (number_small v at r a t few) w);
    each = each;
    ahead = ap (next v) g.ahead ∙ sym en;
  }
    where
      each : (j : ℕ) → j < suc g.steps → Child v (walk (next v) of (suc j))
      each = up g.steps g.each (rw g.ahead (says_true r a t))

      stands : StandsAt v of g.steps at
      stands = record { parent = par; children = each; here = g.ahead }

  -- the chain is passed, if what follows in it was met twice
  rest : ((j c : ℕ) → StandsAt v of (g.steps + j) c → MetTwice v (PassedPairs of g.steps) c) → MetUpTo v met of
  rest later = noted_wider v (PassedPairs of g.steps) (λ p k. p ≤ of) (λ p k i. ⊎_elim (λ l. omega arith) (λ h. omega (arith, h.0)) i) met old g.noted
    where
      old : (p k c : ℕ) → p ≤ of → StandsAt v p k c → (PassedPairs of g.steps p k) ⊎ (MetTwice v (PassedPairs of g.steps) c)
      old p k c l s = elim (dec_lt p of) [
        | yes h ↦ inl (inl h)
        | no h ↦ (let e : p ≡ of = omega arith in elim (dec_lt k g.steps) [
          | yes b ↦ inl (inr (e, b))
          | no b ↦ (let q : k ≡ g.steps + (k - g.steps) = omega arith in inr (later (k - g.steps) c (rw (← q, ← e) s)))
        ])
      ]

  -- `at` was met twice, and so was what follows it: the two chains that met in it go on as this one
  pub meeting_stop : get_or met at 0 ≡ twice → MetUpTo v met of
  meeting_stop z = rest (λ j c s. later (suc j) j c (omega arith) s)
    where
      t : MetTwice v (PassedPairs of g.steps) at
      t = g.noted.again at z

      on : (p k j c : ℕ) → StandsAt v p k at → StandsAt v of (g.steps + j) c → StandsAt v p (k + j) c
      on p k j c s a = stands_alike v p k of g.steps at j c s (stands_before v of g.steps j at c g.ahead a) a

      -- it is passed at c too, or c stands earlier after `at`
      along : (p k j c : ℕ) → PassedPairs of g.steps p k → StandsAt v p k at → StandsAt v of (g.steps + j) c
          → (PassedPairs of g.steps p (k + j)) ⊎ ((i : ℕ) × (i < j) × StandsAt v of (g.steps + i) c)
      along p k j c i s a = ⊎_elim (λ l. inl (inl l)) (λ h. elim (dec_lt (k + j) g.steps) [
        | yes b ↦ inl (inr (h.0, b))
        | no b ↦ (let q : k + j ≡ g.steps + (k + j - g.steps) = omega arith in inr (k + j - g.steps, omega (arith, h.1), rw (← q, ← h.0) (on p k j c s a)))
      ]) i

      later : (n j c : ℕ) → j < n → StandsAt v of (g.steps + j) c → MetTwice v (PassedPairs of g.steps) c
      later zero j c l a = absurd (not-suc-le-zero l)
      later (suc n) j c l a =
          ⊎_elim (λ i. ⊎_elim (λ i'. record {
            p = t.p;
            k = t.k + j;
            passed = i;
            stands = on t.p t.k j c t.stands a;
            p' = t.p';
            k' = t.k' + j;
            passed' = i';
            stands' = on t.p' t.k' j c t.stands' a;
            differ = λ e. t.differ (e.0, omega (arith, e.1));
          }) (λ h. later n h.0 c (omega (arith, h.1)) h.2) (along t.p' t.k' j c t.passed' t.stands' a))
          (λ h. later n h.0 c (omega (arith, h.1)) h.2)
          (along t.p t.k j c t.passed t.stands a)

-- ---- the walk ends: at each turn fewer meetings are left

-- how often a child may still be met before a walk stops at it
meetings_left : ℕ → ℕ
meetings_left noted = cond (eqb noted 0) 2 (cond (eqb noted twice) 0 1)

pub all_left : List ℕ → ℕ
all_left met = sum_to 4097 (λ i. meetings_left (get_or met i 0))

meeting_less : (noted of : ℕ) → noted ≢ twice → 1 ≤ of → of ≤ 4096 → meetings_left (after_meeting noted of) < meetings_left noted
unfolding meetings_left
meeting_less noted of w lo hi = elim (ℕ_discrete noted 0) [
  | yes z ↦ rw (eq-eqb noted 0 z, ne_eqb of 0 (λ e. omega arith), ne_eqb of twice (λ e. omega arith)) (omega arith)
  | no nz ↦ rw (ne_eqb noted 0 nz, ne_eqb noted twice w) (omega arith)
]

pub left_less : (v : View) (met : List ℕ) (at of y : ℕ) → at < 4097 → length met ≡ 4097 → get_or met at 0 ≢ twice → Parent v of → v.indexes ≤ 4096 → y ≡ after_meeting (get_or met at 0) of → all_left (set met at y) < all_left met
unfolding all_left
left_less v met at of y l long w par few e =
    let d = sum_at 4097 at (λ k. meetings_left (get_or (set met at y) k 0)) (λ k. meetings_left (get_or met k 0)) l (λ k lk ne. ap meetings_left (get_or-set_other met at k y 0 ne)) in
    omega (arith, ap meetings_left (get_or-set_same met at y 0 (omega arith) ∙ e), meeting_less (get_or met at 0) of w par.low (omega (arith, par.high)))

-- ---- all tables

module _ (v : View) (met : List ℕ) (i : ℕ) (e : Entry) (r : Bool) (is : e ≡ entry_of i (v.table i)) (ask : r ≡ is_parent e.kind) (lo : 1 ≤ i) (hi : i ≤ v.indexes) where
  pub meets_parent : not r ≡ false → Parent v i
  meets_parent f = passed r (parent_says v i e is lo hi r ask) f

  -- a table that is no parent has no chain
  pub meets_none : not r ≡ true → MetUpTo v met (i - 1) → MetUpTo v met i
  meets_none f n = noted_wider v (λ p k. p ≤ i - 1) (λ p k. p ≤ i) (λ p k l. omega arith) met (λ p k c l s. inl (below p l s.parent)) n
    where
      below : (p : ℕ) → p ≤ i → Parent v p → p ≤ i - 1
      below p l h = elim (ℕ_discrete p i) [ yes q ↦ absurd (refused r (parent_says v i e is lo hi r ask) f (rw q at h)) | no ne ↦ omega arith ]

-- ---- a link

module _ (v : View) (i : ℕ) (e : Entry) (is : e ≡ entry_of i (v.table i)) (lo : 1 ≤ i) (hi : i ≤ v.indexes) (r : Bool) (ask : r ≡ is_parent e.kind) where
  pub chain_parent : r ≡ true → (Parent v i) ⊎ (Child v i)
  chain_parent f = inl (says_true r (parent_says v i e is lo hi r ask) f)

  pub chain_child : r ≡ false → v.indexes ≤ 4096 → (u : Bool) → u ≡ is_child e.kind → Says u ((Parent v i) ⊎ (Child v i))
  chain_child f few u q = says_map u (λ h. inr h) (λ h. ⊎_elim (λ g. absurd (says_false r (parent_says v i e is lo hi r ask) f g)) (λ g. g) h) (child_says v i e is lo hi few u q)
