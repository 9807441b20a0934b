-- R5 holds exactly when it fails at no index table.
use mathlib.Core.Path.{◌≡◌, refl, sym, ap, ◌∙◌}
use mathlib.Core.Logic.{◌⊎◌, inl, inr, ⊎_elim, ◌≢◌}
use Prim.Native.Nat.{ℕ, zero, suc, ◌+◌, ◌-◌, ◌≤◌, ◌<◌}
use native.Mathlib.Nat.{not-suc-le-zero}
use native.Mathlib.Decide.{ℕ_discrete, dec_lt}
use native.Mathlib.Omega.{arith}
use Rattle.field.proofs.Sums.{different_le}
use Rattle.tables.specs.Indexes.{parent_of}
use Rattle.tables.specs.Each.{Each}
use Rattle.tables.specs.Views.{View, Parent, Child, walk, next}
use Rattle.tables.specs.Rules.R5.{FileChain, Stands, R5}
use Rattle.tables.proofs.ChainLaws.{walk_none, child_once}
use Rattle.examination.specs.Chained.{StandsAt, ChildLaw, LinkLaw, ChainLaw}
use Rattle.examination.proofs.MetLaws.{up}

-- what stands in a chain that ends stands before its end
stands_below : (v : View) (p m k c : ℕ) → FileChain v p m → StandsAt v p k c → k < m
stands_below v p m k c ch s = elim (dec_lt k m) [ yes l ↦ l | no h ↦ absurd (omega (arith, (s.children m (omega arith)).low, ch.ends)) ]

-- ---- from the rule to each table

module _ (v : View) (r : R5 v) where
  child_law : (c : ℕ) → Child v c → ChildLaw v c
  child_law c h =
      let o = r.stands c h in
      record {
        parent = parent_of (v.table c);
        place = o.place;
        stands = record { parent = o.parent; children = λ j l. (r.chain (parent_of (v.table c)) o.parent).each j (omega (arith, o.below)); here = o.here };
        once = λ q k s. child_once v r q (parent_of (v.table c)) k o.place s.parent o.parent (stands_below v q (r.long q) k c (r.chain q s.parent) s) o.below (s.here ∙ sym o.here);
        names = refl;
        one = r.one c h;
      }

  -- table i, to which k links lead from parent p
  link_law : (p k i : ℕ) → Parent v p → k ≤ r.long p → walk (next v) p k ≡ i → next v i ≢ 0 → LinkLaw v i
  unfolding walk
  link_law p k i h le e ne =
      elim (dec_lt k (r.long p)) [
        | yes l ↦ record { child = rw e at ((r.chain p h).each k l); full = rw e at ((r.chain p h).full k l) }
        | no n ↦ absurd (ne (ap (next v) (sym e) ∙ ap (λ (n : ℕ). walk (next v) p (suc n)) (let q : k ≡ r.long p = omega arith in q) ∙ (r.chain p h).ends))
      ]

pub R5_each : (v : View) → R5 v → Each (ChainLaw v) 1 (v.indexes + 1)
R5_each v r i l lo = record {
  child = child_law v r i;
  link = λ is ne. ⊎_elim (λ h. link_law v r i 0 i h (omega arith) (walk_none (next v) i) ne) (λ h. (let o = r.stands i h in link_law v r (parent_of (v.table i)) (suc o.place) i o.parent o.below o.here ne)) is;
}

-- ---- from each table to the rule

module _ (v : View) where
  -- the links from p lead to m tables, then to 0
  record Ended (p m : ℕ) : Type 0 where
    here : walk (next v) p (suc m) ≡ 0
    before : (k : ℕ) → k < m → walk (next v) p (suc k) ≢ 0

  -- where the links from p first lead to 0, or that the first n of them do not
  abbrev Ends : ℕ → ℕ → Type 0
  Ends p n = ((m : ℕ) × Ended p m) ⊎ ((k : ℕ) → k < n → walk (next v) p (suc k) ≢ 0)

  ends : (p n : ℕ) → Ends p n
  ends p zero = inr (λ k l. absurd (not-suc-le-zero l))
  ends p (suc n) =
      ⊎_elim (λ e. inl e) (λ none. elim (ℕ_discrete (walk (next v) p (suc n)) 0) [ yes z ↦ inl (n, record { here = z; before = none }) | no ne ↦ inr (up n none ne) ]) (ends p n)

  len : (p n : ℕ) → Ends p n → ℕ
  len p n (inl e) = e.0
  len p n (inr none) = 0

  module _ (all : Each (ChainLaw v) 1 (v.indexes + 1)) where
    child_at : (c : ℕ) → Child v c → ChildLaw v c
    child_at c h = (all c (omega (arith, h.high)) h.low).child h

    link_at : (i : ℕ) → Parent v i ⊎ Child v i → next v i ≢ 0 → LinkLaw v i
    link_at i (inl h) = (all i (omega (arith, h.high)) h.low).link (inl h)
    link_at i (inr h) = (all i (omega (arith, h.high)) h.low).link (inr h)

    -- a parent, and n tables after it that are there
    module _ (p : ℕ) (parent : Parent v p) (n : ℕ) (some : (k : ℕ) → k < n → walk (next v) p (suc k) ≢ 0) where
      -- each follows the parent or a child, so it is a child too
      link_to : (k : ℕ) → k < n → LinkLaw v (walk (next v) p k)
      unfolding walk
      link_to zero l = link_at p (inl parent) (some 0 l)
      link_to (suc k) l = link_at (walk (next v) p (suc k)) (inr (link_to k (omega arith)).child) (some (suc k) l)

      child_to : (k : ℕ) → k < n → Child v (walk (next v) p (suc k))
      unfolding walk
      child_to k l = (link_to k l).child

      stands_to : (k : ℕ) → k < n → (c : ℕ) → walk (next v) p (suc k) ≡ c → StandsAt v p k c
      stands_to k l c e = record { parent = parent; children = λ j lj. child_to j (omega arith); here = e }

      -- they are different, so there are no more of them than tables
      short : n ≤ v.indexes
      short =
          different_le v.indexes n (λ k. walk (next v) p (suc k) - 1) (λ k l. omega (arith, (child_to k l).low, (child_to k l).high)) (λ k l j lj e.
          (let c = child_at (walk (next v) p (suc k)) (child_to k l) in
          omega (
            arith,
            (c.once p k (stands_to k l _ refl)).1,
            (c.once p j (stands_to j (omega arith) (walk (next v) p (suc k)) (omega (arith, (child_to k l).low, (child_to j (omega arith)).low)))).1,
          )))

      chain_to : walk (next v) p (suc n) ≡ 0 → FileChain v p n
      chain_to z = record {
        ends = z;
        each = child_to;
        names = λ k l. (let c = child_at (walk (next v) p (suc k)) (child_to k l) in c.names ∙ sym (c.once p k (stands_to k l _ refl)).0);
        full = λ k l. (link_to k l).full;
      }

    chain_at : (p : ℕ) → Parent v p → (e : Ends p (suc v.indexes)) → FileChain v p (len p (suc v.indexes) e)
    unfolding len
    chain_at p h (inl (m, e)) = chain_to p h m e.before e.here
    chain_at p h (inr none) = absurd (omega (arith, short p h (suc v.indexes) none))

pub each_R5 : (v : View) → Each (ChainLaw v) 1 (v.indexes + 1) → R5 v
each_R5 v all = record { long = long; chain = chain; stands = λ c h. stand c (child_at v all c h); one = λ c h. (child_at v all c h).one }
  where
    long : ℕ → ℕ
    long p = len v p (suc v.indexes) (ends v p (suc v.indexes))

    chain : (p : ℕ) → Parent v p → FileChain v p (long p)
    chain p h = chain_at v all p h (ends v p (suc v.indexes))

    stand : (c : ℕ) → ChildLaw v c → Stands v (parent_of (v.table c)) (long (parent_of (v.table c))) c
    stand c l = rw l.names (record {
      parent = l.stands.parent;
      place = l.place;
      below = stands_below v l.parent (long l.parent) l.place c (chain l.parent l.stands.parent) l.stands;
      here = l.stands.here;
    })
