-- Chains: a walk that ends meets nothing twice, and so the paper's "once" follows from the rules.
use mathlib.Core.Path.{◌≡◌, refl, sym, ap, ◌∙◌}
use Prim.Native.Nat.{ℕ, zero, suc, ◌+◌, ◌-◌, ◌≤◌, ◌<◌}
use native.Mathlib.Decide.{dec_lt}
use native.Mathlib.Omega.{arith}
use Rattle.tables.specs.Indexes.{parent_of}
use Rattle.tables.specs.Views.{View, Parent, walk, next}
use Rattle.tables.specs.Rules.R4.{R4}
use Rattle.tables.specs.Rules.R5.{FileChain, R5}

-- ---- walks

pub walk_add : (f : ℕ → ℕ) (h j k : ℕ) → walk f h (k + j) ≡ walk f (walk f h j) k
unfolding walk
walk_add f h j zero = ap (walk f h) (let e : 0 + j ≡ j = omega arith in e)
walk_add f h j (suc k) = ap (walk f h) (let e : suc k + j ≡ suc (k + j) = omega arith in e) ∙ ap f (walk_add f h j k)

-- the walk is the same as far as the links that it passes are
pub walk_same : (f g : ℕ → ℕ) (h m : ℕ) → ((k : ℕ) → k < m → g (walk f h k) ≡ f (walk f h k)) → (k : ℕ) → k ≤ m → walk g h k ≡ walk f h k
unfolding walk
walk_same f g h m same zero l = refl
walk_same f g h m same (suc k) l = ap g (walk_same f g h m same k (omega arith)) ∙ same k l

-- a walk that ends meets nothing twice
pub walk_once : (f : ℕ → ℕ) (h m : ℕ) → walk f h m ≡ 0 → ((k : ℕ) → k < m → 1 ≤ walk f h k) → (k : ℕ) → k < m → (j : ℕ) → j < k → walk f h j ≡ walk f h k → ⊥
walk_once f h m z pos k lk j lj e =
    let p : walk f h ((m - k) + j) ≡ walk f h ((m - k) + k) = walk_add f h j (m - k) ∙ ap (λ (x : ℕ). walk f x (m - k)) e ∙ sym (walk_add f h k (m - k)) in
    let q : walk f h ((m - k) + k) ≡ 0 = ap (walk f h) (let i : (m - k) + k ≡ m = omega arith in i) ∙ z in
    omega (arith, pos ((m - k) + j) (omega arith))

pub walk_tail : (f : ℕ → ℕ) (h k : ℕ) → walk f (f h) k ≡ walk f h (suc k)
unfolding walk
walk_tail f h zero = refl
walk_tail f h (suc k) = ap f (walk_tail f h k)

pub walk_none : (f : ℕ → ℕ) (h : ℕ) → walk f h 0 ≡ h
unfolding walk
walk_none f h = refl

-- so the place at which it meets something is one
pub walk_place : (f : ℕ → ℕ) (h m : ℕ) → walk f h m ≡ 0 → ((k : ℕ) → k < m → 1 ≤ walk f h k) → (k : ℕ) → k < m → (j : ℕ) → j < m → walk f h j ≡ walk f h k → j ≡ k
walk_place f h m z pos k lk j lj e =
    elim (dec_lt j k) [
      | yes l ↦ absurd (walk_once f h m z pos k lk j l e)
      | no h1 ↦ elim (dec_lt k j) [ yes l ↦ absurd (walk_once f h m z pos j lj k l (sym e)) | no h2 ↦ omega arith ]
    ]

-- ---- R4: "meets every free index once"

pub free_once : (v : View) (r : R4 v) (j k : ℕ) → j < r.long → k < r.long → walk (next v) v.head j ≡ walk (next v) v.head k → j ≡ k
free_once v r j k lj lk = walk_place (next v) v.head r.long r.chain.ends (λ n l. (r.chain.each n l).low) k lk j lj

-- ---- R5: "every child stands exactly once in all parents' chains together"

module _ (v : View) (r : R5 v) where
  -- place k of the chain of p, counted from the first child
  abbrev pub member : ℕ → ℕ → ℕ
  member p k = walk (next v) p (suc k)

  pub child_once : (p q j k : ℕ) → Parent v p → Parent v q → j < r.long p → k < r.long q → member p j ≡ member q k → (p ≡ q) × (j ≡ k)
  child_once p q j k hp hq lj lk e =
      let named : p ≡ q = sym ((r.chain p hp).names j lj) ∙ ap (λ (c : ℕ). parent_of (v.table c)) e ∙ (r.chain q hq).names k lk in
      let lk' : k < r.long p = rw named lk in
      let e' : walk (next v) p (suc j) ≡ walk (next v) p (suc k) = rw (← named) at e in
      (named, place p j k hp lj lk' e')
    where
      some : (p : ℕ) → Parent v p → (n : ℕ) → n < suc (r.long p) → 1 ≤ walk (next v) p n
      some p hp zero l = rw (walk_none (next v) p) hp.low
      some p hp (suc n) l = ((r.chain p hp).each n (omega arith)).low

      place : (p j k : ℕ) → Parent v p → j < r.long p → k < r.long p → walk (next v) p (suc j) ≡ walk (next v) p (suc k) → j ≡ k
      place p j k hp lj lk e =
          let same : suc j ≡ suc k = walk_place (next v) p (suc (r.long p)) (r.chain p hp).ends (λ n l. some p hp n l) (suc k) (omega arith) (suc j) (omega arith) e in
          omega arith

-- a chain has one length
module _ (v : View) (p : ℕ) where
  shorter : (m n : ℕ) → FileChain v p m → FileChain v p n → m < n → ⊥
  shorter m n a b l = omega (arith, a.ends, (b.each m l).low)

  pub chain_one : (m n : ℕ) → FileChain v p m → FileChain v p n → m ≡ n
  chain_one m n a b = elim (dec_lt m n) [ yes l ↦ absurd (shorter m n a b l) | no h ↦ elim (dec_lt n m) [ yes l ↦ absurd (shorter n m b a l) | no g ↦ omega arith ] ]
