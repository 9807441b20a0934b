-- R4: a table's own bytes, and the walk along the chain of free tables.
use mathlib.Core.Path.{◌≡◌, sym, ap, ◌∙◌}
use mathlib.Core.Bool.{Bool, false, not}
use Prim.Native.Nat.{ℕ, suc, ◌≤◌, ◌<◌}
use native.Mathlib.Nat.{not-suc-le-zero}
use native.Mathlib.Decide.{ℕ_discrete, dec_lt}
use native.Mathlib.Omega.{arith}
use mathlib.Core.List.{List}
use lib.ListN.{get_or, set, length, length-set, replicate, length-replicate}
use Rattle.field.specs.Says.{Says}
use Rattle.field.proofs.Tests.{passed}
use Rattle.field.proofs.NumberLaws.{get_d_zeros}
use Rattle.tables.specs.Indexes.{link_of}
use Rattle.tables.specs.Views.{View, Free, walk, next}
use Rattle.examination.specs.Met.{MarkedAt}
use Rattle.tables.specs.Rules.R4.{FreeChain}
use Rattle.tables.proofs.ChainLaws.{walk_once}
use Rattle.examination.proofs.MetLaws.{up, marked_here, marked_still, marked_before}

-- ---- a table's own bytes

-- what is free has a number, and a mark
module _ (v : View) (i : ℕ) (r : Bool) (s : Says r (Free v i)) (e : not r ≡ false) where
  pub free_small : v.indexes ≤ 4096 → i < 4097
  free_small few = omega (arith, (passed r s e).high)

-- ---- the walk

-- so many members are met and marked, and `at` is the next
pub record Walking (v : View) (seen : List ℕ) (at : ℕ) : Type 0 where
  pub steps : ℕ
  pub ahead : walk (next v) v.head steps ≡ at
  pub each : (k : ℕ) → k < steps → Free v (walk (next v) v.head k)
  pub hit : (k : ℕ) → k < steps → MarkedAt seen (walk (next v) v.head k)
  pub only : (i : ℕ) → MarkedAt seen i → (k : ℕ) × (k < steps) × (walk (next v) v.head k ≡ i)
  pub long : length seen ≡ 4097

pub walking_none : (v : View) (at : ℕ) → at ≡ v.head → Walking v (replicate 4097 0) at
unfolding walk
walking_none v at e = record {
  steps = 0;
  ahead = sym e;
  each = λ k l. absurd (not-suc-le-zero l);
  hit = λ k l. absurd (not-suc-le-zero l);
  only = λ i h. absurd (h (get_d_zeros 4097 i));
  long = length-replicate {A = ℕ} 4097 0;
}

module _ (v : View) (seen : List ℕ) (at : ℕ) (w : Walking v seen at) where
  pub free_index : (r : Bool) → Says r (Free v at) → not r ≡ false → v.indexes ≤ 4096 → at < length seen
  free_index r s e few = omega (arith, (passed r s e).high, w.long)

  pub walking_more : (r : Bool) → Says r (Free v at) → not r ≡ false → get_or seen at 0 ≡ 0 → v.indexes ≤ 4096 → (t : List ℕ) → t ≡ v.table at → (n : ℕ) → n ≡ link_of t
      → Walking v (set seen at 1) n
  unfolding walk
  walking_more r s e z few t et n en = record {
    steps = suc w.steps;
    ahead = ap (next v) w.ahead ∙ sym (en ∙ ap link_of et);
    each = up w.steps w.each (rw w.ahead free);
    hit = up w.steps (λ k l. marked_still seen at small (walk (next v) v.head k) (w.hit k l)) (rw w.ahead (marked_here seen at small));
    only = λ i h. elim (ℕ_discrete i at) [ yes q ↦ (w.steps, omega arith, w.ahead ∙ sym q) | no ne ↦ old i (marked_before seen at small i ne h) ];
    long = length-set seen at 1 ∙ w.long;
  }
    where
      free : Free v at
      free = passed r s e

      small : at < length seen
      small = free_index r s e few

      old : (i : ℕ) → MarkedAt seen i → (k : ℕ) × (k < suc w.steps) × (walk (next v) v.head k ≡ i)
      old i h = let o = w.only i h in (o.0, omega (arith, o.1), o.2)

  -- a lawful chain goes on from here
  module _ (m : ℕ) (c : FreeChain v m) where
    goes_on : (at ≡ 0 → ⊥) → w.steps < m
    goes_on ne = elim (dec_lt w.steps m) [ yes l ↦ l | no h ↦ absurd (elim (dec_lt m w.steps) [ yes l ↦ omega (arith, (w.each m l).low, c.ends) | no g ↦ here (omega arith) ]) ]
      where
        here : w.steps ≡ m → ⊥
        here e = ne (sym w.ahead ∙ ap (walk (next v) v.head) e ∙ c.ends)

    met_twice : (at ≡ 0 → ⊥) → MarkedAt seen at → ⊥
    met_twice ne h =
        let o = w.only at h in
        walk_once (next v) v.head m c.ends (λ k l. (c.each k l).low) w.steps (goes_on ne) o.0 o.1 (o.2 ∙ sym w.ahead)

  pub stop_marked : MarkedAt seen at → (at ≡ 0 → ⊥) → ((m : ℕ) × FreeChain v m) → ⊥
  stop_marked h ne c = met_twice c.0 c.1 ne h
