-- The lowest number that passes a test: where it lies, that it passes and none below it does, and that this tells it.
use mathlib.Core.Path.{◌≡◌, refl, sym, ap, ◌∙◌}
use mathlib.Core.Logic.{◌⊎◌, inl, inr, ⊎_elim}
use mathlib.Core.Bool.{Bool, true, false}
use Prim.Native.Nat.{ℕ, zero, suc, ◌+◌, ◌-◌, ◌≤◌, ◌<◌}
use native.Mathlib.Decide.{dec_lt}
use native.Mathlib.Omega.{arith}
use Rattle.std.specs.Prelude.{Option, Some, None, MatchOption, unwrap_or}
use Rattle.tables.specs.declared.kinds.Zone.{Zone}
use Rattle.allocation.specs.Find.{find, ZoneFound}

-- a test passes or fails
pub either : (t : Bool) → (t ≡ true) ⊎ (t ≡ false)
either true = inl refl
either false = inr refl

module _ (test : ℕ → Bool) where
  pub find_end : (from : ℕ) → find test 0 from ≡ from
  unfolding find
  find_end from = refl

  pub find_hit : (n from : ℕ) → test from ≡ true → find test (suc n) from ≡ from
  unfolding find
  find_hit n from h = rw h

  pub find_miss : (n from : ℕ) → test from ≡ false → find test (suc n) from ≡ find test n (suc from)
  unfolding find
  find_miss n from h = rw h

  pub find_low : (n from : ℕ) → from ≤ find test n from
  find_low zero from = omega (arith, find_end from)
  find_low (suc n) from = ⊎_elim (λ h. omega (arith, find_hit n from h)) (λ h. omega (arith, find_miss n from h, find_low n (suc from))) (either (test from))

  pub find_high : (n from : ℕ) → find test n from ≤ from + n
  find_high zero from = omega (arith, find_end from)
  find_high (suc n) from = ⊎_elim (λ h. omega (arith, find_hit n from h)) (λ h. omega (arith, find_miss n from h, find_high n (suc from))) (either (test from))

  -- what is found passes
  pub find_passes : (n from : ℕ) → find test n from < from + n → test (find test n from) ≡ true
  find_passes zero from l = absurd (omega (arith, find_end from))
  find_passes (suc n) from l =
      ⊎_elim (λ h. rw (find_hit n from h) h) (λ h. (let e = find_miss n from h in rw e (find_passes n (suc from) (omega (arith, e))))) (either (test from))

  -- none below it does
  pub find_none : (n from k : ℕ) → k < find test n from → from ≤ k → test k ≡ false
  find_none zero from k l h = absurd (omega (arith, find_end from))
  find_none (suc n) from k l h =
      ⊎_elim (λ t. absurd (omega (arith, find_hit n from t)))
      (λ t. elim (dec_lt from k) [ yes b ↦ find_none n (suc from) k (omega (arith, find_miss n from t)) b | no b ↦ (let e : k ≡ from = omega arith in rw e t) ])
      (either (test from))

  -- numbers that fail may be passed over
  pub find_skip : (n from m : ℕ) → from ≤ m → m ≤ from + n → ((j : ℕ) → j < m → from ≤ j → test j ≡ false) → find test n from ≡ find test (from + n - m) m
  find_skip zero from m l h f = let e : m ≡ from = omega arith in let q : from + 0 - from ≡ 0 = omega arith in rw (e, q)
  find_skip (suc n) from m l h f = elim (dec_lt from m) [
    | yes b ↦
        let e : suc from + n - m ≡ from + suc n - m = omega arith in
        find_miss n from (f from b (omega arith)) ∙ find_skip n (suc from) m b (omega arith) (λ j lj hj. f j lj (omega arith)) ∙ ap (λ (x : ℕ). find test x m) e
    | no b ↦ (let e : m ≡ from = omega arith in let q : from + suc n - from ≡ suc n = omega arith in rw (e, q))
  ]

  -- the first that passes is what is found
  pub find_at : (n from k : ℕ) → from ≤ k → k < from + n → test k ≡ true → ((j : ℕ) → j < k → from ≤ j → test j ≡ false) → find test n from ≡ k
  find_at n from k l h t f =
      let e : from + n - k ≡ suc (from + n - k - 1) = omega arith in
      find_skip n from k l (omega arith) f ∙ ap (λ (x : ℕ). find test x k) e ∙ find_hit _ k t

  pub find_all : (n from : ℕ) → ((j : ℕ) → j < from + n → from ≤ j → test j ≡ false) → find test n from ≡ from + n
  find_all n from f =
      let e : from + n - (from + n) ≡ 0 = omega arith in
      find_skip n from (from + n) (omega arith) (omega arith) f ∙ ap (λ (x : ℕ). find test x (from + n)) e ∙ find_end (from + n)

  -- something is found where one passes
  pub find_some : (n from k : ℕ) → from ≤ k → k < from + n → test k ≡ true → find test n from < from + n
  find_some n from k lo hi h =
      elim (dec_lt k (find test n from)) [
        | yes l ↦ (let e = find_none n from k l lo in let q : ◌≡◌ {A = ℕ} 0 1 = cc in absurd (omega arith))
        | no l ↦ omega arith
      ]

-- tests that agree on the numbers find the same
pub find_same : (test test' : ℕ → Bool) (n from : ℕ) → ((j : ℕ) → j < from + n → from ≤ j → test' j ≡ test j) → find test' n from ≡ find test n from
find_same test test' zero from f = find_end test' from ∙ sym (find_end test from)
find_same test test' (suc n) from f =
    ⊎_elim (λ h. find_hit test' n from (here ∙ h) ∙ sym (find_hit test n from h))
    (λ h. find_miss test' n from (here ∙ h) ∙ find_same test test' n (suc from) (λ j l k. f j (omega arith) (omega arith)) ∙ sym (find_miss test n from h)) (either (test from))
  where
    here : test' from ≡ test from
    here = f from (omega arith) (omega arith)

-- ---- a search, number by number, from `from` on: none below k passes

module _ (test : ℕ → Bool) (from last k : ℕ) (low : from ≤ k) (high : k ≤ last) (none : (j : ℕ) → j < k → from ≤ j → test j ≡ false) where
  pub search_hit : k < last → test k ≡ true → k ≡ find test (last - from) from
  search_hit l t = sym (find_at test (last - from) from k low (omega arith) t none)

  pub search_more : test k ≡ false → (j : ℕ) → j < k + 1 → from ≤ j → test j ≡ false
  search_more t j l h = elim (dec_lt j k) [ yes b ↦ none j b h | no b ↦ (let e : j ≡ k = omega arith in rw e t) ]

  pub search_end : last ≤ k → k ≡ find test (last - from) from
  search_end l =
      let e : from + (last - from) ≡ k = omega arith in
      sym (find_all test (last - from) from (λ j lj hj. none j (omega arith) hj) ∙ e)

-- ---- what `find` over a range finds

-- r is the first number from `from` on that passes, below `last`; none where none passes
abbrev pub FirstIn : (ℕ → Bool) → ℕ → ℕ → Option ℕ → Type 0
FirstIn test from last r =
    MatchOption r ((k : ℕ) → from ≤ k → k < last → test k ≡ false)
    (λ i. (from ≤ i) × (i < last) × (test i ≡ true) × ((k : ℕ) → from ≤ k → k < i → test k ≡ false))

pub number_found : (test : ℕ → Bool) (from last : ℕ) (r : Option ℕ) → from ≤ last → FirstIn test from last r → unwrap_or r last ≡ find test (last - from) from
number_found test from last None le none = search_end test from last last le (omega arith) (λ j l h. none j h l) (omega arith)
number_found test from last (Some i) le h = search_hit test from last i h.0 (omega arith) (λ j l k. h.3 j k l) h.1 h.2

pub zone_found : (test : ℕ → Bool) (from last : ℕ) (r : Option ℕ) (z : Option Zone) → from ≤ last → FirstIn test from last r
    → MatchOption r (z ≡ None) (λ i. z ≡ Some (record { 0 = i })) → ZoneFound last (find test (last - from) from) z
zone_found test from last None z le none q = rw q (sym (search_end test from last last le (omega arith) (λ j l h. none j h l) (omega arith)))
zone_found test from last (Some i) z le h q = rw q (search_hit test from last i h.0 (omega arith) (λ j l k. h.3 j k l) h.1 h.2, h.1)
