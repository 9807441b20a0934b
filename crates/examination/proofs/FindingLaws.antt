-- An examination place by place: what `find`, `all` and `any` answer of a range of places.
use Rattle.std.specs.Prelude.{Option, Some, None}
use Rattle.std.specs.declared.ops.Range.{Range}
use Rattle.std.specs.Fn.{Called, CalledAt}
use Rattle.std.specs.Iterator.{FindsItem, ChecksAll, ChecksAny}
use Rattle.std.specs.List.{range_with_len, AllWithin, HoldsAt}
use Rattle.std.specs.Bool.{MatchBool}
use Rattle.std.specs.Option.{MatchOption}
use Rattle.std.proofs.iter.Yields.{nat_range_steps}
use Rattle.std.proofs.lemmas.Iterator.{first_from_Range, cases_from_all, cases_from_any, YieldsList-from_range}
use Rattle.std.proofs.lemmas.List.FromFn.{length-range_with_len, get_or-range_with_len}
use mathlib.Core.List.{List}
use lib.ListN.{length, get_or}
use denote.Ref.{Bor}
use denote.Param.Members.{Mut}
use mathlib.Core.Path.{◌≡◌, refl, subst, ◌∙◌}
use mathlib.Core.Bool.{Bool, true, false}
use Prim.Native.Nat.{ℕ, ◌+◌, ◌-◌, ◌≤◌, ◌<◌}
use native.Mathlib.Omega.{arith}
use Rattle.field.specs.Says.{Says}
use Rattle.tables.specs.Each.{Each}
use Rattle.examination.specs.Findings.{Finds}

-- a test whose answer is known
pub says_yes : {P : Type 0} (r : Bool) → r ≡ true → P → Says r P
says_yes r e h = rw e h

pub says_no : {P : Type 0} (r : Bool) → r ≡ false → (P → ⊥) → Says r P
says_no r e h = rw e h

-- what `find` answers of a range, where the closure asks whether P fails
module _ {F : Type 0} {g : Mut F (Bor ℕ × Unit {0}) Bool} (P : ℕ → Type 0) (s u : Range ℕ) (f : F) (r : Option ℕ) where
  pub finds_lowest : FindsItem nat_range_steps g s f r u → ((x : ℕ) (q : F) → CalledAt g f x true q → P x → ⊥) → ((x : ℕ) (q : F) → CalledAt g f x false q → (q ≡ f) × P x) → Finds P s.start s.end r
  finds_lowest d fails holds = by r (first_from_Range s u f r (λ x. P x → ⊥) P d fails holds)
    where
      by : (o : Option ℕ) → MatchOption o ((k : ℕ) → s.start ≤ k → k < s.end → P k) (λ i. (s.start ≤ i) × (i < s.end) × (P i → ⊥) × ((k : ℕ) → s.start ≤ k → k < i → P k)) → Finds P s.start s.end o
      by None h = λ k l lo. h k lo l
      by (Some i) h = record { low = h.0; high = h.1; fails = h.2; below = λ k l lo. h.3 k lo l }

module _ (s : Range ℕ) where
  abbrev numbers : List ℕ
  numbers = range_with_len s.start (s.end - s.start)

  long : length numbers ≡ s.end - s.start
  long = length-range_with_len s.start (s.end - s.start)

  number : (k : ℕ) → k < s.end - s.start → get_or numbers k 0 ≡ s.start + k
  number k l = get_or-range_with_len s.start (s.end - s.start) k 0 l

-- what `all` and `any` answer of a range, where the closure asks whether P holds
module _ {F : Type 0} {g : Mut F (ℕ × Unit {0}) Bool} (P : ℕ → Type 0) (s u : Range ℕ) (f : F) (r : Bool) where
  pub says_all : ChecksAll nat_range_steps g s f r u → ((x : ℕ) (q : F) → Called g f (x, tt) true q → (q ≡ f) × P x) → ((x : ℕ) (q : F) → Called g f (x, tt) false q → P x → ⊥) → Says r (Each P s.start s.end)
  says_all d holds fails = by r (cases_from_all u f r P (λ x. P x → ⊥) d (YieldsList-from_range s.start s.end _ refl refl) holds fails)
    where
      by : (t : Bool) → MatchBool t (AllWithin P (numbers s) 0 (length (numbers s))) ((k : ℕ) × (k < length (numbers s)) × HoldsAt (λ x. P x → ⊥) (numbers s) k) → Says t (Each P s.start s.end)
      by true h = λ k l lo. subst P (number s (k - s.start) (omega arith) ∙ (let e : s.start + (k - s.start) ≡ k = omega arith in e)) (h (k - s.start) 0 (omega arith) (omega (arith, long s)))
      by false h = λ each. (let l : h.0 < s.end - s.start = omega (arith, long s, h.1) in subst (λ x. P x → ⊥) (number s h.0 l) (h.2 0) (each (s.start + h.0) (omega arith) (omega arith)))

  pub says_any : ChecksAny nat_range_steps g s f r u → ((x : ℕ) (q : F) → Called g f (x, tt) true q → P x) → ((x : ℕ) (q : F) → Called g f (x, tt) false q → (q ≡ f) × (P x → ⊥))
      → Says r ((k : ℕ) × (s.start ≤ k) × (k < s.end) × P k)
  says_any d holds fails = by r (cases_from_any u f r P (λ x. P x → ⊥) d (YieldsList-from_range s.start s.end _ refl refl) holds fails)
    where
      by : (t : Bool) → MatchBool t ((k : ℕ) × (k < length (numbers s)) × HoldsAt P (numbers s) k) (AllWithin (λ x. P x → ⊥) (numbers s) 0 (length (numbers s))) → Says t ((k : ℕ) × (s.start ≤ k) × (k < s.end) × P k)
      by true h = let l : h.0 < s.end - s.start = omega (arith, long s, h.1) in (s.start + h.0, omega arith, omega arith, subst P (number s h.0 l) (h.2 0))
      by false h = λ some. (let e : s.start + (some.0 - s.start) ≡ some.0 = omega (arith, some.1) in
          subst (λ x. P x → ⊥) (number s (some.0 - s.start) (omega (arith, some.1, some.2)) ∙ e) (h (some.0 - s.start) 0 (omega arith) (omega (arith, long s, some.1, some.2))) some.3)
