-- The laws of sums.
use mathlib.Core.Path.{◌≡◌, refl, sym, ap, ap₂, ◌∙◌}
use mathlib.Core.Logic.{◌≢◌, ⊎_elim}
use mathlib.Core.Bool.{cond}
use Prim.Native.Nat.{ℕ, zero, suc, ◌+◌, ◌-◌, ◌≤◌, ◌<◌}
use native.Mathlib.Nat.{eq-or-lt_of_le, le_of_suc-le-suc, not-suc-le-zero, le_refl, add-zero, add-suc}
use native.Mathlib.Numerals.{add-one}
use native.Mathlib.Decide.{ℕ_discrete, dec_lt}
use native.Mathlib.Omega.{arith}
use lib.Dec.{eqb}
use borrow.Author.Tests.{eq-eqb, ne_eqb}
use Rattle.field.specs.Sum.{sum_to}

-- the code's i + 1 against the definition's suc i
pub sum_more : (n : ℕ) (f : ℕ → ℕ) → sum_to (n + 1) f ≡ sum_to n f + f n
unfolding sum_to
sum_more n f = rw (add-one n)

pub sum_same : (n : ℕ) (f g : ℕ → ℕ) → ((k : ℕ) → k < n → f k ≡ g k) → sum_to n f ≡ sum_to n g
unfolding sum_to
sum_same zero f g h = refl
sum_same (suc n) f g h = ap₂ (λ (x y : ℕ). x + y) (sum_same n f g (λ k l. h k (omega arith))) (h n (omega arith))

-- two sums that differ at one place
pub sum_at : (n i : ℕ) (f g : ℕ → ℕ) → i < n → ((k : ℕ) → k < n → k ≢ i → f k ≡ g k) → sum_to n f + g i ≡ sum_to n g + f i
unfolding sum_to
sum_at zero i f g l h = absurd (not-suc-le-zero l)
sum_at (suc n) i f g l h =
    ⊎_elim (λ e. let s = sum_same n f g (λ k lk. h k (omega arith) (omega arith)) in rw e (omega arith))
    (λ lt. let s = sum_at n i f g lt (λ k lk. h k (omega arith)) in let t = h n (omega arith) (omega arith) in omega arith)
    (eq-or-lt_of_le (le_of_suc-le-suc l))

pub sum_zero : (n : ℕ) (f : ℕ → ℕ) → ((k : ℕ) → k < n → f k ≡ 0) → sum_to n f ≡ 0
unfolding sum_to
sum_zero zero f h = refl
sum_zero (suc n) f h = omega (arith, sum_zero n f (λ k l. h k (omega arith)), h n (omega arith))

pub sum_one : (n : ℕ) (f : ℕ → ℕ) → ((k : ℕ) → k < n → f k ≡ 1) → sum_to n f ≡ n
unfolding sum_to
sum_one zero f h = refl
sum_one (suc n) f h = omega (arith, sum_one n f (λ k l. h k (omega arith)), h n (omega arith))

-- the first parts and one more are no more than all
pub sum_upto : (n i : ℕ) (f : ℕ → ℕ) → i < n → sum_to i f + f i ≤ sum_to n f
unfolding sum_to
sum_upto zero i f l = absurd (not-suc-le-zero l)
sum_upto (suc n) i f l = ⊎_elim (λ e. rw e (le_refl _)) (λ lt. omega (arith, sum_upto n i f lt)) (eq-or-lt_of_le (le_of_suc-le-suc l))

-- a part is no more than the sum
pub sum_part : (n i : ℕ) (f : ℕ → ℕ) → i < n → f i ≤ sum_to n f
unfolding sum_to
sum_part zero i f l = absurd (not-suc-le-zero l)
sum_part (suc n) i f l =
    ⊎_elim (λ e. rw e (omega arith)) (λ lt. omega (arith, sum_part n i f lt)) (eq-or-lt_of_le (le_of_suc-le-suc l))

-- n parts of at most 1 that come to n are all 1
pub sum_le : (n : ℕ) (f : ℕ → ℕ) → ((k : ℕ) → k < n → f k ≤ 1) → sum_to n f ≤ n
unfolding sum_to
sum_le zero f h = le_refl 0
sum_le (suc n) f h = omega (arith, sum_le n f (λ k l. h k (omega arith)), h n (omega arith))

pub sum_full : (n : ℕ) (f : ℕ → ℕ) → ((k : ℕ) → k < n → f k ≤ 1) → sum_to n f ≡ n → (k : ℕ) → k < n → f k ≡ 1
unfolding sum_to
sum_full zero f h e k l = absurd (not-suc-le-zero l)
sum_full (suc n) f h e k l =
    let a = sum_le n f (λ k l. h k (omega arith)) in
    let c = h n (omega arith) in
    ⊎_elim (λ q. rw q (omega arith)) (λ lt. sum_full n f (λ k l. h k (omega arith)) (omega arith) k lt) (eq-or-lt_of_le (le_of_suc-le-suc l))

pub sum_add : (n : ℕ) (f g : ℕ → ℕ) → sum_to n (λ k. f k + g k) ≡ sum_to n f + sum_to n g
unfolding sum_to
sum_add zero f g = refl
sum_add (suc n) f g = omega (arith, sum_add n f g)

-- a sum in two parts
pub sum_cut : (m n : ℕ) (f : ℕ → ℕ) → sum_to (m + n) f ≡ sum_to m f + sum_to n (λ k. f (m + k))
unfolding sum_to
sum_cut m zero f = rw add-zero (omega arith)
sum_cut m (suc n) f = rw add-suc (omega (arith, sum_cut m n f))

-- ---- which parts are more than 0

pub sum_some : (n : ℕ) (f : ℕ → ℕ) → 0 < sum_to n f → (k : ℕ) × (k < n) × (0 < f k)
unfolding sum_to
sum_some zero f h = absurd (omega arith)
sum_some (suc n) f h = elim (dec_lt 0 (f n)) [ yes l ↦ (n, omega arith, l) | no l ↦ (let r = sum_some n f (omega arith) in (r.0, omega (arith, r.1), r.2)) ]

-- two parts at different places are together no more than the sum
pub sum_two : (n i j : ℕ) (f : ℕ → ℕ) → i < j → j < n → f i + f j ≤ sum_to n f
unfolding sum_to
sum_two zero i j f l h = absurd (not-suc-le-zero h)
sum_two (suc n) i j f l h =
    ⊎_elim (λ e. rw e (omega (arith, sum_part n i f (omega arith)))) (λ lt. omega (arith, sum_two n i j f l lt)) (eq-or-lt_of_le (le_of_suc-le-suc h))

pub sum_single : (n : ℕ) (f : ℕ → ℕ) → sum_to n f ≤ 1 → (i : ℕ) → i < n → 0 < f i → (j : ℕ) → j < n → 0 < f j → i ≡ j
sum_single n f h i li pi j lj pj =
    elim (dec_lt i j) [ yes l ↦ absurd (omega (arith, sum_two n i j f l lj)) | no l ↦ elim (dec_lt j i) [ yes m ↦ absurd (omega (arith, sum_two n j i f m li)) | no m ↦ omega arith ] ]

-- what stands at m different places is taken out of a sum
pub sum_out : (n m : ℕ) (F f f' : ℕ → ℕ) → ((k : ℕ) → k < m → F k < n) → ((k : ℕ) → k < m → (j : ℕ) → j < k → F j ≢ F k)
    → ((k : ℕ) → k < m → f' (F k) ≡ 0) → ((i : ℕ) → i < n → ((k : ℕ) → k < m → F k ≢ i) → f' i ≡ f i)
    → sum_to n f' + sum_to m (λ k. f (F k)) ≡ sum_to n f
unfolding sum_to
sum_out n zero F f f' below once zeros same = omega (arith, sum_same n f' f (λ i l. same i l (λ k lk. absurd (not-suc-le-zero lk))))
sum_out n (suc m) F f f' below once zeros same =
    let g : ℕ → ℕ = λ i. cond (eqb i (F m)) 0 (f i) in
    let ih = sum_out n m F (λ i. cond (eqb i (F m)) 0 (f i)) f' (λ k l. below k (omega arith)) (λ k l. once k (omega arith)) (λ k l. zeros k (omega arith)) (λ i l ne. at i l ne) in
    let d = sum_at n (F m) f (λ i. cond (eqb i (F m)) 0 (f i)) (below m (omega arith)) (λ i l ne. rw (ne_eqb i (F m) ne) refl) in
    let z : cond (eqb (F m) (F m)) 0 (f (F m)) ≡ 0 = rw (eq-eqb (F m) (F m) refl) refl in
    let s : sum_to m (λ k. cond (eqb (F k) (F m)) 0 (f (F k))) ≡ sum_to m (λ k. f (F k)) = sum_same m _ _ (λ k l. rw (ne_eqb (F k) (F m) (once m (omega arith) k l)) refl) in
    omega arith
  where
    at : (i : ℕ) → i < n → ((k : ℕ) → k < m → F k ≢ i) → f' i ≡ cond (eqb i (F m)) 0 (f i)
    at i l ne = elim (ℕ_discrete i (F m)) [
      | yes e ↦ rw (eq-eqb i (F m) e, e) (zeros m (omega arith))
      | no d ↦ rw (ne_eqb i (F m) d) (same i l (λ k lk. elim (ℕ_discrete k m) [ yes q ↦ (λ e. d (sym e ∙ ap F q)) | no q ↦ ne k (omega arith) ]))
    ]

-- so many different numbers below n are at most n
pub different_le : (n m : ℕ) (F : ℕ → ℕ) → ((k : ℕ) → k < m → F k < n) → ((k : ℕ) → k < m → (j : ℕ) → j < k → F j ≢ F k) → m ≤ n
different_le n m F below once =
    let taken = sum_out n m F (λ i. 1) (λ i. 1 - sum_to m (hit i)) below once
    (λ k l. omega (arith, hit_here k, sum_part m k (hit (F k)) l))
    (λ i l out. omega (arith, sum_zero m (hit i) (λ k lk. rw (ne_eqb (F k) i (out k lk)) refl))) in
    omega (arith, taken, sum_one m (λ k. 1) (λ k l. refl), sum_one n (λ k. 1) (λ k l. refl))
  where
    hit : ℕ → ℕ → ℕ
    hit i k = cond (eqb (F k) i) 1 0

    hit_here : (k : ℕ) → hit (F k) k ≡ 1
    hit_here k = rw (eq-eqb (F k) (F k) refl) refl

-- a sum of parts that are 0 or 1, of which one at most is not 0
pub sum_once : (n : ℕ) (f : ℕ → ℕ) → ((k : ℕ) → k < n → f k ≤ 1) → ((k : ℕ) → k < n → (l : ℕ) → l < n → 0 < f k → 0 < f l → k ≡ l) → sum_to n f ≤ 1
unfolding sum_to
sum_once zero f few one = omega arith
sum_once (suc n) f few one =
    elim (dec_lt 0 (f n)) [
      | yes h ↦ (let z : sum_to n f ≡ 0 = sum_zero n f (λ k l. elim (dec_lt 0 (f k)) [
        | yes g ↦ (let e : k ≡ n = one k (omega arith) n (omega arith) g h in absurd (omega arith))
        | no g ↦ omega arith
      ]) in omega (arith, few n (omega arith)))
      | no h ↦ omega (arith, sum_once n f (λ k l. few k (omega arith)) (λ k l m j. one k (omega arith) m (omega arith)))
    ]
