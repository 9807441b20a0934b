-- Chains over a range of numbers, against the sums of numbered parts.
use mathlib.Core.Path.{◌≡◌, refl, sym, ap, ap₂, ◌∙◌}
use mathlib.Core.Bool.{Bool, true, false, cond}
use mathlib.Core.List.{List, ◌∷◌, map}
use Prim.Native.Nat.{ℕ, zero, suc, ◌+◌, ◌≤◌}
use native.Mathlib.Nat.{zero-add}
use native.Mathlib.Omega.{arith}
use lib.ListN.{length}
use Rattle.std.proofs.lemmas.List.Sums.{sum-map, sum_by-cons}
use Rattle.std.specs.List.{sum, sum_by, filter, range_with_len}
use Rattle.field.specs.Sum.{sum_to}
use Rattle.field.proofs.Sums.{sum_le, sum_same, sum_cut}
use Rattle.tables.specs.Views.{only_if}

-- the first part, and the others
sum_first_part : (h : ℕ → ℕ) (n a : ℕ) → h a + sum_to n (λ k. h (k + (a + 1))) ≡ sum_to (suc n) (λ k. h (k + a))
unfolding sum_to
sum_first_part h n a =
    let one : sum_to 1 (λ k. h (k + a)) ≡ h a = zero-add _ ∙ ap h (zero-add a) in
    let same : sum_to n (λ k. h (k + (a + 1))) ≡ sum_to n (λ k. h (1 + k + a)) = sum_same n _ _ (λ k l. ap h (omega arith)) in
    ap₂ (λ (x y : ℕ). x + y) (sym one) same ∙ sym (sum_cut 1 n (λ k. h (k + a))) ∙ ap (λ (m : ℕ). sum_to m (λ k. h (k + a))) (let e : 1 + n ≡ suc n = omega arith in e)

sum_by_range : (h : ℕ → ℕ) (n a : ℕ) → sum_by h (range_with_len a n) ≡ sum_to n (λ k. h (k + a))
unfolding sum_to
sum_by_range h zero a = refl
sum_by_range h (suc n) a = sum_by-cons h a (range_with_len (a + 1) n) ∙ ap (λ (s : ℕ). h a + s) (sum_by_range h n (a + 1)) ∙ sum_first_part h n a

-- a sum over the n numbers from a on
pub sum_range : (h : ℕ → ℕ) (n a : ℕ) → sum (map h (range_with_len a n)) ≡ sum_to n (λ k. h (k + a))
sum_range h n a = sum-map h (range_with_len a n) ∙ sum_by_range h n a

counted : (t : Bool) (x : ℕ) (xs : List ℕ) → length (cond t (x ∷ xs) xs) ≡ only_if t 1 + length xs
unfolding only_if
counted true x xs = omega arith
counted false x xs = omega arith

-- how many of the n numbers from a on pass the test
pub count_range : (test : ℕ → Bool) (n a : ℕ) → length (filter test (range_with_len a n)) ≡ sum_to n (λ k. only_if (test (k + a)) 1)
unfolding sum_to
count_range test zero a = refl
count_range test (suc n) a =
    counted (test a) a _ ∙ ap (λ (s : ℕ). only_if (test a) 1 + s) (count_range test n (a + 1)) ∙ sum_first_part (λ z. only_if (test z) 1) n a

at_most_one : (t : Bool) → only_if t 1 ≤ 1
unfolding only_if
at_most_one true = omega arith
at_most_one false = omega arith

-- they are no more than n
pub count_few : (test : ℕ → Bool) (n : ℕ) → sum_to n (λ k. only_if (test k) 1) ≤ n
count_few test n = sum_le n _ (λ k l. at_most_one (test k))
