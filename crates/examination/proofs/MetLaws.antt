-- Marks, a byte for each index: setting one leaves fewer clear, so a walk that marks ends.
use mathlib.Core.Path.{◌≡◌, sym, ap, ◌∙◌, subst}
use mathlib.Core.Logic.{⊎_elim}
use Prim.Native.Nat.{ℕ, suc, ◌-◌, ◌<◌}
use native.Mathlib.Nat.{eq-or-lt_of_le, le_of_suc-le-suc}
use native.Mathlib.Decide.{ℕ_discrete}
use native.Mathlib.Omega.{arith}
use mathlib.Core.List.{List}
use lib.ListN.{get_or, set, length}
use lib.Seq.{get_or-set_same, get_or-set_other}
use Rattle.field.specs.Sum.{sum_to}
use Rattle.field.proofs.Sums.{sum_at}
use Rattle.examination.specs.Met.{MarkedAt}

-- what holds below m and at m holds below m + 1
pub up : {P : ℕ → Type 0} (m : ℕ) → ((k : ℕ) → k < m → P k) → P m → (k : ℕ) → k < suc m → P k
up {P} m all here k l = ⊎_elim (λ e. subst P (sym e) here) (λ lt. all k lt) (eq-or-lt_of_le (le_of_suc-le-suc l))

-- how many marks are clear
unfoldable pub clear : List ℕ → ℕ
clear a = sum_to 4097 (λ i. 1 - get_or a i 0)

pub clear_less : (a : List ℕ) (i : ℕ) → i < 4097 → length a ≡ 4097 → get_or a i 0 ≡ 0 → clear (set a i 1) < clear a
unfolding clear
clear_less a i l len z =
    let d = sum_at 4097 i (λ k. 1 - get_or (set a i 1) k 0) (λ k. 1 - get_or a k 0) l (λ k lk ne. ap (λ (x : ℕ). 1 - x) (get_or-set_other a i k 1 0 ne)) in
    omega (arith, get_or-set_same a i 1 0 (omega arith))

-- the new mark, and the others
module _ (a : List ℕ) (i : ℕ) (l : i < length a) where
  pub marked_here : MarkedAt (set a i 1) i
  marked_here z = omega (arith, get_or-set_same a i 1 0 l)

  pub marked_still : (k : ℕ) → MarkedAt a k → MarkedAt (set a i 1) k
  marked_still k h z = elim (ℕ_discrete k i) [ yes e ↦ marked_here (rw e at z) | no ne ↦ h (sym (get_or-set_other a i k 1 0 ne) ∙ z) ]

  pub marked_before : (k : ℕ) → (k ≡ i → ⊥) → MarkedAt (set a i 1) k → MarkedAt a k
  marked_before k ne h z = h (get_or-set_other a i k 1 0 ne ∙ z)
