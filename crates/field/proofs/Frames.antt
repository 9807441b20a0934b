-- The laws of frames: how the frames of writes are put together.
use mathlib.Core.Path.{refl, ◌∙◌}
use mathlib.Core.Logic.{inl, inr, ⊎_elim}
use Prim.Native.Nat.{ℕ, ◌+◌, ◌≤◌}
use native.Mathlib.Omega.{arith}
use mathlib.Core.List.{List}
use lib.ListN.{set, length-set}
use lib.Seq.{get_or-set_other}
use Rattle.field.specs.Kept.{Kept}

pub kept_refl : (b : List ℕ) (o n : ℕ) → Kept b b o n
kept_refl b o n = record { len = refl; out = λ j a. refl }

pub kept_trans : {a b c : List ℕ} {o n : ℕ} → Kept a b o n → Kept b c o n → Kept a c o n
kept_trans h k = record { len = k.len ∙ h.len; out = λ j a. k.out j a ∙ h.out j a }

-- a frame may be stated wider
pub kept_wider : {a b : List ℕ} {o n p m : ℕ} → Kept a b o n → p ≤ o → o + n ≤ p + m → Kept a b p m
kept_wider h lo hi = record {
  len = h.len;
  out = λ j a. h.out j (⊎_elim (λ x. inl (omega arith)) (λ x. inr (omega arith)) a);
}

pub kept_set : (b : List ℕ) (o v : ℕ) → Kept b (set b o v) o 1
kept_set b o v = record {
  len = length-set b o v;
  out = λ j a. get_or-set_other b o j v 0 (⊎_elim (λ x. omega arith) (λ x. omega arith) a);
}
