-- What a test that says whether P holds is good for, on each way on from it.
use mathlib.Core.Path.{◌≡◌, refl, sym}
use mathlib.Core.Bool.{Bool, true, false, not}
use Prim.Native.Nat.{ℕ}
use native.Mathlib.Omega.{arith}
use lib.Dec.{eqb}
use borrow.Author.Tests.{eqb-true, eq-eqb, not-true, not-false}
use Rattle.field.specs.Says.{Says}

-- nothing is true and false
pub no_true : {A : Type 0} → true ≡ false → A
no_true e = let z : ◌≡◌ {A = ℕ} 0 1 = cc in absurd (omega arith)

pub says_true : {P : Type 0} (r : Bool) → Says r P → r ≡ true → P
says_true true s e = s
says_true false s e = absurd (let z : ◌≡◌ {A = ℕ} 0 1 = cc in omega arith)

pub says_false : {P : Type 0} (r : Bool) → Says r P → r ≡ false → P → ⊥
says_false true s e = absurd (let z : ◌≡◌ {A = ℕ} 0 1 = cc in omega arith)
says_false false s e = s

-- after `if !f(..) { return ..; }`: the test passed, or it did not
pub passed : {P : Type 0} (r : Bool) → Says r P → not r ≡ false → P
passed r s e = says_true r s (not-false r e)

pub refused : {P : Type 0} (r : Bool) → Says r P → not r ≡ true → P → ⊥
refused r s e = says_false r s (not-true r e)

-- the same test says what is equivalent
pub says_map : {P Q : Type 0} (r : Bool) → (P → Q) → (Q → P) → Says r P → Says r Q
says_map true f g s = f s
says_map false f g s = λ q. s (g q)

-- a test that is true exactly where P holds
pub says_test : {P : Type 0} (r : Bool) → (r ≡ true → P) → (P → r ≡ true) → Says r P
says_test true f g = f refl
says_test false f g = λ p. no_true (sym (g p))

-- a test of two numbers
pub says_eq : {P : Type 0} (a b : ℕ) → (a ≡ b → P) → (P → a ≡ b) → Says (eqb a b) P
says_eq a b f g = says_test (eqb a b) (λ e. f (eqb-true a b e)) (λ p. eq-eqb a b (g p))
