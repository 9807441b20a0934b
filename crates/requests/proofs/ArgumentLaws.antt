-- Numbers 1 to 5, and 7: each way out, and what no number says.
use mathlib.Core.Path.{◌≡◌, refl}
use mathlib.Core.Logic.{◌≢◌}
use mathlib.Core.Bool.{Bool, not, true, false}
use mathlib.Core.List.{List, [], ◌∷◌}
use Prim.Native.Nat.{ℕ, ◌≤◌}
use native.Mathlib.Omega.{arith}
use lib.ListN.{length}
use Rattle.field.specs.Says.{Says}
use Rattle.field.proofs.Tests.{passed, refused}
use Rattle.tables.specs.declared.places.Places.{Places}
use Rattle.tables.specs.Places.{places_of}
use Rattle.tables.specs.Gates.{asks, Gate}
use Rattle.tables.specs.Books.{GoodSome}
use Rattle.tables.proofs.GateLaws.{gate_fails, gate_passes, gate_end, gate_stop, gate_skip, gate_rest, gate_head, gate_front, gate_swap}
use Rattle.requests.specs.Answers.{use_tests, argument_tests}
use Rattle.requests.proofs.RequestLaws.{good_room}
use Rattle.requests.proofs.JudgedLaws.{use_good}

-- ---- the books, once they are judged

pub good_at : (b : List ℕ) (p : Places) → GoodSome b (places_of b) → p ≡ places_of b → GoodSome b p
good_at b p g e = rw e g

-- ---- 1 to 5, and 7

true_says : (r : Bool) → Says r (r ≡ true)
true_says true = refl
true_says false = λ e. let z : ◌≡◌ {A = ℕ} 0 1 = cc in omega arith

-- a test of P answers true where P holds
pub says_this : (r : Bool) (P : Type 0) → Says r P → r ≡ true → P
says_this true P s e = s
says_this false P s e = absurd (true_says false e)

pub this_says : (r : Bool) (P : Type 0) → Says r P → P → r ≡ true
this_says true P s p = refl
this_says false P s p = absurd (s p)

module _ (b withheld : List ℕ) where
  pub argument_stops : (P : Type 0) (n : ℕ) → Gate (use_tests b withheld) n → n ≢ 0 → Gate (argument_tests b withheld P) n
  unfolding argument_tests
  argument_stops P n g h = gate_stop (use_tests b withheld) (asks 7 P ∷ []) n g h

  pub argument_refused : (r : Bool) (n : ℕ) → Gate (use_tests b withheld) n → n ≡ 0 → not r ≡ true → Gate (argument_tests b withheld (r ≡ true)) 7
  unfolding argument_tests
  argument_refused r n g e h = gate_skip (use_tests b withheld) (asks 7 (r ≡ true) ∷ []) n 7 g e (gate_fails 7 (r ≡ true) [] (omega arith) (refused r (true_says r) h))

  pub argument_fine : (r : Bool) (n : ℕ) → Gate (use_tests b withheld) n → n ≡ 0 → not r ≡ false → Gate (argument_tests b withheld (r ≡ true)) 0
  unfolding argument_tests
  argument_fine r n g e h = gate_skip (use_tests b withheld) (asks 7 (r ≡ true) ∷ []) n 0 g e (gate_passes 7 (r ≡ true) [] 0 (passed r (true_says r) h) gate_end)

  -- the answer of a test of P
  pub argument_says : (r : Bool) (P : Type 0) (n : ℕ) → Says r P → Gate (argument_tests b withheld (r ≡ true)) n → Gate (argument_tests b withheld P) n
  unfolding argument_tests
  argument_says r P n s g = gate_swap (use_tests b withheld) [] 7 (r ≡ true) P n (says_this r P s) (this_says r P s) g

  pub argument_allowed : (P : Type 0) (n : ℕ) → Gate (argument_tests b withheld P) n → n ≡ 0 → P
  unfolding argument_tests
  argument_allowed P n g e = (gate_head 7 P [] (gate_rest (use_tests b withheld) (asks 7 P ∷ []) (rw e at g))).0

  pub argument_good : (P : Type 0) (n : ℕ) → Gate (argument_tests b withheld P) n → n ≡ 0 → GoodSome b (places_of b)
  unfolding argument_tests
  argument_good P n g e = use_good b withheld 0 (gate_front (use_tests b withheld) (asks 7 P ∷ []) (rw e at g)) refl (places_of b) refl

  pub argued_good : (P : Type 0) (n : ℕ) (p : Places) → Gate (argument_tests b withheld P) n → n ≡ 0 → p ≡ places_of b → GoodSome b p
  argued_good P n p g e is = good_at b p (argument_good P n g e) is

  pub argument_room : (P : Type 0) (n : ℕ) → Gate (argument_tests b withheld P) n → n ≡ 0 → 2048 ≤ length b
  argument_room P n g e = good_room b (places_of b) (argument_good P n g e).1
