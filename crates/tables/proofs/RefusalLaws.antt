-- The numbers of refusals: none is 0, and each is one refusal's alone.
use Rattle.std.specs.Prelude.{◌≡◌, ◌≢◌, ℕ, pred, List, [], ◌∷◌, get_or, Result, Ok, Err, IfOk, is_err, false}
use mathlib.Core.Path.{refl, sym, ap, ◌∙◌}
use native.Mathlib.Omega.{arith}
use Rattle.tables.specs.declared.refusal.Refusal.{Refusal}
use Rattle.tables.specs.declared.refusal.Refusal.TheVariants.{WrongLength, WrongMark, WrongLimits, BrokenRule, NotMounted, AlreadyMounted, BadArgument, WrongBody, NoFile, WrongState, ProtectedFile, FixedFile, PastEnd, NoRoom, NoTables}
use Rattle.tables.specs.Refusals.{number, number_of}

pub refused : (e : Refusal) → number e ≢ 0
refused WrongLength = λ h. omega arith
refused WrongMark = λ h. omega arith
refused WrongLimits = λ h. omega arith
refused BrokenRule = λ h. omega arith
refused NotMounted = λ h. omega arith
refused AlreadyMounted = λ h. omega arith
refused BadArgument = λ h. omega arith
refused WrongBody = λ h. omega arith
refused NoFile = λ h. omega arith
refused WrongState = λ h. omega arith
refused ProtectedFile = λ h. omega arith
refused FixedFile = λ h. omega arith
refused PastEnd = λ h. omega arith
refused NoRoom = λ h. omega arith
refused NoTables = λ h. omega arith

-- the refusals by their numbers, from 1 on
by_number : List Refusal
by_number =
    WrongLength ∷ WrongMark ∷ WrongLimits ∷ BrokenRule ∷ NotMounted ∷ AlreadyMounted ∷ BadArgument ∷ NoFile ∷ WrongState ∷ ProtectedFile ∷ FixedFile ∷ NoRoom ∷ NoTables ∷ PastEnd ∷ WrongBody ∷ []

refusal_of : ℕ → Refusal
refusal_of n = get_or by_number (pred n) NoTables

number_back : (e : Refusal) → refusal_of (number e) ≡ e
unfolding refusal_of by_number
number_back WrongLength = refl
number_back WrongMark = refl
number_back WrongLimits = refl
number_back BrokenRule = refl
number_back NotMounted = refl
number_back AlreadyMounted = refl
number_back BadArgument = refl
number_back WrongBody = refl
number_back NoFile = refl
number_back WrongState = refl
number_back ProtectedFile = refl
number_back FixedFile = refl
number_back PastEnd = refl
number_back NoRoom = refl
number_back NoTables = refl

-- no two refusals have one number
pub number_one : (d e : Refusal) → number d ≡ number e → d ≡ e
number_one d e h = sym (number_back d) ∙ ap refusal_of h ∙ number_back e

-- two answers of one number are one, if their values are
pub answers_one : {T : Type 0} (r s : Result T Refusal) (P Q : T → Type 0) → IfOk r P → IfOk s Q → ((x y : T) → P x → Q y → x ≡ y) → number_of r ≡ number_of s → r ≡ s
answers_one (Ok x) (Ok y) P Q h k one e = ap Ok (one x y h k)
answers_one (Ok x) (Err e) P Q h k one i = absurd (refused e (sym i))
answers_one (Err d) (Ok y) P Q h k one i = absurd (refused d i)
answers_one (Err d) (Err e) P Q h k one i = ap Err (number_one d e i)

-- an answer with no error has the number 0, and one with an error another
pub number_ok : {T : Type 0} (r : Result T Refusal) → is_err r ≡ false → number_of r ≡ 0
number_ok (Ok x) h = refl
number_ok (Err e) h = cc
