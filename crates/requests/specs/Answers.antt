-- What a request leaves: "0 is done. Every refusal returns zeros beside its number and alters no lent byte."
use Rattle.std.specs.Prelude.{◌≢◌, ℕ, zero, suc, List, [], ◌∷◌, ◌++◌, Result, Ok, Err}
use Rattle.tables.specs.declared.refusal.Refusal.{Refusal}
use Rattle.tables.specs.Sector1.{flag_of}
use Rattle.tables.specs.Gates.{Test, asks}
use Rattle.tables.specs.Books.{book_tests}

-- a lent buffer afterwards: new where the number is 0, else as it was
abbrev pub after : ℕ → List ℕ → List ℕ → List ℕ
after zero new old = new
after (suc k) new old = old

-- ---- the numbers that begin a request

-- 1 to 4, and 7 for the withheld list between 3 and 4, then n where the flag is f
abbrev pub flag_tests : ℕ → ℕ → List ℕ → List ℕ → List Test
flag_tests f n b withheld = book_tests b withheld ++ (asks n (flag_of b ≢ f) ∷ [])

-- these with 5 "flag 0", called 1 to 5 from here on: they begin all requests but format, mount and report
unfoldable pub use_tests : List ℕ → List ℕ → List Test
use_tests b withheld = flag_tests 0 5 b withheld

-- 1 to 5, then 7 "an argument not allowed here"
unfoldable pub argument_tests : List ℕ → List ℕ → Type 0 → List Test
argument_tests b withheld allowed = use_tests b withheld ++ (asks 7 allowed ∷ [])

-- ---- an answer with one value

-- this paper's value, 0 beside a refusal
abbrev pub value_of : Result ℕ Refusal → ℕ
value_of (Ok n) = n
value_of (Err e) = 0
