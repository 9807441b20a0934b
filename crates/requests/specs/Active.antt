-- Active files, and the numbers that pass a test: what search and list share.
use Rattle.std.specs.Prelude.{Bool, cond, List, [], ◌∷◌, ◌++◌, ℕ, zero, suc, eqb}
use Rattle.tables.specs.Rules.R9.{active_one}
use Rattle.tables.specs.Views.{View}

-- table i is an active file's parent: what rule R9 counts as one
unfoldable pub is_active : View → ℕ → Bool
is_active v i = eqb (active_one i (v.table i)) 1

-- the numbers from 1 to n that pass the test, ascending
unfoldable pub passing : (ℕ → Bool) → ℕ → List ℕ
passing test zero = []
passing test (suc n) = passing test n ++ cond (test (suc n)) (suc n ∷ []) []
