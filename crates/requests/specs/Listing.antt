-- "List gives the first 64 bytes of each active parent from a given id up, as many as fit whole, and how many; an id below 1 is 7, above N gives
-- none. What isn't filled stays."
use Rattle.std.specs.Prelude.{◌≡◌, Bool, ◌&&◌, List, [], ◌∷◌, ◌++◌, ℕ, ◌/◌, ◌≤◌, leb, length, take, Result, IfOk}
use Rattle.tables.specs.declared.refusal.Refusal.{Refusal}
use Rattle.tables.specs.Refusals.{number_of}
use Rattle.field.specs.Parts.{over}
use Rattle.tables.specs.Places.{places_of}
use Rattle.tables.specs.Gates.{Test, Gate}
use Rattle.tables.specs.Views.{View, view_of}
use Rattle.requests.specs.Answers.{after, argument_tests}
use Rattle.requests.specs.Active.{is_active, passing}

-- an active parent from the given id up
unfoldable pub is_listed : View → ℕ → ℕ → Bool
unfolding is_active
is_listed v from i = leb from i && is_active v i

-- the ids of those that fit whole in so many bytes
unfoldable pub listed : List ℕ → ℕ → ℕ → List ℕ
unfolding is_listed passing
listed b from room = let v = view_of (places_of b) b in take (room / 64) (passing (is_listed v from) v.indexes)

-- their first 64 bytes, one after the other
unfoldable pub fronts : View → List ℕ → List ℕ
fronts v [] = []
fronts v (i ∷ ids) = take 64 (v.table i) ++ fronts v ids

-- 1 to 5, then 7
abbrev pub list_tests : List ℕ → List ℕ → ℕ → List Test
list_tests b withheld from = argument_tests b withheld (1 ≤ from)

-- list's promise
pub record Listed (b withheld : List ℕ) (from : ℕ) (entries : List ℕ) (r : Result ℕ Refusal) (entries' : List ℕ) : Type 0 where
  pub number : Gate (list_tests b withheld from) (number_of r)
  pub answer : IfOk r (λ (n : ℕ). n ≡ length (listed b from (length entries)))
  pub bytes : entries' ≡ after (number_of r) (over entries 0 (fronts (view_of (places_of b) b) (listed b from (length entries)))) entries
