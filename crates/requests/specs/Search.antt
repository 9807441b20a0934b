-- "Search lists ids of active files that match, ascending, as many as the lent list of u32 holds, and the full count. The pattern is 1 to 24
-- non-null bytes, else 7." "What isn't filled stays."
use Rattle.std.specs.Prelude.{◌≡◌, ◌≢◌, Bool, cond, ◌&&◌, List, [], ◌∷◌, ℕ, ◌≤◌, ◌<◌, eqb, length, get_or, take, Result, IfOk}
use Rattle.tables.specs.declared.refusal.Refusal.{Refusal}
use Rattle.tables.specs.Refusals.{number_of}
use Rattle.field.specs.Parts.{over}
use Rattle.patterns.specs.Pattern.{matches}
use Rattle.tables.specs.Indexes.{name_of}
use Rattle.tables.specs.Places.{places_of}
use Rattle.tables.specs.Gates.{Test, Gate}
use Rattle.tables.specs.Views.{View, view_of}
use Rattle.requests.specs.Active.{is_active, passing}
use Rattle.requests.specs.Answers.{after, argument_tests}

-- ---- which files

-- the bytes before the first null
unfoldable pub before_null : List ℕ → List ℕ
before_null [] = []
before_null (c ∷ s) = cond (eqb c 0) [] (c ∷ before_null s)

-- an active file whose name matches
unfoldable pub is_match : View → List ℕ → ℕ → Bool
unfolding is_active before_null
is_match v pattern i = is_active v i && matches pattern (before_null (name_of (v.table i)))

-- the ids of the files that match
unfoldable pub found : List ℕ → List ℕ → List ℕ
unfolding is_match passing
found b pattern = let v = view_of (places_of b) b in passing (is_match v pattern) v.indexes

-- ---- the promise

-- "1 to 24 non-null bytes"
pub record PatternAllowed (pattern : List ℕ) : Type 0 where
  pub some : 1 ≤ length pattern
  pub most : length pattern ≤ 24
  pub text : (k : ℕ) → k < length pattern → get_or pattern k 0 ≢ 0

-- 1 to 5, then 7
abbrev pub search_tests : List ℕ → List ℕ → List ℕ → List Test
search_tests b withheld pattern = argument_tests b withheld (PatternAllowed pattern)

-- the lent list with as many of these as it holds
abbrev pub filled_with : List ℕ → List ℕ → List ℕ
filled_with lent ids = over lent 0 (take (length lent) ids)

-- search's promise
pub record Searched (b withheld pattern ids : List ℕ) (r : Result ℕ Refusal) (ids' : List ℕ) : Type 0 where
  pub number : Gate (search_tests b withheld pattern) (number_of r)
  pub answer : IfOk r (λ (n : ℕ). n ≡ length (found b pattern))
  pub list : ids' ≡ after (number_of r) (filled_with ids (found b pattern)) ids
