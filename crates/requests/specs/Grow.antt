-- "Grow to a wanted length: below 0 is 7; if not longer, no byte changes; else add the fewest blocks of the file's type, and set the length;
-- all or nothing. Write protection gives 10."
use Rattle.std.specs.Prelude.{◌≡◌, cond, List, [], ◌∷◌, ◌++◌, ℕ, ◌<◌, ltb, Option}
use Rattle.tables.specs.Dates.{Date}
use Rattle.tables.specs.Indexes.{length_of}
use Rattle.tables.specs.Places.{places_of}
use Rattle.tables.specs.Gates.{Test, asks, Gate}
use Rattle.tables.specs.Room.{count_at, Supply}
use Rattle.tables.specs.Views.{view_of}
use Rattle.tables.specs.Rules.R8.{file_type}
use Rattle.allocation.specs.Last.{cursor_of}
use Rattle.allocation.specs.MadeFiles.{only_counts, TablesEnough, blocks_for, grown}
use Rattle.requests.specs.Answers.{after, argument_tests}
use Rattle.requests.specs.Amounts.{SignedAmount, amount_value}
use Rattle.requests.specs.Named.{file_bytes, state_tests, named_tests, Unprotected, VariableSize}

-- what grow asks of its arguments
pub record GrowAllowed (long : Option ℕ) (date : List ℕ) : Type 0 where
  pub long' : SignedAmount long
  pub date' : Date date

-- the blocks that file id lacks for so many bytes, by type
abbrev pub grow_counts : List ℕ → ℕ → ℕ → List ℕ
grow_counts b id long = only_counts (file_type (view_of (places_of b) b) id) (blocks_for (view_of (places_of b) b) id long)

-- 10, then 11 "grow of a fixed file"
unfoldable pub kind_tests : List ℕ → ℕ → List Test
kind_tests b id = asks 10 (Unprotected 4 b id) ∷ asks 11 (VariableSize b id) ∷ []

-- where the wanted length is longer, 12 and 13
unfoldable pub lack_tests : List ℕ → ℕ → ℕ → List Test
lack_tests b id long =
    asks 12 (length_of (file_bytes b id) < long → Supply (view_of (places_of b) b) (count_at (grow_counts b id long)))
    ∷ asks 13 (length_of (file_bytes b id) < long → TablesEnough (places_of b) b (cursor_of (places_of b) b id).tail (grow_counts b id long)) ∷ []

-- 8 to 13
unfoldable pub file_tests : List ℕ → ℕ → ℕ → List Test
unfolding state_tests kind_tests lack_tests
file_tests b id long = named_tests b id ++ (kind_tests b id ++ lack_tests b id long)

-- 1 to 5, 7, then these
unfoldable pub grow_tests : List ℕ → List ℕ → ℕ → Option ℕ → List ℕ → List Test
unfolding file_tests
grow_tests b withheld id long date = argument_tests b withheld (GrowAllowed long date) ++ file_tests b id (amount_value long)

-- "if not longer, no byte changes"
unfoldable pub grown_to : List ℕ → ℕ → ℕ → List ℕ → List ℕ
grown_to b id long date = cond (ltb (length_of (file_bytes b id)) long) (grown (places_of b) b id (grow_counts b id long) long date) b

-- grow's promise
pub record Grew (b withheld : List ℕ) (id : ℕ) (long : Option ℕ) (date : List ℕ) (r : ℕ) (b' : List ℕ) : Type 0 where
  pub number : Gate (grow_tests b withheld id long date) r
  pub books : b' ≡ after r (grown_to b id (amount_value long) date) b
