-- What the functions that `name_matches` calls mean: whether a byte of the pattern stands for one of the name, and the match with three answers.
-- That its answers tell what `matches` does is proved (PatternLaws: three_tells).
use Rattle.std.specs.Prelude.{◌≡◌, Bool, cond, ◌||◌, List, [], ◌∷◌, ℕ, ◌<◌, eqb, length}
use Rattle.patterns.specs.declared.pattern.Match.{Match}
use Rattle.patterns.specs.declared.pattern.Match.TheVariants.{Yes, No, NoTail}
use Rattle.patterns.specs.Pattern.{is_one, is_any, empty}

-- the pattern's byte q, which is no `?`, stands for c
abbrev pub stands_for : ℕ → ℕ → Bool
stands_for q c = is_one q || eqb q c

-- ---- the match with three answers

-- the first answer, and where it is `No` the second
abbrev pub or_else : Match → Match → Match
or_else Yes m = Yes
or_else No m = m
or_else NoTail m = NoTail

-- at a `?`, where `answer` is of what is after it: the first that is not `No`, of the name and its tails in turn; else `NoTail`
abbrev pub any_three : (List ℕ → Match) → List ℕ → Match
any_three answer [] = or_else (answer []) NoTail
any_three answer (c ∷ s) = or_else (answer (c ∷ s)) (any_three answer s)

-- at a byte q that is no `?`: with a name at its end, no tail has a byte for it either
abbrev pub byte_three : (List ℕ → Match) → ℕ → List ℕ → Match
byte_three answer q [] = NoTail
byte_three answer q (c ∷ s) = cond (stands_for q c) (answer s) No

-- of a pattern and a name
unfoldable pub three_way : List ℕ → List ℕ → Match
three_way [] s = cond (empty s) Yes No
three_way (q ∷ p) s = cond (is_any q) (any_three (three_way p) s) (byte_three (three_way p) q s)

-- there is a name left, and it does not match; nothing is said of its tails
pub record Differs (p s : List ℕ) : Type 0 where
  pub some : 0 < length s
  pub answer : three_way p s ≡ No
