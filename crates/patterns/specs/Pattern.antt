-- "`*` is one character, `?` any string, also none." Patterns and names are lists of bytes.
use Rattle.std.specs.Prelude.{◌≡◌, Bool, true, false, cond, ◌&&◌, ◌||◌, List, [], ◌∷◌, ℕ, eqb}

-- the pattern's byte q stands for one character
abbrev pub is_one : ℕ → Bool
is_one q = eqb q 42

-- the pattern's byte q stands for any string
abbrev pub is_any : ℕ → Bool
is_any q = eqb q 63

-- what it means that a pattern matches a name: byte by byte, `*` with any one byte, `?` with none or with one and more to come
pub data Matches : List ℕ → List ℕ → Type 0 where
  end : Matches [] []
  same : {q c : ℕ} {p s : List ℕ} → is_any q ≡ false → q ≡ c → Matches p s → Matches (q ∷ p) (c ∷ s)
  one : {q c : ℕ} {p s : List ℕ} → is_one q ≡ true → Matches p s → Matches (q ∷ p) (c ∷ s)
  none : {q : ℕ} {p s : List ℕ} → is_any q ≡ true → Matches p s → Matches (q ∷ p) s
  more : {q c : ℕ} {p s : List ℕ} → is_any q ≡ true → Matches (q ∷ p) s → Matches (q ∷ p) (c ∷ s)

-- ---- the same as a test

-- nothing is left of a name
abbrev pub empty : List ℕ → Bool
empty [] = true
empty (c ∷ s) = false

-- the test holds of the name or of a tail of it
abbrev pub some_tail : (List ℕ → Bool) → List ℕ → Bool
some_tail test [] = test []
some_tail test (c ∷ s) = test (c ∷ s) || some_tail test s

-- the name begins with what q stands for, a byte, and the test holds of the rest
abbrev pub by_byte : (List ℕ → Bool) → ℕ → List ℕ → Bool
by_byte test q [] = false
by_byte test q (c ∷ s) = (is_one q || eqb q c) && test s

-- a pattern matches a name; that this is `Matches` is proved (PatternLaws: matches-sound, matches-complete)
unfoldable pub matches : List ℕ → List ℕ → Bool
matches [] s = empty s
matches (q ∷ p) s = cond (is_any q) (some_tail (matches p) s) (by_byte (matches p) q s)
