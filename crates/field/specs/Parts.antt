-- Parts of a list of bytes.
use Rattle.std.specs.Prelude.{◌≡◌, ℕ, ◌+◌, ◌<◌, List, ◌++◌, get_or, length, take, drop}

-- ys laid over xs from a on
unfoldable pub over : List ℕ → ℕ → List ℕ → List ℕ
over xs a ys = take a xs ++ (ys ++ drop (a + length ys) xs)

-- each of the n bytes from `at` on is v
abbrev pub AllBytes : List ℕ → ℕ → ℕ → ℕ → Type 0
AllBytes b at n v = (k : ℕ) → k < n → get_or b (at + k) 0 ≡ v
