-- Names of files.
use Rattle.std.specs.Prelude.{◌≡◌, ◌≢◌, ℕ, ◌≤◌, ◌<◌, List, get_or, length}

-- "Names are 1 to 24 non-null bytes, then nulls": a field of 24 bytes with a text of `long` of them
pub record Name (f : List ℕ) : Type 0 where
  pub long : ℕ
  pub some : 1 ≤ long
  pub most : long ≤ 24
  pub text : (k : ℕ) → k < long → get_or f k 0 ≢ 0
  pub nulls : (k : ℕ) → k < 24 → long ≤ k → get_or f k 0 ≡ 0

-- the field's first null stands at n, or n is its length and there is none
pub record Text (f : List ℕ) (n : ℕ) : Type 0 where
  pub within : n ≤ length f
  pub text : (k : ℕ) → k < n → get_or f k 0 ≢ 0
  pub null : n < length f → get_or f n 0 ≡ 0

-- a byte that a created name may have: not null, `*` or `?`
pub record Letter (c : ℕ) : Type 0 where
  pub some : c ≢ 0
  pub not_one : c ≢ 42
  pub not_any : c ≢ 63

-- a created name's bytes
abbrev pub NewText : List ℕ → Type 0
NewText n = (k : ℕ) → k < length n → Letter (get_or n k 0)

-- "name | 1 to 24 bytes, none of them null, `*` or `?`"
pub record NewName (n : List ℕ) : Type 0 where
  pub some : 1 ≤ length n
  pub most : length n ≤ 24
  pub text : NewText n
