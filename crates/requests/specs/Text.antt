-- Text of the report and of a broken rule: numbers in decimal, lines of a name and a number.
use Rattle.std.specs.Prelude.{◌≡◌, cond, ℕ, zero, suc, ◌+◌, ◌-◌, ◌/◌, ◌%◌, ◌≤◌, List, [], ◌∷◌, ◌++◌, length, take, drop, replicate, ltb}
use Rattle.std.proofs.Common.{sym, ap, ap₂, ◌∙◌, length-take-le}
use Rattle.std.proofs.lemmas.List.{take-append-drop}
use Rattle.requests.specs.declared.text.Text.TheInside.{Inside}

-- n in decimal, at most f + 1 digits: its last digit after those of n / 10
unfoldable pub digits_of : ℕ → ℕ → List ℕ
digits_of zero n = (48 + n % 10) ∷ []
digits_of (suc f) n = cond (ltb n 10) ((48 + n) ∷ []) (digits_of f (n / 10) ++ ((48 + n % 10) ∷ []))

-- a number of up to ten digits
unfoldable pub decimal : ℕ → List ℕ
decimal n = digits_of 9 n

-- a name, its number, a line feed
unfoldable pub line_of : List ℕ → ℕ → List ℕ
line_of name n = name ++ (decimal n ++ (10 ∷ []))

-- a text by value: its bytes, then nulls, and where they end
abbrev pub as_text : List ℕ → Inside
as_text xs = record { bytes = xs ++ replicate (192 - length xs) 0; end = length xs }

-- which values are texts: at most 192 bytes, and nulls behind them
pub record Filled (t : Inside) : Type 0 where
  pub within : t.end ≤ length t.bytes
  pub nulls : drop t.end t.bytes ≡ replicate (192 - t.end) 0

-- a text comes back from the list of its bytes: the law of `inverse`, proved here since an `impl Model` cites specs/ alone
pub text_inverse : (t : Inside) → Filled t → as_text (take t.end t.bytes) ≡ t
text_inverse t h =
    let xs : List ℕ = take t.end t.bytes in
    let long : length xs ≡ t.end = length-take-le t.end t.bytes h.within in
    let whole : xs ++ replicate (192 - length xs) 0 ≡ t.bytes
    = ap (λ (k : ℕ). xs ++ replicate (192 - k) 0) long ∙ ap (λ (ys : List ℕ). xs ++ ys) (sym h.nulls) ∙ take-append-drop t.end t.bytes in
    ap₂ (λ (ys : List ℕ) (n : ℕ). record { bytes = ys; end = n }) whole long
