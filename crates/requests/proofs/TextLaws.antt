-- Text: digits one by one, how many there are, and how long a line is.
use mathlib.Core.Path.{◌≡◌, refl, sym, ap, ap₂, ◌∙◌}
use mathlib.Core.List.{List, [], ◌∷◌, ◌++◌, append_assoc, append-nil}
use Prim.Native.Nat.{ℕ, zero, suc, ◌+◌, ◌-◌, ◌*◌, ◌/◌, ◌%◌, ◌^◌, ◌≤◌, ◌<◌}
use native.Mathlib.Decide.{dec_lt}
use native.Mathlib.Omega.{arith}
use lib.ListN.{length, set, take, drop, length-append, length-set, length-drop, drop_of_length-le}
use lib.Pow.{pow-add}
use native.Mathlib.Numerals.{add-one}
use lib.Seq.{drop-cons, drop-set-lt, get_or-set_same, take_all}
use borrow.Author.Tests.{lt-ltb, le-ltb}
use Rattle.requests.specs.Text.{digits_of, decimal, line_of}

-- ---- digits

digits_one : (f n : ℕ) → n < 10 → digits_of f n ≡ (48 + n % 10) ∷ []
unfolding digits_of
digits_one zero n h = refl
digits_one (suc f) n h = let e : n % 10 ≡ n = omega arith in rw (lt-ltb n 10 h, e)

digits_more : (f n : ℕ) → 10 ≤ n → digits_of (suc f) n ≡ digits_of f (n / 10) ++ ((48 + n % 10) ∷ [])
unfolding digits_of
digits_more f n h = rw (le-ltb n 10 h)

tenth : (k n : ℕ) → n < 10 ^ (suc k + 1) → n / 10 < 10 ^ (k + 1)
tenth k n h =
    let p : 10 ^ (suc k + 1) ≡ 10 ^ (k + 1) * 10 = ap (λ (j : ℕ). 10 ^ j) (let r : suc k + 1 ≡ k + 1 + 1 = omega arith in r) ∙ pow-add 10 (k + 1) 1 in
    omega arith

-- what is left of n to be written, and what is written
pub record Written (n : ℕ) (d : List ℕ) (at rest : ℕ) : Type 0 where
  pub long : length d ≡ 10
  pub within : at ≤ 9
  pub few : rest < 10 ^ (at + 1)
  pub text : decimal n ≡ digits_of at rest ++ drop (at + 1) d

pub written_none : (n : ℕ) (d : List ℕ) → length d ≡ 10 → n < 4294967296 → Written n d 9 n
unfolding decimal
written_none n d long h = record {
  long = long;
  within = omega arith;
  few = omega arith;
  text = sym (ap (λ (x : List ℕ). digits_of 9 n ++ x) (drop_of_length-le d {i = 10} (omega arith)) ∙ append-nil (digits_of 9 n));
}

-- a digit that was stored stands before those after it
stored : (d : List ℕ) (at v : ℕ) → at < length d → drop at (set d at v) ≡ v ∷ drop (at + 1) d
stored d at v h =
    drop-cons (set d at v) at 0 (simp length-set h)
    ∙ ap₂ (λ (x : ℕ) (y : List ℕ). x ∷ y) (get_or-set_same d at v 0 h) (drop-set-lt (suc at) d at v (omega arith) ∙ ap (λ (k : ℕ). drop k d) (sym (add-one at)))

pub written_more : (n : ℕ) (d : List ℕ) (at rest : ℕ) → Written n d at rest → 10 ≤ rest → Written n (set d at (48 + rest % 10)) (at - 1) (rest / 10)
written_more n d zero rest w h = absurd (omega (arith, w.few))
written_more n d (suc at) rest w h =
    let v : ℕ = 48 + rest % 10 in
    let q : suc at - 1 ≡ at = omega arith in
    rw q (record {
      long = length-set d (suc at) v ∙ w.long;
      within = omega (arith, w.within);
      few = tenth at rest w.few;
      text = w.text ∙ ap (λ (x : List ℕ). x ++ drop (suc at + 1) d) (digits_more at rest h) ∙ append_assoc (digits_of at (rest / 10)) _ _
          ∙ ap (λ (x : List ℕ). digits_of at (rest / 10) ++ x) (sym (ap (λ (k : ℕ). drop k (set d (suc at) v)) (add-one at) ∙ stored d (suc at) v (omega (arith, w.long, w.within))));
    })

pub written_end : (n : ℕ) (d : List ℕ) (at rest : ℕ) → Written n d at rest → rest < 10 → take (10 - at) (drop at (set d at (48 + rest))) ≡ decimal n
written_end n d at rest w h =
    let e : 48 + rest ≡ 48 + rest % 10 = omega arith in
    take_all (10 - at) _ (omega (arith, length-drop at (set d at (48 + rest)), length-set d at (48 + rest), w.long))
    ∙ stored d at (48 + rest) (omega (arith, w.long, w.within)) ∙ ap (λ (x : ℕ). x ∷ drop (at + 1) d) e
    ∙ sym (w.text ∙ ap (λ (x : List ℕ). x ++ drop (at + 1) d) (digits_one at rest h))

-- ---- how many digits

digits_few : (f k n : ℕ) → n < 10 ^ (k + 1) → length (digits_of f n) ≤ k + 1
unfolding digits_of
digits_few zero k n h = omega arith
digits_few (suc f) zero n h = rw (lt-ltb n 10 (omega arith)) (omega arith)
digits_few (suc f) (suc k) n h =
    elim (dec_lt n 10) [
      | yes l ↦ rw (lt-ltb n 10 l) (omega arith)
      | no g ↦ rw (le-ltb n 10 (omega arith)) (omega (arith, length-append (digits_of f (n / 10)) ((48 + n % 10) ∷ []), digits_few f k (n / 10) (tenth k n h)))
    ]

-- a number below 10 ^ k has at most k digits
pub decimal_few : (k n : ℕ) → n < 10 ^ (k + 1) → length (decimal n) ≤ k + 1
unfolding decimal
decimal_few k n h = digits_few 9 k n h

-- a line: its name, its number, its end
pub line_length : (name : List ℕ) (n : ℕ) → length (line_of name n) ≡ length name + (length (decimal n) + 1)
unfolding line_of
line_length name n = length-append name _ ∙ ap (λ (k : ℕ). length name + k) (length-append (decimal n) (10 ∷ []))
