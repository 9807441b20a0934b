-- Marks that stand in one word: tested and set at once.
use mathlib.Core.Path.{◌≡◌, refl, sym, ap, ◌∙◌}
use mathlib.Core.Logic.{◌≢◌, ◌⊎◌, inl, inr, ⊎_elim}
use mathlib.Core.Bool.{true, false}
use mathlib.Core.List.{List}
use Prim.Native.Nat.{ℕ, zero, suc, ◌+◌, ◌-◌, ◌*◌, ◌/◌, ◌%◌, ◌^◌, ◌≤◌, ◌<◌}
use native.Mathlib.Nat.{not-suc-le-zero, eq-or-lt_of_le, le_of_suc-le-suc, mod-lt, mod-eq_of_lt, div-eq_of_lt, div-add-mod', add-mul, one-mul, mul-le-mul_right}
use native.Mathlib.Decide.{ℕ_discrete, dec_lt}
use native.Mathlib.Omega.{arith}
use lib.Bits.{bit_and, and_mask}
use lib.ListN.{length, get_or, set, length-set}
use lib.Seq.{get_or-set_same, get_or-set_other}
use lib.Pow.{pow_pos, pow-add, pow_mono, high, low, field, shr-shr, shr_lt, mod-pow-add, mod-mod-pow, ones_split, ones_lt}
use Rattle.std.specs.Prelude.{Option, Some, None}
use Rattle.std.specs.Option.{SomeIff, unwrap_or}
use Rattle.field.specs.Bits.{bit_of, with_bit}
use Rattle.field.proofs.BitLaws.{with_same, with_other, with_sum}
use Rattle.field.proofs.RunLaws.{low_same}
use Rattle.tables.specs.Views.{cov}
use Rattle.marks.specs.Marks.{InWord, mark_at, Adds}
use Rattle.tables.proofs.PointerLaws.{cov_in, cov_before, cov_after}

-- the w bits of x below the weight 2 ^ top are clear
abbrev ClearBelow : ℕ → ℕ → ℕ → Type 0
ClearBelow x top w = (k : ℕ) → k < w → bit_of x (top - suc k) ≡ 0

-- x with these bits set
unfoldable fill_below : ℕ → ℕ → ℕ → ℕ
fill_below x top zero = x
fill_below x top (suc w) = with_bit (fill_below x top w) (top - suc w) 1

-- ---- bits of a number in two parts

-- 2 ^ n - 1 without its k lowest bits
pub ones_shift : (n k : ℕ) → k ≤ n → (2 ^ n - 1) / 2 ^ k ≡ 2 ^ (n - k) - 1
ones_shift n k h = ap (λ (m : ℕ). (2 ^ m - 1) / 2 ^ k) (let e : n ≡ n - k + k = omega arith in e) ∙ ap (λ (m : ℕ). m / 2 ^ k) (ones_split (n - k) k) ∙ high (2 ^ (n - k) - 1) k (ones_lt k)

-- a word of set bits, shifted by k: where k is 64 there is no shift, and 0 stands for it
pub behind_is : (k n : ℕ) (o : Option ℕ) → k ≤ 64 → SomeIff o (k < 64) (18446744073709551615 / 2 ^ k) → n ≡ unwrap_or o 0 → n ≡ 2 ^ (64 - k) - 1
behind_is k n None few none e = e ∙ ap (λ (i : ℕ). 2 ^ i - 1) (let z : 0 ≡ 64 - k = omega arith in z)
behind_is k n (Some v) few some e = e ∙ some.1 ∙ ones_shift 64 k few

-- the bits below the weight 2 ^ k are those of the remainder
bit_mod : (n k j : ℕ) → j < k → bit_of n j ≡ bit_of (n % 2 ^ k) j
unfolding bit_of
bit_mod n k j l =
    let e : k ≡ k - j + j = omega arith in
    let f : k - j ≡ k - j - 1 + 1 = omega arith in
    sym (mod-mod-pow (n / 2 ^ j) (k - j - 1) 1) ∙ ap (λ (i : ℕ). n / 2 ^ j % 2 ^ i % 2) (sym f) ∙ ap (λ (i : ℕ). i % 2) (sym (field n (k - j) j)) ∙ ap (λ (i : ℕ). n % 2 ^ i / 2 ^ j % 2) (sym e)

pub bit_low : (h l k j : ℕ) → l < 2 ^ k → j < k → bit_of (h * 2 ^ k + l) j ≡ bit_of l j
bit_low h l k j small lt = bit_mod (h * 2 ^ k + l) k j lt ∙ ap (λ (n : ℕ). bit_of n j) (low h k small)

pub bit_high : (h l k j : ℕ) → l < 2 ^ k → bit_of (h * 2 ^ k + l) (k + j) ≡ bit_of h j
unfolding bit_of
bit_high h l k j small = ap (λ (n : ℕ). n % 2) (sym (shr-shr (h * 2 ^ k + l) k j) ∙ ap (λ (n : ℕ). n / 2 ^ j) (high h k small))

-- a number below 2 ^ j has no bit of that weight
bit_none : (n j : ℕ) → n < 2 ^ j → bit_of n j ≡ 0
unfolding bit_of
bit_none n j l = ap (λ (m : ℕ). m % 2) (div-eq_of_lt l)

pub word_same : (x y : ℕ) → x < 2 ^ 64 → y < 2 ^ 64 → ((k : ℕ) → k < 64 → bit_of x k ≡ bit_of y k) → x ≡ y
word_same x y hx hy h = sym (mod-eq_of_lt hx) ∙ low_same 64 x y h ∙ mod-eq_of_lt hy

module _ (x top : ℕ) where
  -- ---- the test: the bits are clear if what stands from them on is below the lowest one's weight

  clear_mod : (w : ℕ) → w ≤ top → ClearBelow x top w → x % 2 ^ top ≡ x % 2 ^ (top - w)
  unfolding bit_of
  clear_mod zero h clear = ap (λ (n : ℕ). x % 2 ^ n) (let e : top ≡ top - 0 = omega arith in e)
  clear_mod (suc w) h clear =
      let e : top - w ≡ 1 + (top - suc w) = omega arith in
      clear_mod w (omega arith) (λ k l. clear k (omega arith))
      ∙ ap (λ (n : ℕ). x % 2 ^ n) e ∙ mod-pow-add x 1 (top - suc w) ∙ ap (λ (n : ℕ). n * 2 ^ (top - suc w) + x % 2 ^ (top - suc w)) (clear w (omega arith)) ∙ (let z : 0 * 2 ^ (top - suc w) + x % 2 ^ (top - suc w) ≡ x % 2 ^ (top - suc w) = omega arith in z)

  clear_test : (w : ℕ) → w ≤ top → ClearBelow x top w → x % 2 ^ top < 2 ^ (top - w)
  clear_test w h clear = omega (arith, clear_mod w h clear, mod-lt x (pow_pos (top - w)))

  test_clear : (w : ℕ) → w ≤ top → x % 2 ^ top < 2 ^ (top - w) → ClearBelow x top w
  test_clear w h lt k l =
      bit_mod x top (top - suc k) (omega arith) ∙ bit_none (x % 2 ^ top) (top - suc k) (omega (arith, pow_mono {i = top - w} {j = top - suc k} (omega arith)))

  -- ---- the bits set

  fill_in : (w k : ℕ) → w ≤ top → k < w → bit_of (fill_below x top w) (top - suc k) ≡ 1
  unfolding fill_below
  fill_in zero k h l = absurd (not-suc-le-zero l)
  fill_in (suc w) k h l =
      ⊎_elim (λ q. rw q (with_same (fill_below x top w) (top - suc w) 1 (omega arith)))
      (λ lt. with_other (fill_below x top w) (top - suc w) (top - suc k) 1 (omega arith) (inr (omega arith)) ∙ fill_in w k (omega arith) lt)
      (eq-or-lt_of_le (le_of_suc-le-suc l))

  fill_out : (w j : ℕ) → w ≤ top → (j < top - w) ⊎ (top ≤ j) → bit_of (fill_below x top w) j ≡ bit_of x j
  unfolding fill_below
  fill_out zero j h d = refl
  fill_out (suc w) j h d =
      with_other (fill_below x top w) (top - suc w) j 1 (omega arith) (⊎_elim (λ l. inl (omega arith)) (λ l. inr (omega arith)) d)
      ∙ fill_out w j (omega arith) (⊎_elim (λ l. inl (omega arith)) (λ l. inr l) d)

  -- where they were clear, their weights are added
  fill_sum : (w : ℕ) → w ≤ top → ClearBelow x top w → fill_below x top w + 2 ^ (top - w) ≡ x + 2 ^ top
  unfolding fill_below
  fill_sum zero h clear = let e : top - 0 ≡ top = omega arith in rw e refl
  fill_sum (suc w) h clear =
      let e : 2 ^ (top - w) ≡ 2 ^ (top - suc w) * 2 = ap (λ (n : ℕ). 2 ^ n) (let q : top - w ≡ top - suc w + 1 = omega arith in q) ∙ pow-add 2 (top - suc w) 1 in
      let z : bit_of (fill_below x top w) (top - suc w) * 2 ^ (top - suc w) ≡ 0 = ap (λ (n : ℕ). n * 2 ^ (top - suc w)) (fill_out w (top - suc w) (omega arith) (inl (omega arith)) ∙ clear w (omega arith)) ∙ (let q : 0 * 2 ^ (top - suc w) ≡ 0 = omega arith in q) in
      omega (arith, with_sum (fill_below x top w) (top - suc w) 1, fill_sum w (omega arith) (λ k l. clear k (omega arith)))

  -- no carry out of the n bits of the number
  fill_fits : (n w : ℕ) → x < 2 ^ n → top ≤ n → w ≤ top → x % 2 ^ top < 2 ^ (top - w) → x + 2 ^ top < 2 ^ n + 2 ^ (top - w)
  fill_fits n w hx ht hw lt =
      let e : 2 ^ (n - top) * 2 ^ top ≡ 2 ^ n = sym (pow-add 2 (n - top) top) ∙ ap (λ (i : ℕ). 2 ^ i) (let f : n - top + top ≡ n = omega arith in f) in
      let q : x / 2 ^ top < 2 ^ (n - top) = shr_lt (n - top) top (rw (pow-add 2 (n - top) top, e) hx) in
      let u : (x / 2 ^ top + 1) * 2 ^ top ≤ 2 ^ (n - top) * 2 ^ top = mul-le-mul_right (2 ^ top) (omega arith) in
      omega (arith, div-add-mod' x (2 ^ top), add-mul (x / 2 ^ top) 1 (2 ^ top), one-mul (2 ^ top))

-- ---- the word in the table of marks

module _ (m : List ℕ) (at w x : ℕ) (p : InWord at w) (here : x ≡ get_or m (at / 64) 0) where
  -- the bits from `at` on are those below the weight
  bit_here : (n : ℕ) → n / 64 ≡ at / 64 → mark_at m n ≡ bit_of x (63 - n % 64)
  unfolding mark_at
  bit_here n e = rw (e, ← here)

  bit_piece : (k : ℕ) → k < w → mark_at m (at + k) ≡ bit_of x (64 - at % 64 - suc k)
  bit_piece k l = bit_here (at + k) (omega arith) ∙ ap (bit_of x) (let q : 63 - (at + k) % 64 ≡ 64 - at % 64 - suc k = omega arith in q)

  fits_clear : ((n : ℕ) → mark_at m n + cov at w n ≤ 1) → ClearBelow x (64 - at % 64) w
  fits_clear h k l = omega (arith, h (at + k), cov_in at w (at + k) (omega arith) (omega arith), bit_piece k l)

  module _ (y : ℕ) (room : at / 64 < length m) (clear : ClearBelow x (64 - at % 64) w) (is : y ≡ fill_below x (64 - at % 64) w) where
    set_here : (n : ℕ) → n / 64 ≡ at / 64 → mark_at (set m (at / 64) y) n ≡ bit_of y (63 - n % 64)
    unfolding mark_at
    set_here n e = rw (e, get_or-set_same m (at / 64) y 0 room)

    set_away : (n : ℕ) → n / 64 ≢ at / 64 → mark_at (set m (at / 64) y) n ≡ mark_at m n
    unfolding mark_at
    set_away n ne = rw (get_or-set_other m (at / 64) (n / 64) y 0 ne)

    bits : (n : ℕ) → mark_at (set m (at / 64) y) n ≡ mark_at m n + cov at w n
    bits n = elim (ℕ_discrete (n / 64) (at / 64)) [
      | yes e ↦ set_here n e ∙ ap (λ (z : ℕ). bit_of z (63 - n % 64)) is ∙ same n e
      | no ne ↦ elim (dec_lt n at) [
        | yes l ↦ omega (arith, set_away n ne, cov_before at w n l)
        | no l ↦ omega (arith, set_away n ne, cov_after at w n (omega (arith, p.high)))
      ]
    ]
      where
        same : (n : ℕ) → n / 64 ≡ at / 64 → bit_of (fill_below x (64 - at % 64) w) (63 - n % 64) ≡ mark_at m n + cov at w n
        same n e = elim (dec_lt n at) [
          | yes l ↦ omega (arith, bit_here n e, cov_before at w n l, fill_out x (64 - at % 64) w (63 - n % 64) (omega (arith, p.high)) (inr (omega arith)))
          | no l ↦ elim (dec_lt n (at + w)) [
            | yes g ↦ (let q : 63 - n % 64 ≡ 64 - at % 64 - suc (n - at) = omega arith in
                rw q (omega (arith, fill_in x (64 - at % 64) w (n - at) (omega (arith, p.high)) (omega arith), clear (n - at) (omega arith), cov_in at w n (omega arith) g, bit_here n e, ap (bit_of x) q)))
            | no g ↦ omega (arith, bit_here n e, cov_after at w n (omega arith), fill_out x (64 - at % 64) w (63 - n % 64) (omega (arith, p.high)) (inl (omega (arith, p.high))))
          ]
        ]

  -- what the code knows: the bits from the piece on, and those after it
  module _ (on rest : ℕ) (eo : on ≡ 2 ^ (64 - at % 64) - 1) (er : rest ≡ 2 ^ (64 - (at % 64 + w)) - 1) where
    behind : rest + 1 ≡ 2 ^ (64 - at % 64 - w)
    behind =
        let e : 2 ^ (64 - (at % 64 + w)) ≡ 2 ^ (64 - at % 64 - w) = ap (λ (n : ℕ). 2 ^ n) (let f : 64 - (at % 64 + w) ≡ 64 - at % 64 - w = omega arith in f) in
        omega (arith, pow_pos (64 - (at % 64 + w)))

    met_is : bit_and x on ≡ x % 2 ^ (64 - at % 64)
    met_is = rw eo (and_mask x (64 - at % 64))

    pub piece_order : rest ≤ on
    piece_order = omega (arith, behind, pow_mono {i = 64 - at % 64 - w} {j = 64 - at % 64} (omega arith))

    pub piece_stop : (m' : List ℕ) → rest < bit_and x on → Adds false m m' (cov at w)
    piece_stop m' l h = let q = clear_test x (64 - at % 64) w (omega (arith, p.high)) (fits_clear h) in omega (arith, met_is, behind)

    module _ (l : bit_and x on ≤ rest) where
      under : x % 2 ^ (64 - at % 64) < 2 ^ (64 - at % 64 - w)
      under = omega (arith, met_is, behind)

      pub piece_fits : x < 2 ^ 64 → x + (on - rest) < 2 ^ 64
      piece_fits small =
          omega (arith, fill_fits x (64 - at % 64) 64 w small (omega arith) (omega (arith, p.high)) under, behind, piece_order, pow_pos (64 - at % 64))

      pub piece_added : at / 64 < length m → Adds true m (set m (at / 64) (x + (on - rest))) (cov at w)
      piece_added room = record { len = length-set m (at / 64) (x + (on - rest)); bits = bits (x + (on - rest)) room clear is }
        where
          clear : ClearBelow x (64 - at % 64) w
          clear = test_clear x (64 - at % 64) w (omega (arith, p.high)) under

          is : x + (on - rest) ≡ fill_below x (64 - at % 64) w
          is = omega (arith, fill_sum x (64 - at % 64) w (omega (arith, p.high)) clear, behind, piece_order, pow_pos (64 - at % 64))
