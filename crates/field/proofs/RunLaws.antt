-- The laws of runs of bits.
use mathlib.Core.Path.{◌≡◌, refl, sym, ap, ap₂, ◌∙◌}
use mathlib.Core.Logic.{◌⊎◌, inl, inr, ⊎_elim}
use Prim.Native.Nat.{ℕ, zero, suc, ◌+◌, ◌-◌, ◌*◌, ◌/◌, ◌%◌, ◌^◌, ◌≤◌, ◌<◌}
use native.Mathlib.Nat.{le_of_suc-le-suc, not-suc-le-zero, eq-or-lt_of_le, add-zero, add-suc, add_assoc, div-div-eq-div-mul, mod-eq_of_lt, zero-div, div-one}
use native.Mathlib.Numerals.{add-one}
use native.Mathlib.Decide.{ℕ_discrete, dec_lt}
use native.Mathlib.Omega.{arith}
use mathlib.Core.List.{List}
use lib.ListN.{length, get_or, set, length-set}
use lib.Dec.{eqb}
use lib.Seq.{get_or-set_same, get_or-set_other, ext_get_or}
use lib.Pow.{pow_pos, pow-add, mod-pow-add, ones_split}
use lib.Arith.{digits_div}
use lib.Count.{ones, ones_step, ones-ones}
use Rattle.field.specs.Says.{Says}
use Rattle.field.specs.Sum.{sum_to}
use Rattle.field.specs.Bits.{bit_of, bit_at, put_bit}
use Rattle.field.specs.Kept.{Kept}
use Rattle.field.specs.Runs.{Room, Width, AllBits, set_bits, count_bits}
use Rattle.field.proofs.Frames.{kept_refl, kept_trans, kept_wider}
use Rattle.field.proofs.Tests.{says_eq}
use Rattle.field.proofs.Sums.{sum_same, sum_cut, sum_le}
use Rattle.field.proofs.BitLaws.{bit_at_lt, kept_put_bit, bit_put_same, bit_put_other, put_bit_lt}

-- ---- a run that is written

-- only the bytes in which the run has bits
pub kept_set_bits : (b : List ℕ) (base from count v : ℕ) → Kept b (set_bits b base from count v) (base + from / 8) ((from % 8 + count + 7) / 8)
unfolding set_bits
kept_set_bits b base from zero v = kept_refl b (base + from / 8) _
kept_set_bits b base from (suc k) v =
    kept_trans (kept_wider (kept_set_bits b base from k v) (omega arith) (omega arith))
    (kept_wider (kept_put_bit (set_bits b base from k v) base (from + k) v) (omega arith) (omega arith))

-- a run is written in two parts
pub set_cut : (b : List ℕ) (base from m n v : ℕ) → set_bits b base from (m + n) v ≡ set_bits (set_bits b base from m v) base (from + m) n v
unfolding set_bits
set_cut b base from m zero v = rw add-zero
set_cut b base from m (suc n) v = rw (add-suc m n, add_assoc from m n) (ap (λ (x : List ℕ). put_bit x base (from + (m + n)) v) (set_cut b base from m n v))

module _ (b : List ℕ) (base from v : ℕ) (hv : v < 2) where
  within : (count : ℕ) → Room (length b) base from (suc count) → base + (from + count) / 8 < length (set_bits b base from count v)
  within count r = rw (kept_set_bits b base from count v).len (omega arith)

  fewer : (count : ℕ) → Room (length b) base from (suc count) → Room (length b) base from count
  fewer count r = record { most = omega arith; within = omega arith }

  pub set_in : (count k : ℕ) → Room (length b) base from count → k < count → bit_at (set_bits b base from count v) base (from + k) ≡ v
  unfolding set_bits
  set_in zero k r lt = absurd (not-suc-le-zero lt)
  set_in (suc n) k r lt =
      ⊎_elim (λ e. rw e (bit_put_same (set_bits b base from n v) base (from + n) v (within n r) hv))
      (λ l. bit_put_other (set_bits b base from n v) base (from + n) (from + k) v (within n r) hv (omega arith) ∙ set_in n k (fewer n r) l)
      (eq-or-lt_of_le (le_of_suc-le-suc lt))

  pub set_out : (count n : ℕ) → Room (length b) base from count → (n < from) ⊎ (from + count ≤ n) → bit_at (set_bits b base from count v) base n ≡ bit_at b base n
  unfolding set_bits
  set_out zero n r d = refl
  set_out (suc m) n r d =
      bit_put_other (set_bits b base from m v) base (from + m) n v (within m r) hv (⊎_elim (λ l. omega arith) (λ l. omega arith) d)
      ∙ set_out m n (fewer m r) (⊎_elim (λ l. inl l) (λ l. inr (omega arith)) d)

  -- bytes stay bytes
  pub set_bits_lt : (count : ℕ) → Room (length b) base from count → ((j : ℕ) → get_or b j 0 < 256) → (j : ℕ) → get_or (set_bits b base from count v) j 0 < 256
  unfolding set_bits
  set_bits_lt zero r small j = small j
  set_bits_lt (suc n) r small j = put_bit_lt (set_bits b base from n v) base (from + n) v j hv (within n r) (set_bits_lt n (fewer n r) small)

-- ---- a byte by its bits

-- numbers are the same below 2 ^ n where their bits are
pub low_same : (n x y : ℕ) → ((k : ℕ) → k < n → bit_of x k ≡ bit_of y k) → x % 2 ^ n ≡ y % 2 ^ n
unfolding bit_of
low_same zero x y h = omega arith
low_same (suc n) x y h =
    let cut : (z : ℕ) → z % 2 ^ suc n ≡ z / 2 ^ n % 2 * 2 ^ n + z % 2 ^ n
    = λ z. ap (λ (m : ℕ). z % 2 ^ m) (let e : suc n ≡ 1 + n = omega arith in e) ∙ mod-pow-add z 1 n in
    cut x ∙ ap₂ (λ (p q : ℕ). p * 2 ^ n + q) (h n (omega arith)) (low_same n x y (λ k l. h k (omega arith))) ∙ sym (cut y)

pub byte_same : (x y : ℕ) → x < 256 → y < 256 → ((k : ℕ) → k < 8 → bit_of x k ≡ bit_of y k) → x ≡ y
byte_same x y hx hy h = sym (mod-eq_of_lt hx) ∙ low_same 8 x y h ∙ mod-eq_of_lt hy

-- each bit of 2 ^ n - 1 is set
ones_bit : (n k : ℕ) → k < n → bit_of (2 ^ n - 1) k ≡ 1
unfolding bit_of
ones_bit n k l =
    let e : n ≡ (n - k - 1 + 1) + k = omega arith in
    let d : (2 ^ n - 1) / 2 ^ k ≡ 2 ^ (n - k - 1 + 1) - 1
    = ap (λ (m : ℕ). (2 ^ m - 1) / 2 ^ k) e ∙ ap (λ (m : ℕ). m / 2 ^ k) (ones_split (n - k - 1 + 1) k) ∙ digits_div (2 ^ (n - k - 1 + 1) - 1) (omega (arith, pow_pos k)) in
    let p : 2 ^ (n - k - 1 + 1) ≡ 2 ^ (n - k - 1) * 2 = pow-add 2 (n - k - 1) 1 in
    omega (arith, pow_pos (n - k - 1))

-- 0 and 255 are the bytes whose bits are all the same
pub full_bit : (v k : ℕ) → v < 2 → k < 8 → bit_of (255 * v) k ≡ v
unfolding bit_of
full_bit zero k hv hk = rw (zero-div (2 ^ k))
full_bit (suc zero) k hv hk = ones_bit 8 k hk
full_bit (suc (suc v)) k hv hk = absurd (omega arith)

-- the digits of x are its n lowest bits and the digits above them
ones_low : (n x : ℕ) → ones x ≡ sum_to n (λ k. bit_of x k) + ones (x / 2 ^ n)
unfolding sum_to bit_of
ones_low zero x = omega (arith, ap ones (div-one x))
ones_low (suc n) x =
    let e : x / 2 ^ n / 2 ≡ x / 2 ^ suc n = div-div-eq-div-mul x (2 ^ n) 2 ∙ ap (λ (m : ℕ). x / m) (sym (pow-add 2 n 1) ∙ ap (λ (m : ℕ). 2 ^ m) (add-one n)) in
    omega (arith, ones_low n x, ones_step (x / 2 ^ n), ap ones e)

ones_byte : (x : ℕ) → x < 256 → ones x ≡ sum_to 8 (λ k. bit_of x k)
ones_byte x h = ones_low 8 x ∙ ap (λ (m : ℕ). sum_to 8 (λ k. bit_of x k) + ones m) (let e : x / 256 ≡ 0 = omega arith in e) ∙ none (sum_to 8 (λ k. bit_of x k))
  where
    none : (m : ℕ) → m + ones 0 ≡ m
    none m = omega (arith, ones-ones 0)

-- ---- a whole byte of a table of bits

module _ (b : List ℕ) (base at : ℕ) (whole : at % 8 ≡ 0) where
  -- the bits of a byte are the eight from `at` on
  bit_in : (k : ℕ) → k < 8 → bit_at b base (at + k) ≡ bit_of (get_or b (base + at / 8) 0) (7 - k)
  unfolding bit_at
  bit_in k l =
      let e : (at + k) / 8 ≡ at / 8 = omega arith in
      let f : (at + k) % 8 ≡ k = omega arith in
      rw (e, f)

  -- the eight bits are v exactly where the byte is 255 v
  pub all_byte : (v : ℕ) → v < 2 → get_or b (base + at / 8) 0 ≡ 255 * v → AllBits b base at 8 v
  all_byte v hv e k l = bit_in k l ∙ ap (λ (x : ℕ). bit_of x (7 - k)) e ∙ full_bit v (7 - k) hv (omega arith)

  pub byte_all : (v : ℕ) → v < 2 → get_or b (base + at / 8) 0 < 256 → AllBits b base at 8 v → get_or b (base + at / 8) 0 ≡ 255 * v
  byte_all v hv small all = byte_same (get_or b (base + at / 8) 0) (255 * v) small (omega arith) (λ k l. at_bit k l)
    where
      at_bit : (k : ℕ) → k < 8 → bit_of (get_or b (base + at / 8) 0) k ≡ bit_of (255 * v) k
      at_bit k l =
          let e : 7 - (7 - k) ≡ k = omega arith in
          rw e at (sym (bit_in (7 - k) (omega arith)) ∙ all (7 - k) (omega arith)) ∙ sym (full_bit v k hv l)

  -- its set bits are counted as the digits of the byte
  pub count_byte : get_or b (base + at / 8) 0 < 256 → ones (get_or b (base + at / 8) 0) ≡ count_bits b base at 8
  unfolding count_bits sum_to
  count_byte small =
      let x : ℕ = get_or b (base + at / 8) 0 in
      omega (arith, ones_byte x small, bit_in 0 (omega arith), bit_in 1 (omega arith), bit_in 2 (omega arith), bit_in 3 (omega arith), bit_in 4 (omega arith), bit_in 5 (omega arith), bit_in 6 (omega arith), bit_in 7 (omega arith))

-- a store of 255 v writes the eight bits
pub set_byte : (b : List ℕ) (base at v : ℕ) → at % 8 ≡ 0 → v < 2 → Room (length b) base at 8 → ((j : ℕ) → get_or b j 0 < 256) → set b (base + at / 8) (255 * v) ≡ set_bits b base at 8 v
set_byte b base at v whole hv room small =
    ext_get_or 0 (set b (base + at / 8) (255 * v)) (set_bits b base at 8 v) (length-set b (base + at / 8) (255 * v) ∙ sym k.len) (λ j l. at_byte j (ℕ_discrete j (base + at / 8)))
  where
    k : Kept b (set_bits b base at 8 v) (base + at / 8) ((at % 8 + 8 + 7) / 8)
    k = kept_set_bits b base at 8 v

    at_byte : (j : ℕ) → Dec (j ≡ base + at / 8) → get_or (set b (base + at / 8) (255 * v)) j 0 ≡ get_or (set_bits b base at 8 v) j 0
    at_byte j (yes e) =
        rw (e, get_or-set_same b (base + at / 8) (255 * v) 0 (omega arith))
        (sym (byte_all (set_bits b base at 8 v) base at whole v hv (set_bits_lt b base at v hv 8 room small _) (λ n l. set_in b base at v hv 8 n room l)))
    at_byte j (no ne) = get_or-set_other b (base + at / 8) j (255 * v) 0 ne ∙ sym (k.out j (elim (dec_lt j (base + at / 8)) [ yes l ↦ inl (omega arith) | no l ↦ inr (omega arith) ]))

-- ---- a run that is counted

pub count_le : (b : List ℕ) (base from count : ℕ) → count_bits b base from count ≤ count
unfolding count_bits
count_le b base from count = sum_le count _ (λ k l. le_of_suc-le-suc (bit_at_lt b base (from + k)))

-- a run is counted in two parts
pub count_cut : (b : List ℕ) (base from m n : ℕ) → count_bits b base from (m + n) ≡ count_bits b base from m + count_bits b base (from + m) n
unfolding count_bits
count_cut b base from m n =
    sum_cut m n (λ k. bit_at b base (from + k)) ∙ ap (λ (x : ℕ). sum_to m (λ k. bit_at b base (from + k)) + x) (sum_same n _ _ (λ k l. ap (bit_at b base) (sym (add_assoc from m k))))

pub count_one : (b : List ℕ) (base at : ℕ) → bit_at b base at ≡ count_bits b base at 1
unfolding count_bits sum_to
count_one b base at = omega (arith, ap (bit_at b base) (add-zero at))

-- ---- runs worked on in steps of a byte or a bit: what each step is, and how a step goes on from what is done

-- a step of eight bits begins at a byte; any other is one bit
pub width_whole : {at w : ℕ} → Width at w → w ≡ 8 → at % 8 ≡ 0
width_whole d e = ⊎_elim (λ one. absurd (omega arith)) (λ both. both.1) d.is

pub width_one : {at w : ℕ} → Width at w → (w ≡ 8 → ⊥) → w ≡ 1
width_one d ne = ⊎_elim (λ one. one) (λ both. absurd (ne both.0)) d.is

-- a run of one bit
all_one : (b : List ℕ) (base at v x : ℕ) → x ≡ bit_at b base at → x ≡ v → AllBits b base at 1 v
all_one b base at v x h e k l = ap (bit_at b base) (let q : at + k ≡ at = omega arith in q) ∙ sym h ∙ e

module _ (b : List ℕ) (base at w : ℕ) (d : Width at w) where
  pub test_whole : (v x : ℕ) → w ≡ 8 → v < 2 → x ≡ get_or b (base + at / 8) 0 → x < 256 → Says (eqb x (255 * v)) (AllBits b base at w v)
  test_whole v x e hv h small =
      let q = width_whole d e in
      rw e (says_eq x (255 * v) (λ p. all_byte b base at q v hv (sym h ∙ p)) (λ all. h ∙ byte_all b base at q v hv (rw h at small) all))

  pub test_one : (v x : ℕ) → (w ≡ 8 → ⊥) → x ≡ bit_at b base at → Says (eqb x v) (AllBits b base at w v)
  test_one v x ne h =
      rw (width_one d ne)
      (says_eq x v (all_one b base at v x h) (λ all. h ∙ sym (ap (bit_at b base) (add-zero at)) ∙ all 0 (omega arith)))

  pub set_whole : (v : ℕ) → w ≡ 8 → v < 2 → Room (length b) base at w → ((j : ℕ) → get_or b j 0 < 256) → set b (base + at / 8) (255 * v) ≡ set_bits b base at w v
  set_whole v e hv room small = rw e (set_byte b base at v (width_whole d e) hv (rw e at room) small)

  pub set_one : (t : List ℕ) (v : ℕ) → (w ≡ 8 → ⊥) → t ≡ put_bit b base at v → t ≡ set_bits b base at w v
  unfolding set_bits
  set_one t v ne h = rw (width_one d ne, add-zero at) h

  pub count_whole : (x : ℕ) → w ≡ 8 → x ≡ get_or b (base + at / 8) 0 → x < 256 → ones x ≡ count_bits b base at w
  count_whole x e h small = rw (e, h) (count_byte b base at (width_whole d e) (rw h at small))

  pub count_single : (x : ℕ) → (w ≡ 8 → ⊥) → x ≡ bit_at b base at → x ≡ count_bits b base at w
  count_single x ne h = rw (width_one d ne) (h ∙ count_one b base at)

pub all_next : (b : List ℕ) (base from i w v : ℕ) → AllBits b base from i v → AllBits b base (from + i) w v → AllBits b base from (i + w) v
all_next b base from i w v h g k l =
    elim (dec_lt k i) [
      | yes lo ↦ h k lo
      | no hi ↦ (let e : from + i + (k - i) ≡ from + k = omega arith in rw e at (g (k - i) (omega arith)))
    ]

pub set_next : (b s t : List ℕ) (base from i w v : ℕ) → s ≡ set_bits b base from i v → t ≡ set_bits s base (from + i) w v → t ≡ set_bits b base from (i + w) v
set_next b s t base from i w v h g = g ∙ ap (λ (x : List ℕ). set_bits x base (from + i) w v) h ∙ sym (set_cut b base from i w v)

pub count_next : (b : List ℕ) (base from i w n m : ℕ) → n ≡ count_bits b base from i → m ≡ count_bits b base (from + i) w → n + m ≡ count_bits b base from (i + w)
count_next b base from i w n m h g = omega (arith, count_cut b base from i w)
