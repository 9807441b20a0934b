-- The laws of bits: of a byte, and of a table of bits.
use mathlib.Core.Path.{◌≡◌, sym, ap, ◌∙◌, subst}
use mathlib.Core.Logic.{◌≢◌, ◌⊎◌, inl, inr}
use Prim.Native.Nat.{ℕ, ◌+◌, ◌-◌, ◌*◌, ◌/◌, ◌%◌, ◌^◌, ◌≤◌, ◌<◌}
use native.Mathlib.Nat.{mod-lt, div-add-mod', div-lt_iff_lt-mul, div-div-eq-div-mul, add-mul-mod_self_right, add-mul-div_right, mul_assoc, mul_comm, add_assoc, add-mul}
use native.Mathlib.Omega.{arith}
use native.Mathlib.Decide.{ℕ_discrete, dec_lt}
use mathlib.Core.List.{List}
use lib.ListN.{get_or, set, length}
use lib.Seq.{get_or-set_same, get_or-set_other}
use lib.Pow.{pow_pos, pow-add}
use lib.Arith.{digits_lt, digits_div, digits_mod}
use Rattle.field.specs.Bits.{bit_of, with_bit, bit_at, put_bit}
use Rattle.field.specs.Kept.{Kept, Apart}
use Rattle.field.proofs.Frames.{kept_set}

-- two numbers that differ
pub differ : (m n : ℕ) → m ≢ n → (m < n) ⊎ (n < m)
differ m n d = elim (dec_lt m n) [ yes h ↦ inl h | no h ↦ inr (omega arith) ]

-- ---- one byte

-- x cut at weight P: what stands above it, one bit, what stands below it
cut : (x P : ℕ) → 0 < P → x / (P * 2) * (P * 2) + x / P % 2 * P + x % P ≡ x
cut x P pos =
    let e : x / P / 2 ≡ x / (P * 2) = div-div-eq-div-mul x P 2 in
    let f : x / P ≡ x / (P * 2) * 2 + x / P % 2 = omega arith in
    let g : x / P * P ≡ x / (P * 2) * (P * 2) + x / P % 2 * P
    = ap (λ (n : ℕ). n * P) f ∙ add-mul _ _ P ∙ ap (λ (n : ℕ). n + x / P % 2 * P) (mul_assoc _ 2 P ∙ ap (λ (n : ℕ). x / (P * 2) * n) (mul_comm 2 P)) in
    omega (arith, div-add-mod' x P)

-- the part at and below the weight is under twice the weight
rest_lt : (P v l : ℕ) → v < 2 → l < P → v * P + l < P * 2
rest_lt P v l hv hl = subst (λ (n : ℕ). v * P + l < n) (mul_comm 2 P) (digits_lt hv hl)

-- a bit below the weight 2 ^ k, where Q * (2 * w) is the weight
low : (a l Q w : ℕ) → 0 < Q → (a * (Q * (w * 2)) + l) / Q % 2 ≡ l / Q % 2
low a l Q w pos =
    let e : a * (Q * (w * 2)) + l ≡ l + (a * w * 2) * Q = omega (arith, mul_comm Q (w * 2), ap (λ (n : ℕ). a * n) (mul_comm Q (w * 2)), mul_assoc a (w * 2) Q, mul_assoc a w 2, ap (λ (n : ℕ). n * Q) (mul_assoc a w 2)) in
    ap (λ (n : ℕ). n / Q % 2) e ∙ ap (λ (n : ℕ). n % 2) (add-mul-div_right l (a * w * 2) pos) ∙ add-mul-mod_self_right (l / Q) (a * w) 2

-- a bit above the weight, where P * w is that bit's weight
high : (h r P w : ℕ) → r < P → (h * P + r) / (P * w) % 2 ≡ h / w % 2
high h r P w lt = ap (λ (n : ℕ). n % 2) (sym (div-div-eq-div-mul (h * P + r) P w) ∙ ap (λ (n : ℕ). n / w) (digits_div h lt))

-- 2 ^ j by way of a smaller power
pow_split : (i j : ℕ) → i < j → 2 ^ j ≡ 2 ^ i * (2 ^ (j - (i + 1)) * 2)
pow_split i j lt = ap (λ (n : ℕ). 2 ^ n) (let e : j ≡ i + (j - (i + 1) + 1) = omega arith in e) ∙ pow-add 2 i _ ∙ ap (λ (n : ℕ). 2 ^ i * n) (pow-add 2 (j - (i + 1)) 1)

-- any number whose part at and below the weight is changed at the weight
other : (h v v' l j k : ℕ) → v < 2 → v' < 2 → l < 2 ^ k → (j < k) ⊎ (k < j)
    → (h * (2 ^ k * 2) + v * 2 ^ k + l) / 2 ^ j % 2 ≡ (h * (2 ^ k * 2) + v' * 2 ^ k + l) / 2 ^ j % 2
other h v v' l j k hv hv' hl (inl lt) = below v ∙ sym (below v')
  where
    below : (x : ℕ) → (h * (2 ^ k * 2) + x * 2 ^ k + l) / 2 ^ j % 2 ≡ l / 2 ^ j % 2
    below x =
        let e : h * (2 ^ k * 2) + x * 2 ^ k ≡ (h * 2 + x) * 2 ^ k
        = omega (arith, add-mul (h * 2) x (2 ^ k), mul_assoc h 2 (2 ^ k), ap (λ (n : ℕ). h * n) (mul_comm 2 (2 ^ k))) in
        rw (e, pow_split j k lt, low (h * 2 + x) l (2 ^ j) (2 ^ (k - (j + 1))) (pow_pos j))
other h v v' l j k hv hv' hl (inr lt) = above v hv ∙ sym (above v' hv')
  where
    above : (x : ℕ) → x < 2 → (h * (2 ^ k * 2) + x * 2 ^ k + l) / 2 ^ j % 2 ≡ h / 2 ^ (j - (k + 1)) % 2
    above x hx =
        let e : 2 ^ j ≡ 2 ^ k * 2 * 2 ^ (j - (k + 1))
        = pow_split k j lt ∙ ap (λ (n : ℕ). 2 ^ k * n) (mul_comm _ 2) ∙ sym (mul_assoc (2 ^ k) 2 _) in
        rw (e, add_assoc) (high h (x * 2 ^ k + l) (2 ^ k * 2) (2 ^ (j - (k + 1))) (rest_lt (2 ^ k) x l hx hl))

pub bit_lt : (x k : ℕ) → bit_of x k < 2
unfolding bit_of
bit_lt x k = mod-lt (x / 2 ^ k) (omega arith)

pub with_same : (x k v : ℕ) → v < 2 → bit_of (with_bit x k v) k ≡ v
unfolding bit_of with_bit
with_same x k v hv =
    let P : ℕ = 2 ^ k in
    let e : x / (2 ^ k * 2) * (2 ^ k * 2) + v * 2 ^ k ≡ (x / (2 ^ k * 2) * 2 + v) * 2 ^ k
    = omega (arith, add-mul (x / (2 ^ k * 2) * 2) v (2 ^ k), mul_assoc (x / (2 ^ k * 2)) 2 (2 ^ k), ap (λ (n : ℕ). x / (2 ^ k * 2) * n) (mul_comm 2 (2 ^ k))) in
    rw (e, digits_div (x / (2 ^ k * 2) * 2 + v) (mod-lt x (pow_pos k))) (digits_mod (x / (2 ^ k * 2)) hv)

pub with_other : (x k j v : ℕ) → v < 2 → (j < k) ⊎ (k < j) → bit_of (with_bit x k v) j ≡ bit_of x j
unfolding bit_of with_bit
with_other x k j v hv d =
    other (x / (2 ^ k * 2)) v (x / 2 ^ k % 2) (x % 2 ^ k) j k hv (mod-lt _ (omega arith)) (mod-lt x (pow_pos k)) d
    ∙ ap (λ (n : ℕ). n / 2 ^ j % 2) (cut x (2 ^ k) (pow_pos k))

pub with_lt : (x k v : ℕ) → x < 256 → k < 8 → v < 2 → with_bit x k v < 256
unfolding with_bit
with_lt x k v hx hk hv =
    let e : 2 ^ (7 - k) * (2 ^ k * 2) ≡ 256
    = ap (λ (n : ℕ). 2 ^ (7 - k) * n) (sym (pow-add 2 k 1)) ∙ sym (pow-add 2 (7 - k) (k + 1)) ∙ ap (λ (n : ℕ). 2 ^ n) (let f : 7 - k + (k + 1) ≡ 8 = omega arith in f) in
    rw add_assoc
    (subst (λ (n : ℕ). x / (2 ^ k * 2) * (2 ^ k * 2) + (v * 2 ^ k + x % 2 ^ k) < n) e
    (digits_lt ((div-lt_iff_lt-mul (omega (arith, pow_pos k))).1 (subst (λ (n : ℕ). x < n) (sym e) hx)) (rest_lt (2 ^ k) v (x % 2 ^ k) hv (mod-lt x (pow_pos k)))))

-- the old bit is taken out of x, and v put in
pub with_sum : (x k v : ℕ) → with_bit x k v + bit_of x k * 2 ^ k ≡ x + v * 2 ^ k
unfolding with_bit bit_of
with_sum x k v = omega (arith, cut x (2 ^ k) (pow_pos k))

-- a bit in its place is no more than its weight, nor than the number
pub bit_part : (x k : ℕ) → bit_of x k * 2 ^ k ≤ x
unfolding bit_of
bit_part x k = omega (arith, cut x (2 ^ k) (pow_pos k))

-- ---- a table of bits

pub bit_at_lt : (b : List ℕ) (base n : ℕ) → bit_at b base n < 2
unfolding bit_at
bit_at_lt b base n = bit_lt _ (7 - n % 8)

pub kept_put_bit : (b : List ℕ) (base n v : ℕ) → Kept b (put_bit b base n v) (base + n / 8) 1
unfolding put_bit
kept_put_bit b base n v = kept_set b (base + n / 8) _

pub bit_kept : {b b' : List ℕ} {o m : ℕ} (base n : ℕ) → Kept b b' o m → Apart (base + n / 8) 1 o m → bit_at b' base n ≡ bit_at b base n
unfolding bit_at
bit_kept base n k a = rw (k.out (base + n / 8) a)

pub bit_put_same : (b : List ℕ) (base n v : ℕ) → base + n / 8 < length b → v < 2 → bit_at (put_bit b base n v) base n ≡ v
unfolding bit_at put_bit
bit_put_same b base n v h hv =
    rw (get_or-set_same b (base + n / 8) (with_bit (get_or b (base + n / 8) 0) (7 - n % 8) v) 0 h) (with_same (get_or b (base + n / 8) 0) (7 - n % 8) v hv)

pub bit_put_other : (b : List ℕ) (base n m v : ℕ) → base + n / 8 < length b → v < 2 → m ≢ n → bit_at (put_bit b base n v) base m ≡ bit_at b base m
unfolding bit_at put_bit
bit_put_other b base n m v h hv d = elim (ℕ_discrete (m / 8) (n / 8)) [ yes e ↦ same e | no ne ↦ away ne ]
  where
    x : ℕ
    x = get_or b (base + n / 8) 0

    same : m / 8 ≡ n / 8 → bit_of (get_or (set b (base + n / 8) (with_bit (get_or b (base + n / 8) 0) (7 - n % 8) v)) (base + m / 8) 0) (7 - m % 8) ≡ bit_of (get_or b (base + m / 8) 0) (7 - m % 8)
    same e =
        rw (e, get_or-set_same b (base + n / 8) (with_bit (get_or b (base + n / 8) 0) (7 - n % 8) v) 0 h)
        (with_other (get_or b (base + n / 8) 0) (7 - n % 8) (7 - m % 8) v hv (differ (7 - m % 8) (7 - n % 8) (omega arith)))

    away : m / 8 ≢ n / 8 → bit_of (get_or (set b (base + n / 8) (with_bit (get_or b (base + n / 8) 0) (7 - n % 8) v)) (base + m / 8) 0) (7 - m % 8) ≡ bit_of (get_or b (base + m / 8) 0) (7 - m % 8)
    away ne = rw (get_or-set_other b (base + n / 8) (base + m / 8) (with_bit (get_or b (base + n / 8) 0) (7 - n % 8) v) 0 (omega arith))

pub put_bit_lt : (b : List ℕ) (base n v j : ℕ) → v < 2 → base + n / 8 < length b → ((i : ℕ) → get_or b i 0 < 256) → get_or (put_bit b base n v) j 0 < 256
unfolding put_bit
put_bit_lt b base n v j hv h small = elim (ℕ_discrete j (base + n / 8)) [
  | yes e ↦ rw (e, get_or-set_same b (base + n / 8) (with_bit (get_or b (base + n / 8) 0) (7 - n % 8) v) 0 h) (with_lt (get_or b (base + n / 8) 0) (7 - n % 8) v (small (base + n / 8)) (omega arith) hv)
  | no ne ↦ rw (get_or-set_other b (base + n / 8) j (with_bit (get_or b (base + n / 8) 0) (7 - n % 8) v) 0 ne) (small j)
]
