-- The laws of numbers in bytes: what callers cite instead of the definitions.
use mathlib.Core.Path.{◌≡◌, refl, sym, ap, ◌∙◌}
use mathlib.Core.Logic.{inl, inr}
use Prim.Native.Nat.{ℕ, zero, suc, ◌+◌, ◌*◌, ◌/◌, ◌%◌, ◌≤◌, ◌<◌}
use native.Mathlib.Numerals.{add-one}
use native.Mathlib.Omega.{arith}
use native.Mathlib.Nat.{div-div-eq-div-mul, div-add-mod', add_assoc}
use mathlib.Core.List.{List, append_assoc}
use lib.ListN.{get_or, set, length, take, drop, replicate, length-set}
use borrow.Rule.Slice.PartMut.{put_mid}
use Rattle.std.proofs.Common.{w16, w32}
use Rattle.std.specs.Int.{to_be_bytes}
use lib.Seq.{sets, sets-eq, drop-drop, get_or-set_same, get_or-set_other, get_or-take, get_or-drop}
use Rattle.field.specs.Numbers.{u16_at, u32_at, put_u16, put_u32}
use Rattle.field.specs.Kept.{Kept, Apart}
use Rattle.field.proofs.Frames.{kept_trans, kept_wider, kept_set}

-- ---- ranges

pub u16_lt : (b : List ℕ) (o : ℕ) → ((j : ℕ) → get_or b j 0 < 256) → u16_at b o < 65536
unfolding u16_at
u16_lt b o h = omega (arith, h o, h (o + 1))

pub u32_lt : (b : List ℕ) (o : ℕ) → ((j : ℕ) → get_or b j 0 < 256) → u32_at b o < 4294967296
unfolding u32_at
u32_lt b o h = omega (arith, h o, h (o + 1), h (o + 2), h (o + 3))

-- ---- reads under a frame

pub u16_kept : {b b' : List ℕ} {o n : ℕ} (p : ℕ) → Kept b b' o n → Apart p 2 o n → u16_at b' p ≡ u16_at b p
unfolding u16_at
u16_kept {b} {b'} p k (inl x) = rw (k.out p (inl (omega arith)), k.out (p + 1) (inl (omega arith)))
u16_kept {b} {b'} p k (inr x) = rw (k.out p (inr (omega arith)), k.out (p + 1) (inr (omega arith)))

pub u32_kept : {b b' : List ℕ} {o n : ℕ} (p : ℕ) → Kept b b' o n → Apart p 4 o n → u32_at b' p ≡ u32_at b p
unfolding u32_at
u32_kept p k (inl x) = rw (k.out p (inl (omega arith)), k.out (p + 1) (inl (omega arith)), k.out (p + 2) (inl (omega arith)), k.out (p + 3) (inl (omega arith)))
u32_kept p k (inr x) = rw (k.out p (inr (omega arith)), k.out (p + 1) (inr (omega arith)), k.out (p + 2) (inr (omega arith)), k.out (p + 3) (inr (omega arith)))

-- ---- the writers

pub kept_put_u16 : (b : List ℕ) (o v : ℕ) → Kept b (put_u16 b o v) o 2
unfolding put_u16
kept_put_u16 b o v =
    kept_trans
    (kept_wider {p = o} {m = 2} (kept_set b o _) (omega arith) (omega arith))
    (kept_wider {p = o} {m = 2} (kept_set _ (o + 1) _) (omega arith) (omega arith))

pub kept_put_u32 : (b : List ℕ) (o v : ℕ) → Kept b (put_u32 b o v) o 4
unfolding put_u32
kept_put_u32 b o v =
    kept_trans (kept_wider {p = o} {m = 4} (kept_set b o _) (omega arith) (omega arith))
    (kept_trans (kept_wider {p = o} {m = 4} (kept_set _ (o + 1) _) (omega arith) (omega arith))
    (kept_trans (kept_wider {p = o} {m = 4} (kept_set _ (o + 2) _) (omega arith) (omega arith))
    (kept_wider {p = o} {m = 4} (kept_set _ (o + 3) _) (omega arith) (omega arith))))

pub u16_put_same : (b : List ℕ) (o v : ℕ) → o + 2 ≤ length b → u16_at (put_u16 b o v) o ≡ v
unfolding u16_at put_u16
u16_put_same b o v h =
    let e₀ : get_or (set (set b o (v / 256)) (o + 1) (v % 256)) o 0 ≡ v / 256
    = get_or-set_other (set b o (v / 256)) (o + 1) o _ 0 (omega arith) ∙ get_or-set_same b o _ 0 (omega arith) in
    let e₁ : get_or (set (set b o (v / 256)) (o + 1) (v % 256)) (o + 1) 0 ≡ v % 256
    = get_or-set_same (set b o (v / 256)) (o + 1) _ 0 (simp length-set (omega arith)) in
    omega (arith, e₀, e₁)

-- four digits of 256
digits : (v q₁ q₂ q₃ r₀ r₁ r₂ r₃ : ℕ) → q₁ * 256 + r₀ ≡ v → q₂ * 256 + r₁ ≡ q₁ → q₃ * 256 + r₂ ≡ q₂ → r₃ ≡ q₃ → r₃ * 16777216 + r₂ * 65536 + r₁ * 256 + r₀ ≡ v
digits v q₁ q₂ q₃ r₀ r₁ r₂ r₃ h₁ h₂ h₃ h₄ = omega arith

word : (v : ℕ) → v / 16777216 * 16777216 + v / 65536 % 256 * 65536 + v / 256 % 256 * 256 + v % 256 ≡ v
word v =
    digits v (v / 256) (v / 65536) (v / 16777216) _ _ _ _ (div-add-mod' v 256)
    (ap (λ (q : ℕ). q * 256 + v / 256 % 256) (sym (div-div-eq-div-mul v 256 256)) ∙ div-add-mod' (v / 256) 256)
    (ap (λ (q : ℕ). q * 256 + v / 65536 % 256) (sym (div-div-eq-div-mul v 65536 256)) ∙ div-add-mod' (v / 65536) 256)
    refl

pub u32_put_same : (b : List ℕ) (o v : ℕ) → o + 4 ≤ length b → u32_at (put_u32 b o v) o ≡ v
unfolding u32_at put_u32
u32_put_same b o v h =
    let b₁ : List ℕ = set b o (v / 16777216) in
    let b₂ : List ℕ = set b₁ (o + 1) (v / 65536 % 256) in
    let b₃ : List ℕ = set b₂ (o + 2) (v / 256 % 256) in
    let b₄ : List ℕ = set b₃ (o + 3) (v % 256) in
    let e₀ : get_or b₄ o 0 ≡ v / 16777216
    = get_or-set_other b₃ (o + 3) o _ 0 (omega arith) ∙ get_or-set_other b₂ (o + 2) o _ 0 (omega arith) ∙ get_or-set_other b₁ (o + 1) o _ 0 (omega arith) ∙ get_or-set_same b o _ 0 (omega arith) in
    let e₁ : get_or b₄ (o + 1) 0 ≡ v / 65536 % 256
    = get_or-set_other b₃ (o + 3) (o + 1) _ 0 (omega arith) ∙ get_or-set_other b₂ (o + 2) (o + 1) _ 0 (omega arith) ∙ get_or-set_same b₁ (o + 1) _ 0 (simp length-set (omega arith)) in
    let e₂ : get_or b₄ (o + 2) 0 ≡ v / 256 % 256
    = get_or-set_other b₃ (o + 3) (o + 2) _ 0 (omega arith) ∙ get_or-set_same b₂ (o + 2) _ 0 (simp length-set (omega arith)) in
    let e₃ : get_or b₄ (o + 3) 0 ≡ v % 256
    = get_or-set_same b₃ (o + 3) _ 0 (simp length-set (omega arith)) in
    rw (e₀, e₁, e₂, e₃, word v)

-- ---- numbers laid over a part as bytes

put_sets : (b : List ℕ) (o k : ℕ) (zs ys : List ℕ) → zs ≡ ys → k ≡ length ys → o + length ys ≤ length b → put_mid o k b zs ≡ sets b o ys
put_sets b o k zs ys e n h = rw (e, n, drop-drop, ← append_assoc) (sym (sets-eq ys b o h))

pub u16_laid : (b : List ℕ) (o k v : ℕ) (zs : List ℕ) → zs ≡ to_be_bytes w16 v → k ≡ 2 → o + 2 ≤ length b → v < 65536 → put_mid o k b zs ≡ put_u16 b o v
unfolding put_u16
u16_laid b o k v zs e n h l =
    let d : v / 256 % 256 ≡ v / 256 = omega arith in
    put_sets b o k zs (to_be_bytes w16 v) e n h ∙ rw (d, add-one o)

pub u32_laid : (b : List ℕ) (o k v : ℕ) (zs : List ℕ) → zs ≡ to_be_bytes w32 v → k ≡ 4 → o + 4 ≤ length b → v < 4294967296 → put_mid o k b zs ≡ put_u32 b o v
unfolding put_u32
u32_laid b o k v zs e n h l =
    let d : v / 16777216 % 256 ≡ v / 16777216 = omega arith in
    let second : o + 2 ≡ suc (suc o) = omega arith in
    let third : o + 3 ≡ suc (suc (suc o)) = omega arith in
    put_sets b o k zs (to_be_bytes w32 v) e n h ∙ rw (d, add-one o, second, third)

-- ---- reads in a part, and in nulls

pub get_d_part : (b : List ℕ) (a n j : ℕ) → j < n → get_or (take n (drop a b)) j 0 ≡ get_or b (a + j) 0
get_d_part b a n j l = get_or-take n (drop a b) j 0 l ∙ get_or-drop a b j 0

pub u32_part : (b : List ℕ) (a n o : ℕ) → o + 4 ≤ n → u32_at (take n (drop a b)) o ≡ u32_at b (a + o)
unfolding u32_at
u32_part b a n o h =
    rw (get_d_part b a n o (omega arith), get_d_part b a n (o + 1) (omega arith), get_d_part b a n (o + 2) (omega arith), get_d_part b a n (o + 3) (omega arith), add_assoc a o 1, add_assoc a o 2, add_assoc a o 3)

pub get_d_zeros : (n i : ℕ) → ◌≡◌ {A = ℕ} (get_or (replicate n 0) i 0) 0
get_d_zeros zero i = refl
get_d_zeros (suc n) zero = refl
get_d_zeros (suc n) (suc i) = get_d_zeros n i

pub u16_zeros : (n p : ℕ) → u16_at (replicate n 0) p ≡ 0
unfolding u16_at
u16_zeros n p = rw (get_d_zeros n p, get_d_zeros n (p + 1))

pub u32_zeros : (n p : ℕ) → u32_at (replicate n 0) p ≡ 0
unfolding u32_at
u32_zeros n p = rw (get_d_zeros n p, get_d_zeros n (p + 1), get_d_zeros n (p + 2), get_d_zeros n (p + 3))
