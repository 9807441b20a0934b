-- The laws of parts that are laid over.
use mathlib.Core.Path.{◌≡◌, refl, sym, ap, ap₂, ◌∙◌}
use mathlib.Core.Logic.{⊎_elim}
use Prim.Native.Nat.{ℕ, zero, suc, ◌+◌, ◌-◌, ◌*◌, ◌≤◌, ◌<◌}
use lib.Dec.{eqb}
use mathlib.Core.Bool.{Bool, true, false, ◌&&◌}
use borrow.Author.Tests.{eqb-true, eq-eqb}
use Rattle.std.specs.Cmp.Lexicographic.{pointwise}
use Rattle.std.specs.List.{list_all}
use Rattle.std.specs.Simd.{first_chunks}
use Rattle.std.proofs.lemmas.List.{take-append-drop, get_or_default}
use Rattle.std.proofs.lemmas.List.Sums.{AllPass-from_list_all, list_all-from_AllPass}
use Rattle.std.proofs.lemmas.List.Folds.{list_all-append}
use native.Mathlib.Numerals.{add-one}
use native.Mathlib.Omega.{arith}
use mathlib.Core.List.{List, [], ◌∷◌, ◌++◌, append_assoc}
use lib.ListN.{get_or, set, length, take, drop, replicate, length-drop, length-append, get_or-append}
use borrow.Rule.Slice.PartMut.{put_mid}
use lib.Seq.{drop-drop, take-add, paste, paste-suc, ext_get_or, take-length, get_or-take, get_or-drop, get_or-append-add, length-take-le, drop_at, take_at}
use Rattle.field.specs.Says.{Says}
use Rattle.field.specs.Parts.{over, AllBytes}
use Rattle.field.specs.Kept.{Kept}
use Rattle.field.proofs.Tests.{says_test}
use Rattle.field.proofs.NumberLaws.{get_d_part}

-- a part that was lent comes back as ys
pub over_mid : (xs : List ℕ) (a k : ℕ) (zs ys : List ℕ) → zs ≡ ys → k ≡ length ys → put_mid a k xs zs ≡ over xs a ys
unfolding over
over_mid xs a k zs ys e n = rw (e, n, drop-drop)

-- the kit's copy of all of ys
pub over_paste : (xs : List ℕ) (a : ℕ) (ys : List ℕ) → paste xs a ys (length ys) ≡ over xs a ys
unfolding over
over_paste xs a ys = rw (take-length ys, append_assoc)

module _ (xs : List ℕ) (a : ℕ) (ys : List ℕ) (fits : a + length ys ≤ length xs) where
  front : length (take a xs) ≡ a
  front = length-take-le a xs (omega arith)

  pub length_over : length (over xs a ys) ≡ length xs
  unfolding over
  length_over = simp (length-append, length-drop) (omega (arith, front))

  pub kept_over : Kept xs (over xs a ys) a (length ys)
  unfolding over
  kept_over = record {
    len = length_over;
    out = λ j d. ⊎_elim (λ l. get_or-append (take a xs) _ 0 j (omega (arith, front)) ∙ get_or-take a xs j 0 (omega arith)) (λ l. after j l) d;
  }
    where
      after : (j : ℕ) → a + length ys ≤ j → get_or (take a xs ++ (ys ++ drop (a + length ys) xs)) j 0 ≡ get_or xs j 0
      after j l =
          let e : j ≡ length (take a xs) + (length ys + (j - (a + length ys))) = omega (arith, front) in
          ap (λ (n : ℕ). get_or (take a xs ++ (ys ++ drop (a + length ys) xs)) n 0) e
          ∙ get_or-append-add (take a xs) _ _ 0 ∙ get_or-append-add ys _ _ 0 ∙ get_or-drop (a + length ys) xs _ 0
          ∙ ap (λ (n : ℕ). get_or xs n 0) (let f : a + length ys + (j - (a + length ys)) ≡ j = omega arith in f)

  pub over_part : take (length ys) (drop a (over xs a ys)) ≡ ys
  unfolding over
  over_part = ap (take (length ys)) (drop_at (take a xs) (ys ++ drop (a + length ys) xs) a front) ∙ take_at ys (drop (a + length ys) xs) (length ys) refl

-- ---- a loop that copies byte by byte: a turn, and the end

pub copy_more : (d s x : List ℕ) (at i : ℕ) → x ≡ paste d at s i → at + i < length d → i < length s → set x (at + i) (get_or s i 0) ≡ paste d at s (i + 1)
copy_more d s x at i e h k = rw (add-one i) (ap (λ (y : List ℕ). set y (at + i) (get_or s i 0)) e ∙ paste-suc d at s i 0 h k)

pub copy_end : (d s x : List ℕ) (at i : ℕ) → x ≡ paste d at s i → i ≤ length s → length s ≤ i → x ≡ over d at s
copy_end d s x at i e h k = e ∙ ap (paste d at s) (let q : i ≡ length s = omega arith in q) ∙ over_paste d at s

-- ---- a part is compared byte by byte

pub same_at : (s t : List ℕ) (at : ℕ) → take (length t) (drop at s) ≡ t → (k : ℕ) → k < length t → get_or s (at + k) 0 ≡ get_or t k 0
same_at s t at e k l = sym (get_d_part s at (length t) k l) ∙ ap (λ (x : List ℕ). get_or x k 0) e

pub same_all : (s t : List ℕ) (at : ℕ) → at + length t ≤ length s → ((k : ℕ) → k < length t → get_or s (at + k) 0 ≡ get_or t k 0) → take (length t) (drop at s) ≡ t
same_all s t at h all =
    let e : length (take (length t) (drop at s)) ≡ length t = length-take-le (length t) (drop at s) (omega (arith, length-drop at s)) in
    ext_get_or 0 (take (length t) (drop at s)) t e (λ k l. get_d_part s at (length t) k (omega (arith, e)) ∙ all k (omega (arith, e)))

-- ---- bytes that are all the same, eight at a time

pub all_within : (b : List ℕ) (at i w n v : ℕ) → i + w ≤ n → AllBytes b at n v → AllBytes b (at + i) w v
all_within b at i w n v h all k l = let e : at + (i + k) ≡ at + i + k = omega arith in rw e at (all (i + k) (omega arith))

-- a test of the bytes, and of eight of them
abbrev pub is : ℕ → ℕ → Bool
is v x = eqb x v

abbrev pub are : ℕ → List ℕ → Bool
are v w = pointwise eqb w (replicate 8 v)

list_says : (s : List ℕ) (at n v : ℕ) → at + n ≤ length s → Says (list_all (is v) (take n (drop at s))) (AllBytes s at n v)
list_says s at n v h =
    let long : length (take n (drop at s)) ≡ n = length-take-le n (drop at s) (omega (arith, length-drop at s)) in
    says_test (list_all (is v) (take n (drop at s)))
    (λ e k l. sym (get_d_part s at n k l) ∙ eqb-true _ v (AllPass-from_list_all (is v) (take n (drop at s)) e k 0 (omega arith)))
    (λ all. list_all-from_AllPass (is v) (take n (drop at s)) (λ k d l. eq-eqb _ v (get_or_default (take n (drop at s)) k d 0 l ∙ get_d_part s at n k (omega arith) ∙ all k (omega arith))))

run_are : (v n : ℕ) (xs : List ℕ) → n ≤ length xs → pointwise eqb (take n xs) (replicate n v) ≡ list_all (is v) (take n xs)
run_are v zero xs h = refl
run_are v (suc n) [] h = absurd (omega (arith, h))
run_are v (suc n) (x ∷ xs) h = ap (λ r. eqb x v && r) (run_are v n xs (omega arith))

eights_are : (v k : ℕ) (xs : List ℕ) → k * 8 ≤ length xs → list_all (are v) (first_chunks 8 k xs) ≡ list_all (is v) (take (k * 8) xs)
eights_are v zero xs h = refl
eights_are v (suc k) xs h =
    let e : suc k * 8 ≡ 8 + k * 8 = omega arith in
    rw (e, take-add 8 (k * 8) xs, list_all-append (is v) (take 8 xs) (take (k * 8) (drop 8 xs)))
    (ap₂ (λ p q. p && q) (run_are v 8 xs (omega arith)) (eights_are v k (drop 8 xs) (omega (arith, length-drop 8 xs))))

-- the whole is so many eights, and what is left of it
both_are : (v k : ℕ) (xs : List ℕ) → k * 8 ≤ length xs → list_all (is v) xs ≡ (list_all (are v) (first_chunks 8 k xs) && list_all (is v) (drop (k * 8) xs))
both_are v k xs h =
    ap (list_all (is v)) (sym (take-append-drop (k * 8) xs)) ∙ list_all-append (is v) (take (k * 8) xs) (drop (k * 8) xs)
    ∙ ap (λ r. r && list_all (is v) (drop (k * 8) xs)) (sym (eights_are v k xs h))

module _ (s : List ℕ) (at n v : ℕ) (fits : at + n ≤ length s) (part : List ℕ) (is_part : part ≡ take n (drop at s)) where
  whole : (k : ℕ) → k * 8 ≤ length part → Says (list_all (are v) (first_chunks 8 k part) && list_all (is v) (drop (k * 8) part)) (AllBytes s at n v)
  whole k h = rw (← both_are v k part h, is_part) (list_says s at n v fits)

  -- the eights are all v, and what is left decides
  pub rest_says : (k : ℕ) (e r : Bool) → k * 8 ≤ length part → e ≡ list_all (are v) (first_chunks 8 k part) → e ≡ true → r ≡ list_all (is v) (drop (k * 8) part) → Says r (AllBytes s at n v)
  rest_says k e r h all t left = rw left (rw (sym all ∙ t) at (whole k h))

  -- they are not
  pub eights_say : (k : ℕ) (e : Bool) → k * 8 ≤ length part → e ≡ list_all (are v) (first_chunks 8 k part) → e ≡ false → Says e (AllBytes s at n v)
  eights_say k e h all f = rw f (rw (sym all ∙ f) at (whole k h))
