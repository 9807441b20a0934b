-- The test `matches` is `Matches`; the match with three answers tells what the test does; and a law for each way out of the functions.
use mathlib.Core.Path.{◌≡◌, refl, sym, ap, ◌∙◌}
use mathlib.Core.Bool.{Bool, true, false, not, not-not, cond, ◌&&◌, ◌||◌, and-false, or-true, false≢true}
use mathlib.Core.List.{List, [], ◌∷◌}
use Prim.Native.Nat.{ℕ, suc, ◌<◌, ◌≤◌, ◌-◌}
use native.Mathlib.Omega.{arith}
use lib.ListN.{length, get_or, take, drop}
use lib.Seq.{take-length}
use lib.Dec.{eqb}
use borrow.Author.Tests.{eq-eqb, ne_eqb, eqb-true}
use Rattle.patterns.specs.Pattern.{is_one, is_any, Matches, end, same, one, none, more, some_tail, by_byte, matches}
use Rattle.patterns.specs.declared.pattern.Match.{Match}
use Rattle.patterns.specs.declared.pattern.Match.TheVariants.{Yes, No, NoTail}
use Rattle.patterns.specs.Three.{stands_for, or_else, any_three, byte_three, three_way, Differs}

-- ---- the test is the match

module _ (q : ℕ) (p : List ℕ) (test : List ℕ → Bool) (sound : (t : List ℕ) → test t ≡ true → Matches p t) where
  any_sound : is_any q ≡ true → (s : List ℕ) → some_tail test s ≡ true → Matches (q ∷ p) s
  any_sound e [] h = none e (sound [] h)
  any_sound e (c ∷ s) h = go (test (c ∷ s)) refl h (any_sound e s)
    where
      go : (t : Bool) → test (c ∷ s) ≡ t → (t || some_tail test s) ≡ true → (some_tail test s ≡ true → Matches (q ∷ p) s) → Matches (q ∷ p) (c ∷ s)
      go true k h later = none e (sound (c ∷ s) k)
      go false k h later = more e (later h)

  byte_sound : is_any q ≡ false → (s : List ℕ) → by_byte test q s ≡ true → Matches (q ∷ p) s
  byte_sound n [] h = absurd (false≢true h)
  byte_sound n (c ∷ s) h = go (is_one q) (eqb q c) refl refl h
    where
      go : (t u : Bool) → is_one q ≡ t → eqb q c ≡ u → ((t || u) && test s) ≡ true → Matches (q ∷ p) (c ∷ s)
      go true u e k h = one e (sound s h)
      go false true e k h = same n (eqb-true q c k) (sound s h)
      go false false e k h = absurd (false≢true h)

pub matches_sound : (p s : List ℕ) → matches p s ≡ true → Matches p s
unfolding matches
matches_sound [] [] h = end
matches_sound [] (c ∷ s) h = absurd (false≢true h)
matches_sound (q ∷ p) s h = go (is_any q) refl h (matches_sound p)
  where
    go : (t : Bool) → is_any q ≡ t → cond t (some_tail (matches p) s) (by_byte (matches p) q s) ≡ true → ((t : List ℕ) → matches p t ≡ true → Matches p t) → Matches (q ∷ p) s
    go true e h sound = any_sound q p (matches p) sound e s h
    go false n h sound = byte_sound q p (matches p) sound n s h

some_here : (test : List ℕ → Bool) (s : List ℕ) → test s ≡ true → some_tail test s ≡ true
some_here test [] h = h
some_here test (c ∷ s) h = rw h

pub matches_complete : {p s : List ℕ} → Matches p s → matches p s ≡ true
unfolding matches
matches_complete end = refl
matches_complete (same {q} {c} {p} {s} n e m) = rw (n, eq-eqb q c e, or-true (is_one q), matches_complete m)
matches_complete (one {q} {c} {p} {s} e m) = rw (eqb-true q 42 e, matches_complete m)
matches_complete (none {q} {p} {s} e m) = rw e (some_here (matches p) s (matches_complete m))
matches_complete (more {q} {c} {p} {s} e m) = let h = rw e at (matches_complete m) in rw (e, h) (or-true (matches p (c ∷ s)))

-- ---- the three answers tell what the test does

-- what an answer tells of the test of name s: it passes, it does not, no tail does
abbrev pub Tells : Match → (List ℕ → Bool) → List ℕ → Type 0
Tells Yes test s = test s ≡ true
Tells No test s = test s ≡ false
Tells NoTail test s = some_tail test s ≡ false

-- where no tail passes, the name itself does not
none_here : (test : List ℕ → Bool) (s : List ℕ) → some_tail test s ≡ false → test s ≡ false
none_here test [] h = h
none_here test (c ∷ s) h = go (test (c ∷ s)) h
  where
    go : (t : Bool) → (t || some_tail test s) ≡ false → t ≡ false
    go true h = h
    go false h = refl

-- nor does a tail of its rest
none_after : (test : List ℕ → Bool) (c : ℕ) (s : List ℕ) → some_tail test (c ∷ s) ≡ false → some_tail test s ≡ false
none_after test c s h = rw (none_here test (c ∷ s) h) at h

-- nor has it a tail that has a tail that passes
none_twice : (test : List ℕ → Bool) (s : List ℕ) → some_tail test s ≡ false → some_tail (some_tail test) s ≡ false
none_twice test [] h = h
none_twice test (c ∷ s) h = rw (h, none_twice test s (none_after test c s h))

-- where no tail of the rest passes, no tail of the name has a rest that does
none_by : (test : List ℕ → Bool) (q c : ℕ) (s : List ℕ) → some_tail test s ≡ false → some_tail (by_byte test q) (c ∷ s) ≡ false
none_by test q c [] h = rw (h, and-false (stands_for q c))
none_by test q c (d ∷ s) h = rw (none_here test (d ∷ s) h, and-false (stands_for q c), none_by test q d s (none_after test d s h))

module _ (test : List ℕ → Bool) (answer : List ℕ → Match) (tells : (s : List ℕ) → Tells (answer s) test s) where
  any_tells : (s : List ℕ) → Tells (any_three answer s) (some_tail test) s
  any_tells [] = go (answer []) (tells [])
    where
      go : (r : Match) → Tells r test [] → Tells (or_else r NoTail) (some_tail test) []
      go Yes h = h
      go No h = h
      go NoTail h = h
  any_tells (c ∷ s) = go (answer (c ∷ s)) (any_three answer s) (tells (c ∷ s)) (any_tells s)
    where
      go : (r t : Match) → Tells r test (c ∷ s) → Tells t (some_tail test) s → Tells (or_else r t) (some_tail test) (c ∷ s)
      go Yes t h k = rw h
      go No Yes h k = rw (h, k)
      go No No h k = rw (h, k)
      go No NoTail h k = rw (h, none_here (some_tail test) s k, k)
      go NoTail t h k = none_twice test (c ∷ s) h

  byte_tells : (q : ℕ) (s : List ℕ) → Tells (byte_three answer q s) (by_byte test q) s
  byte_tells q [] = refl
  byte_tells q (c ∷ s) = go (stands_for q c) refl (answer s) (tells s)
    where
      go : (t : Bool) → stands_for q c ≡ t → (r : Match) → Tells r test s → Tells (cond t r No) (by_byte test q) (c ∷ s)
      go true e Yes h = rw (e, h)
      go true e No h = rw (e, h)
      go true e NoTail h = none_by test q c s h
      go false e r h = rw e

  by_tells : (q : ℕ) (s : List ℕ) (t : Bool) → Tells (cond t (any_three answer s) (byte_three answer q s)) (λ s. cond t (some_tail test s) (by_byte test q s)) s
  by_tells q s true = any_tells s
  by_tells q s false = byte_tells q s

pub three_tells : (p s : List ℕ) → Tells (three_way p s) (matches p) s
unfolding three_way matches
three_tells [] [] = refl
three_tells [] (c ∷ s) = refl
three_tells (q ∷ p) s = by_tells (matches p) (three_way p) (three_tells p) q s (is_any q)

-- ---- the ways out of name_matches

pub yes_matches : (p s : List ℕ) {r : Match} → r ≡ three_way p s → r ≡ Yes → true ≡ matches p s
yes_matches p s e y = sym (rw (sym e ∙ y) at (three_tells p s))

pub others_fail : (p s : List ℕ) {r : Match} → r ≡ three_way p s → (r ≡ Yes → ⊥) → false ≡ matches p s
others_fail p s {r} e n = go r (rw (← e) at (three_tells p s)) n
  where
    go : (r : Match) → Tells r (matches p) s → (r ≡ Yes → ⊥) → false ≡ matches p s
    go Yes h n = absurd (n refl)
    go No h n = sym h
    go NoTail h n = sym (none_here (matches p) s h)

-- ---- the ways out of three_way, whose slice patterns take the first byte off

-- a list but for its first element
abbrev rest : List ℕ → List ℕ
rest s = take (length s - 1) (drop 1 s)

rest_cons : (c : ℕ) (s : List ℕ) → rest (c ∷ s) ≡ s
rest_cons c s = let e : suc (length s) - 1 ≡ length s = omega arith in rw (e, take-length s)

pub both_end : (p s : List ℕ) → length p < 1 → length s < 1 → Yes ≡ three_way p s
unfolding three_way
both_end [] [] h k = refl
both_end [] (c ∷ s) h k = absurd (omega (arith, k))
both_end (q ∷ p) s h k = absurd (omega (arith, h))

pub pattern_ends : (p s : List ℕ) → length p < 1 → 1 ≤ length s → No ≡ three_way p s
unfolding three_way
pattern_ends [] [] h k = absurd (omega (arith, k))
pattern_ends [] (c ∷ s) h k = refl
pattern_ends (q ∷ p) s h k = absurd (omega (arith, h))

first_stands : (r a b : Match) → r ≡ a → (r ≡ No → ⊥) → r ≡ or_else a b
first_stands Yes a b e n = rw (← e)
first_stands No a b e n = absurd (n refl)
first_stands NoTail a b e n = rw (← e)

-- a `?`: what is after it decides, if it is not `No`
pub any_stands : (p s : List ℕ) {r : Match} → 1 ≤ length p → get_or p 0 0 ≡ 63 → r ≡ three_way (rest p) s → (r ≡ No → ⊥) → r ≡ three_way p s
unfolding three_way
any_stands [] s h e m n = absurd (omega (arith, h))
any_stands (q ∷ p) [] {r} h e m n = rw e (first_stands r _ _ (rw (rest_cons q p) at m) n)
any_stands (q ∷ p) (c ∷ s) {r} h e m n = rw e (first_stands r _ _ (rw (rest_cons q p) at m) n)

-- it is `No`, and the name is at its end
pub any_ends : (p s : List ℕ) {r : Match} → 1 ≤ length p → get_or p 0 0 ≡ 63 → r ≡ three_way (rest p) s → r ≡ No → length s < 1 → NoTail ≡ three_way p s
unfolding three_way
any_ends [] s h e m n z = absurd (omega (arith, h))
any_ends (q ∷ p) [] h e m n z = rw (e, ← (rw (rest_cons q p) at m), n)
any_ends (q ∷ p) (c ∷ s) h e m n z = absurd (omega (arith, z))

-- it is `No`, and the `?` stands for one byte more
pub any_more : (p s : List ℕ) {r t : Match} → 1 ≤ length p → get_or p 0 0 ≡ 63 → r ≡ three_way (rest p) s → r ≡ No → 1 ≤ length s → t ≡ three_way p (rest s) → t ≡ three_way p s
unfolding three_way
any_more [] s h e m n z k = absurd (omega (arith, h))
any_more (q ∷ p) [] h e m n z k = absurd (omega (arith, z))
any_more (q ∷ p) (c ∷ s) h e m n z k = (rw (rest_cons c s) at k) ∙ rw (e, ← (rw (rest_cons q p) at m), n)

-- the name's first byte tells that what is after the `?` answers `No`
pub any_passes : (p s : List ℕ) {d : Bool} {t : Match} → 1 ≤ length p → get_or p 0 0 ≡ 63 → (d ≡ true → Differs (rest p) s) → d ≡ true → t ≡ three_way p (rest s) → t ≡ three_way p s
any_passes p s h e m i k = let w = m i in any_more p s {r = No} h e (sym w.answer) refl w.some k

-- no `?`, and the name is at its end
pub name_ends : (p s : List ℕ) → 1 ≤ length p → (get_or p 0 0 ≡ 63 → ⊥) → length s < 1 → NoTail ≡ three_way p s
unfolding three_way
name_ends [] s h n z = absurd (omega (arith, h))
name_ends (q ∷ p) [] h n z = rw (ne_eqb q 63 n)
name_ends (q ∷ p) (c ∷ s) h n z = absurd (omega (arith, z))

-- no `?`, and what is after it decides
pub byte_stands : (p s : List ℕ) {f : Bool} {r : Match} → 1 ≤ length p → (get_or p 0 0 ≡ 63 → ⊥) → 1 ≤ length s → f ≡ stands_for (get_or p 0 0) (get_or s 0 0) → f ≡ true → r ≡ three_way (rest p) (rest s) → r ≡ three_way p s
unfolding three_way
byte_stands [] s h n z e t m = absurd (omega (arith, h))
byte_stands (q ∷ p) [] h n z e t m = absurd (omega (arith, z))
byte_stands (q ∷ p) (c ∷ s) h n z e t m = rw (ne_eqb q 63 n, sym e ∙ t) (rw (rest_cons q p, rest_cons c s) at m)

-- no `?`, and it does not stand for the name's byte
pub byte_differs : (p s : List ℕ) {f : Bool} → 1 ≤ length p → (get_or p 0 0 ≡ 63 → ⊥) → 1 ≤ length s → f ≡ stands_for (get_or p 0 0) (get_or s 0 0) → f ≡ false → No ≡ three_way p s
unfolding three_way
byte_differs [] s h n z e t = absurd (omega (arith, h))
byte_differs (q ∷ p) [] h n z e t = absurd (omega (arith, z))
byte_differs (q ∷ p) (c ∷ s) h n z e t = rw (ne_eqb q 63 n, sym e ∙ t)

-- ---- of differs

pub first_tells : (p s : List ℕ) {f : Bool} → 1 ≤ length p → 1 ≤ length s → (get_or p 0 0 ≡ 63 → ⊥) → f ≡ stands_for (get_or p 0 0) (get_or s 0 0) → not f ≡ true → Differs p s
first_tells p s {f} h z n e t = record { some = z; answer = sym (byte_differs p s h n z e (sym (not-not f) ∙ ap not t)) }
