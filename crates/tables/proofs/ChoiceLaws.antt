-- Which blocks can be had, for any number of types and zones: zones that are open are handed out type by type, and of the free blocks
-- of each type the first are taken. Types are t + 3 for t below n, as the volume's are; zones are counted from 0.
use mathlib.Core.Path.{◌≡◌, refl, ap, ◌∙◌}
use mathlib.Core.Bool.{Bool, true, false, cond, ◌&&◌, ◌||◌}
use Prim.Native.Nat.{ℕ, zero, suc, ◌+◌, ◌-◌, ◌*◌, ◌/◌, ◌≤◌, ◌<◌, min}
use native.Mathlib.Nat.{le_trans, le_refl, add-le-add, mul_comm, suc-mul, mul-suc, mul-zero, add-zero, mul-le-mul_left, div-lt_iff_lt-mul, lt-div-mul-add, not-suc-le-zero}
use native.Mathlib.Decide.{ℕ_discrete}
use native.Mathlib.Numerals.{add-one}
use native.Mathlib.Omega.{arith}
use lib.Dec.{eqb, ltb}
use borrow.Author.Tests.{eqb-true, eq-eqb, ne_eqb, ltb-true, ltb-false, lt-ltb, le-ltb}
use Rattle.field.specs.Sum.{sum_to}
use Rattle.field.proofs.Sums.{sum_add, sum_zero, sum_one}
use Rattle.tables.specs.Rules.R1.{ceil}
use Rattle.tables.specs.Views.{only_if}

-- ---- rounding up

pub ceil_least : (a b m : ℕ) → 0 < b → a ≤ b * m → ceil a b ≤ m
ceil_least a b m h k =
    let q : a + (b - 1) < suc m * b = let e = suc-mul m b in let e' = mul_comm b m in omega arith in
    let r : (a + (b - 1)) / b < suc m = (div-lt_iff_lt-mul h).1 q in
    omega arith

pub ceil_enough : (a b : ℕ) → 0 < b → a ≤ b * ceil a b
ceil_enough a b h = let q = lt-div-mul-add {a = a + (b - 1)} h in let e = mul_comm b ((a + (b - 1)) / b) in omega arith

-- ---- sums

pub sum_mono : (n : ℕ) (f g : ℕ → ℕ) → ((k : ℕ) → k < n → f k ≤ g k) → sum_to n f ≤ sum_to n g
unfolding sum_to
sum_mono zero f g h = le_refl 0
sum_mono (suc n) f g h = add-le-add (sum_mono n f g (λ k l. h k (omega arith))) (h n (omega arith))

sum_longer : (f : ℕ → ℕ) (m n : ℕ) → m ≤ n → sum_to m f ≤ sum_to n f
unfolding sum_to
sum_longer f m zero h = let e : m ≡ 0 = omega arith in rw e (le_refl 0)
sum_longer f m (suc n) h = elim (ℕ_discrete m (suc n)) [
  | yes e ↦ rw e (le_refl (sum_to n f + f n))
  | no e ↦ let p = sum_longer f m n (omega arith) in omega arith
]

-- ---- how many of the first n pass a test

abbrev pub count : (ℕ → Bool) → ℕ → ℕ
count p n = sum_to n (λ k. only_if (p k) 1)

one_mono : (a b : Bool) → (a ≡ true → b ≡ true) → only_if a 1 ≤ only_if b 1
unfolding only_if
one_mono true b h = rw (h refl) (le_refl 1)
one_mono false b h = omega arith

count_mono : (p q : ℕ → Bool) (n : ℕ) → ((k : ℕ) → p k ≡ true → q k ≡ true) → count p n ≤ count q n
count_mono p q n h = sum_mono n (λ k. only_if (p k) 1) (λ k. only_if (q k) 1) (λ k _. one_mono (p k) (q k) (h k))

count_all : (n : ℕ) → count (λ _. true) n ≡ n
unfolding only_if
count_all n = sum_one n (λ _. 1) (λ _ _. refl)

-- the first c of those that pass, where b have passed before
count_first : (p : ℕ → Bool) (b c n : ℕ) → count (λ k. p k && ltb (b + count p k) c) n + min b c ≡ min (b + count p n) c
unfolding sum_to only_if
count_first p b c zero = omega arith
count_first p b c (suc n) = go (p n) (ltb (b + count p n) c) refl (count_first p b c n)
  where
    go : (t u : Bool) → ltb (b + count p n) c ≡ u → count (λ k. p k && ltb (b + count p k) c) n + min b c ≡ min (b + count p n) c
        → count (λ k. p k && ltb (b + count p k) c) n + only_if (t && u) 1 + min b c ≡ min (b + (count p n + only_if t 1)) c
    go true true e h = let l : b + count p n < c = ltb-true _ _ e in omega arith
    go true false e h = let l : c ≤ b + count p n = ltb-false _ _ e in omega arith
    go false u e h = omega arith

-- ---- a zone has one type

hits_none : (a n : ℕ) → n + 3 ≤ a → sum_to n (λ t. only_if (eqb a (t + 3)) 1) ≡ 0
unfolding only_if
hits_none a n h = sum_zero n (λ t. only_if (eqb a (t + 3)) 1) (λ t l. rw (ne_eqb a (t + 3) (omega arith)))

hits_one : (a n : ℕ) → sum_to n (λ t. only_if (eqb a (t + 3)) 1) ≤ 1
unfolding sum_to only_if
hits_one a zero = omega arith
hits_one a (suc n) = elim (ℕ_discrete a (n + 3)) [
  | yes e ↦ let z = hits_none a n (omega arith) in rw (eq-eqb a (n + 3) e) (omega arith)
  | no e ↦ let z = hits_one a n in rw (ne_eqb a (n + 3) e) (omega arith)
]

-- ---- places handed out in order: l 0 of them to type 3, then l 1 to type 4, ..

unfoldable pub owner : (ℕ → ℕ) → ℕ → ℕ → ℕ
owner l zero k = 3
owner l (suc n) k = cond (ltb k (sum_to n l)) (owner l n k) (n + 3)

owns : (l : ℕ → ℕ) (n t k : ℕ) → t < n → sum_to t l ≤ k → k < sum_to (suc t) l → owner l n k ≡ t + 3
unfolding owner
owns l zero t k h lo hi = absurd (not-suc-le-zero h)
owns l (suc n) t k h lo hi = elim (ℕ_discrete t n) [
  | yes e ↦ let q : sum_to n l ≤ k = rw (← e) lo in rw (le-ltb k (sum_to n l) q) (omega arith)
  | no e ↦ let m = sum_longer l (suc t) n (omega arith) in rw (lt-ltb k (sum_to n l) (omega arith)) (owns l n t k (omega arith) lo hi)
]

-- each place gets one of the types
pub owner_low : (l : ℕ → ℕ) (n k : ℕ) → 3 ≤ owner l n k
unfolding owner
owner_low l zero k = le_refl 3
owner_low l (suc n) k = go (ltb k (sum_to n l)) (owner_low l n k)
  where
    go : (b : Bool) → 3 ≤ owner l n k → 3 ≤ cond b (owner l n k) (n + 3)
    go true h = h
    go false h = omega arith

pub owner_high : (l : ℕ → ℕ) (n k : ℕ) → owner l (suc n) k ≤ n + 3
unfolding owner
owner_high l zero k = go (ltb k (sum_to 0 l))
  where
    go : (b : Bool) → cond b 3 3 ≤ 3
    go true = le_refl 3
    go false = le_refl 3
owner_high l (suc n) k = go (ltb k (sum_to (suc n) l)) (owner_high l n k)
  where
    go : (b : Bool) → owner l (suc n) k ≤ n + 3 → cond b (owner l (suc n) k) (suc n + 3) ≤ suc n + 3
    go true h = omega arith
    go false h = le_refl (suc n + 3)

-- a run of d places that g gives to t, from lo on, within m
run : (g : ℕ → ℕ) (t lo d m : ℕ) → lo + d ≤ m → ((k : ℕ) → lo ≤ k → k < lo + d → g k ≡ t) → d ≤ count (λ k. eqb (g k) t) m
unfolding sum_to only_if
run g t lo d zero h r = omega arith
run g t lo zero (suc m) h r = omega arith
run g t lo (suc d) (suc m) h r = elim (ℕ_discrete (lo + suc d) (suc m)) [
  | yes e ↦
      let p = run g t lo d m (omega arith) (λ k a b. r k a (omega arith)) in
      rw (eq-eqb (g m) t (r m (omega arith) (omega arith))) (omega arith)
  | no e ↦ let p = run g t lo (suc d) m (omega arith) r in omega arith
]

-- ---- the choice

-- what a zone gives of type t that is open and given a, or not open and has y
give_one : (s r p g : ℕ) (a : Bool) → s ≡ r + p * g → s + only_if a (count (λ _. true) p) ≡ r + 0 + p * (g + only_if a 1)
unfolding only_if
give_one s r p g true h = let e = count_all p in let k : p * (g + 1) ≡ p * g + p = ap (λ (x : ℕ). p * x) (add-one g) ∙ mul-suc p g in omega arith
give_one s r p g false h = let k : p * (g + 0) ≡ p * g = ap (λ (x : ℕ). p * x) (add-zero g) in omega arith

keep_all : (s r p g y : ℕ) → s ≡ r + p * g → s + y ≡ r + y + p * (g + 0)
keep_all s r p g y h = let k : p * (g + 0) ≡ p * g = ap (λ (x : ℕ). p * x) (add-zero g) in omega arith

-- zones by number: whether they are open, else their type and which of their blocks are free; a zone of type t has per t blocks
module _ (open' : ℕ → Bool) (type : ℕ → ℕ) (free : ℕ → ℕ → Bool) (per : ℕ → ℕ) where
  -- the type of a zone under an assignment g, and whether a block of it is free
  abbrev pub under : (ℕ → ℕ) → ℕ → ℕ
  under g z = cond (open' z) (g z) (type z)

  abbrev pub fit : ℕ → ℕ → Bool
  fit z k = open' z || free z k

  -- the taken blocks of type t in the first m zones
  abbrev pub size : (ℕ → ℕ) → (ℕ → ℕ → Bool) → ℕ → ℕ → ℕ
  size g taken t m = sum_to m (λ z. only_if (eqb (under g z) t) (count (taken z) (per t)))

  -- the free ones in zones that are not open
  abbrev pub begun : ℕ → ℕ → ℕ
  begun t m = sum_to m (λ z. cond (open' z) 0 (only_if (eqb (type z) t) (count (free z) (per t))))

  -- the open zones that g gives to t
  abbrev gives : (ℕ → ℕ) → ℕ → ℕ → ℕ
  gives g t m = count (λ z. open' z && eqb (g z) t) m

  -- what there is of type t: the free blocks of the begun zones, and a whole zone for each that is given
  there : (g : ℕ → ℕ) (t m : ℕ) → size g fit t m ≡ begun t m + per t * gives g t m
  unfolding sum_to only_if
  there g t zero = let e = mul-zero (per t) in omega arith
  there g t (suc m) = go (open' m) (there g t m)
    where
      go : (o : Bool) → size g fit t m ≡ begun t m + per t * gives g t m
          → size g fit t m + only_if (eqb (cond o (g m) (type m)) t) (count (λ k. o || free m k) (per t))
          ≡ begun t m + cond o 0 (only_if (eqb (type m) t) (count (free m) (per t))) + per t * (gives g t m + only_if (o && eqb (g m) t) 1)
      go true h = give_one (size g fit t m) (begun t m) (per t) (gives g t m) (eqb (g m) t) h
      go false h = keep_all (size g fit t m) (begun t m) (per t) (gives g t m) (only_if (eqb (type m) t) (count (free m) (per t))) h

  -- a set of free blocks is no larger than that
  size_most : (g : ℕ → ℕ) (taken : ℕ → ℕ → Bool) (t m : ℕ) → ((z k : ℕ) → taken z k ≡ true → fit z k ≡ true) → size g taken t m ≤ size g fit t m
  unfolding only_if
  size_most g taken t m h = sum_mono m _ _ (λ z _. go z (eqb (under g z) t))
    where
      go : (z : ℕ) (a : Bool) → only_if a (count (taken z) (per t)) ≤ only_if a (count (fit z) (per t))
      go z true = count_mono (taken z) (fit z) (per t) (h z)
      go z false = le_refl 0

  -- no more zones are given than are open
  all_gives : (g : ℕ → ℕ) (n m : ℕ) → sum_to n (λ t. gives g (t + 3) m) ≤ count open' m
  unfolding sum_to only_if
  all_gives g n zero = omega (arith, sum_zero n (λ _. 0) (λ _ _. refl))
  all_gives g n (suc m) = go (open' m) (all_gives g n m)
    where
      go : (o : Bool) → sum_to n (λ t. gives g (t + 3) m) ≤ count open' m → sum_to n (λ t. gives g (t + 3) m + only_if (o && eqb (g m) (t + 3)) 1) ≤ count open' m + only_if o 1
      go true h = let e = sum_add n (λ t. gives g (t + 3) m) (λ t. only_if (eqb (g m) (t + 3)) 1) in let q = hits_one (g m) n in omega arith
      go false h = let e = sum_add n (λ t. gives g (t + 3) m) (λ t. 0) in let q = sum_zero n (λ _. 0) (λ _ _. refl) in omega arith

  -- given by their place among the open ones, as many are given as there are places
  by_place : (h : ℕ → ℕ) (t m : ℕ) → gives (λ z. h (count open' z)) t m ≡ count (λ k. eqb (h k) t) (count open' m)
  unfolding sum_to only_if
  by_place h t zero = refl
  by_place h t (suc m) = go (open' m) (by_place h t m)
    where
      go : (o : Bool) → gives (λ z. h (count open' z)) t m ≡ count (λ k. eqb (h k) t) (count open' m)
          → gives (λ z. h (count open' z)) t m + only_if (o && eqb (h (count open' m)) t) 1 ≡ count (λ k. eqb (h k) t) (count open' m + only_if o 1)
      go true e = let q = ap (count (λ k. eqb (h k) t)) (add-one (count open' m)) in rw q (omega arith)
      go false e = let q = ap (count (λ k. eqb (h k) t)) (add-zero (count open' m)) in rw q (omega arith)

  -- the first c t free blocks of each type
  abbrev pub firsts : (ℕ → ℕ) → (ℕ → ℕ) → ℕ → ℕ → Bool
  firsts g c z k = fit z k && ltb (size g fit (under g z) z + count (fit z) k) (c (under g z))

  size_firsts : (g c : ℕ → ℕ) (t m : ℕ) → size g (firsts g c) t m ≡ min (size g fit t m) (c t)
  unfolding sum_to only_if
  size_firsts g c t zero = omega arith
  size_firsts g c t (suc m) = go (eqb (under g m) t) refl (size_firsts g c t m)
    where
      go : (a : Bool) → eqb (under g m) t ≡ a → size g (firsts g c) t m ≡ min (size g fit t m) (c t)
          → size g (firsts g c) t m + only_if a (count (firsts g c m) (per t)) ≡ min (size g fit t m + only_if a (count (fit m) (per t))) (c t)
      go true e h =
          let q = eqb-true _ _ e in
          let f : count (firsts g c m) (per t) + min (size g fit t m) (c t) ≡ min (size g fit t m + count (fit m) (per t)) (c t)
          = ap (λ (u : ℕ). count (λ k. fit m k && ltb (size g fit u m + count (fit m) k) (c u)) (per t) + min (size g fit t m) (c t)) q
          ∙ count_first (fit m) (size g fit t m) (c t) (per t) in
          omega arith
      go false e h = omega arith

  module _ (m n : ℕ) (c : ℕ → ℕ) (some : (t : ℕ) → t < n → 0 < per (t + 3)) where
    -- the open zones that c t blocks of each type t + 3 take
    abbrev pub lack : ℕ → ℕ
    lack t = ceil (c (t + 3) - begun (t + 3) m) (per (t + 3))

    pub choice_needs : (g : ℕ → ℕ) (taken : ℕ → ℕ → Bool) → ((z k : ℕ) → taken z k ≡ true → fit z k ≡ true) → ((t : ℕ) → t < n → size g taken (t + 3) m ≡ c (t + 3)) → sum_to n lack ≤ count open' m
    choice_needs g taken h s =
        le_trans (sum_mono n lack (λ t. gives g (t + 3) m) (λ t l.
        ceil_least (c (t + 3) - begun (t + 3) m) (per (t + 3)) (gives g (t + 3) m) (some t l)
        (let a = size_most g taken (t + 3) m h in let b = there g (t + 3) m in let d = s t l in omega arith)))
        (all_gives g n m)

    -- the open zones handed out by their place
    abbrev pub handed : ℕ → ℕ
    handed z = owner lack n (count open' z)

    pub choice_enough : sum_to n lack ≤ count open' m → (t : ℕ) → t < n → size handed (firsts handed c) (t + 3) m ≡ c (t + 3)
    unfolding sum_to
    choice_enough q t l =
        let top = sum_longer lack (suc t) n l in
        let r = run (owner lack n) (t + 3) (sum_to t lack) (lack t) (count open' m) (omega arith) (λ i a b. owns lack n t i l a b) in
        let e = by_place (owner lack n) (t + 3) m in
        let w : lack t ≤ gives handed (t + 3) m = omega arith in
        let p = mul-le-mul_left (per (t + 3)) w in
        let u = ceil_enough (c (t + 3) - begun (t + 3) m) (per (t + 3)) (some t l) in
        let a = there handed (t + 3) m in
        let f = size_firsts handed c (t + 3) m in
        omega arith
