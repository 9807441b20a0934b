-- Counts per zone type: one step of them, the loop over the six types, and what the counts are good for: they supply the file's bytes, with
-- less than one block of the last chosen type to spare, and take no block of a type that is not chosen.
use Rattle.std.specs.Prelude.{Option, Some, None}
use mathlib.Core.Path.{◌≡◌, refl, sym, ◌∙◌, ap}
use mathlib.Core.Bool.{Bool, true, false, cond}
use mathlib.Core.List.{List, [], ◌++◌, append-nil}
use Prim.Native.Nat.{ℕ, zero, suc, ◌+◌, ◌-◌, ◌*◌, ◌/◌, ◌%◌, ◌^◌, ◌≤◌, ◌<◌}
use native.Mathlib.Nat.{le_refl, mod-le, mod-lt, div-add-mod', div-le_self, zero-mul, one-mul, add-mul, mul-le-mul_left, mul-one, div-lt_iff_lt-mul}
use native.Mathlib.Numerals.{add-one}
use native.Mathlib.Decide.{ℕ_discrete}
use native.Mathlib.Omega.{arith}
use lib.Dec.{T, eqb, leb}
use lib.Pow.{pow_pos, mod-pow-add}
use lib.ListN.{length, get_or, take, set}
use lib.Seq.{take-suc-set, append_snoc, take_all}
use lib.IntN.{ℤ, pos, negsuc, nat_abs}
use lib.Signed.{lt_z, non_neg}
use mir.Val.{to_z, of_z, SFits, Fits}
use mir.ValLaws.{to_z-of_z}
use mir.Syntax.{w32}
use borrow.Author.Tests.{eq-eqb, ne_eqb, le-leb, lt-leb, ltb-true, eqb-true, eqb-false}
use Rattle.tables.specs.Blocks.{DataType, block_of, Block}
use Rattle.tables.specs.Rules.R1.{ceil}
use Rattle.tables.specs.Counts.{types_of, chosen_types, weight_of, block_bytes, is_chosen, none_below, share_count, share_rest, counts_down, counts_of, supplied_by, Countable, Shared}
use Rattle.tables.proofs.BlockLaws.{data_zone, block_some, block_few}
use Rattle.field.proofs.Tests.{no_true}

-- ---- a branch by a test, on each way on from it

module _ {A : Type 0} (m n : ℕ) (x y : A) {r : A} where
  pub eq_yes : m ≡ n → r ≡ x → r ≡ cond (eqb m n) x y
  eq_yes h e = e ∙ ap (λ (t : Bool). cond t x y) (sym (eq-eqb m n h))

  pub eq_no : (m ≡ n → ⊥) → r ≡ y → r ≡ cond (eqb m n) x y
  eq_no h e = e ∙ ap (λ (t : Bool). cond t x y) (sym (ne_eqb m n h))

  pub le_yes : m ≤ n → r ≡ x → r ≡ cond (leb m n) x y
  le_yes h e = e ∙ ap (λ (t : Bool). cond t x y) (sym (le-leb m n h))

  pub le_no : n < m → r ≡ y → r ≡ cond (leb m n) x y
  le_no h e = e ∙ ap (λ (t : Bool). cond t x y) (sym (lt-leb m n h))

pub ruleset conds = (eq_yes, eq_no, le_yes, le_no)

-- ---- the bytes of a block, by its sectors

pub bytes_high : (t s : ℕ) → DataType t → s ≡ block_of t → 1024 * s ≤ 1048576
bytes_high t s typed e = omega (arith, block_few t (data_zone typed))

pub bytes_at_lem : (t s : ℕ) → DataType t → (s ≡ block_of t) × Block s → (1024 * s ≡ block_bytes t) × (0 < 1024 * s) × (1024 * s ≤ 1048576)
unfolding block_bytes
bytes_at_lem t s typed h = (ap (λ (n : ℕ). 1024 * n) h.0, omega (arith, h.1.some), bytes_high t s typed h.0)

-- ---- one step

module _ (flag t rest w : ℕ) (ew : w ≡ weight_of t) where
  pub shared_none : (flag / w % 2 ≡ 1 → ⊥) → Shared flag t rest 0 rest
  unfolding share_count share_rest is_chosen
  shared_none h =
      let f : eqb (flag / weight_of t % 2) 1 ≡ false = ne_eqb _ _ (rw ew at h) in
      record { counted = rw f; passed = rw f }

  module _ (b : ℕ) (eb : b ≡ block_bytes t) (h : flag / w % 2 ≡ 1) where
    chosen : eqb (flag / weight_of t % 2) 1 ≡ true
    chosen = eq-eqb _ _ (rw ew at h)

    pub shared_part : (flag % w ≡ 0 → ⊥) → Shared flag t rest (rest / b) (rest % b)
    unfolding share_count share_rest is_chosen none_below
    shared_part n =
        let f : eqb (flag % weight_of t) 0 ≡ false = ne_eqb _ _ (rw ew at n) in
        record { counted = rw (chosen, f, eb); passed = rw (chosen, eb) }

    pub shared_last : flag % w ≡ 0 → Shared flag t rest ((rest + (b - 1)) / b) (rest % b)
    unfolding share_count share_rest is_chosen none_below
    shared_last n =
        let f : eqb (flag % weight_of t) 0 ≡ true = eq-eqb _ _ (rw ew at n) in
        record { counted = rw (chosen, f, eb); passed = rw (chosen, eb) }

-- what holds on each of the three ways holds of a step's count and of what it passes on
step : (flag t rest : ℕ) (P : ℕ → ℕ → Type 0) → (is_chosen flag t ≡ false → P 0 rest)
    → (is_chosen flag t ≡ true → none_below flag t ≡ true → P (ceil rest (block_bytes t)) (rest % block_bytes t))
    → (is_chosen flag t ≡ true → none_below flag t ≡ false → P (rest / block_bytes t) (rest % block_bytes t))
    → P (share_count flag t rest) (share_rest flag t rest)
unfolding share_count share_rest
step flag t rest P none last part = go (is_chosen flag t) (none_below flag t) none last part
  where
    go : (x y : Bool) → (x ≡ false → P 0 rest) → (x ≡ true → y ≡ true → P (ceil rest (block_bytes t)) (rest % block_bytes t))
        → (x ≡ true → y ≡ false → P (rest / block_bytes t) (rest % block_bytes t))
        → P (cond x (cond y (ceil rest (block_bytes t)) (rest / block_bytes t)) 0) (cond x (rest % block_bytes t) rest)
    go true true n l p = l refl refl
    go true false n l p = p refl refl
    go false y n l p = n refl

-- ---- the flag byte, as the code meets it

module _ (z : ℤ) (fits : SFits w32 z) where
  pub flag_default : of_z w32 z ≡ 4294967295 → Some 252 ≡ chosen_types z
  unfolding chosen_types
  flag_default = go z fits
    where
      go : (z : ℤ) → SFits w32 z → of_z w32 z ≡ 4294967295 → Some 252 ≡ chosen_types z
      go (pos n) f e = absurd (omega (arith, f.sfits))
      go (negsuc n) f e = eq_yes n 0 (Some 252) None (omega (arith, f.sfits)) refl

  pub flag_below : (of_z w32 z ≡ 4294967295 → ⊥) → lt_z (to_z w32 (of_z w32 z)) (pos 0) ≡ true → None ≡ chosen_types z
  unfolding chosen_types
  flag_below ne h = go z ne (rw (to_z-of_z w32 z fits) at h)
    where
      go : (z : ℤ) → (of_z w32 z ≡ 4294967295 → ⊥) → lt_z z (pos 0) ≡ true → None ≡ chosen_types z
      go (pos n) ne h = absurd (omega (arith, ltb-true n 0 h))
      go (negsuc n) ne h = eq_no n 0 (Some 252) None (λ e. ne (omega arith)) refl

  pub flag_cast : lt_z (to_z w32 (of_z w32 z)) (pos 0) ≡ false → T (non_neg (to_z w32 (of_z w32 z))) × Fits w32 (nat_abs (to_z w32 (of_z w32 z)))
  flag_cast h = let e = to_z-of_z w32 z fits in rw e (go z fits (rw e at h))
    where
      go : (z : ℤ) → SFits w32 z → lt_z z (pos 0) ≡ false → T (non_neg z) × Fits w32 (nat_abs z)
      go (pos n) f h = (tt, record { fits = omega (arith, f.sfits) })
      go (negsuc n) f h = no_true h

  pub flag_sum : (r : Option ℕ) → lt_z (to_z w32 (of_z w32 z)) (pos 0) ≡ false → r ≡ types_of (nat_abs (to_z w32 (of_z w32 z))) → r ≡ chosen_types z
  unfolding chosen_types
  flag_sum r h q = let e = to_z-of_z w32 z fits in (rw e at q) ∙ go z (rw e at h)
    where
      go : (z : ℤ) → lt_z z (pos 0) ≡ false → types_of (nat_abs z) ≡ chosen_types z
      go (pos n) h = refl
      go (negsuc n) h = no_true h

-- ---- the loop over the six types: i counts are found, `rest` bytes are left to the others

pub counts_more : (flag rest r v i : ℕ) (c t : List ℕ) → i < 6 → length c ≡ 6 → take i c ++ counts_down flag rest (6 - i) ≡ t
    → Shared flag (8 - i) rest v r → take (i + 1) (set c i v) ++ counts_down flag r (6 - (i + 1)) ≡ t
unfolding counts_down
counts_more flag rest r v i c t h l e s =
    let n : 6 - i ≡ suc (6 - (i + 1)) = omega arith in
    let m : 8 - i ≡ 6 - (i + 1) + 3 = omega arith in
    ap (λ (k : ℕ). take k (set c i v) ++ counts_down flag r (6 - (i + 1))) (add-one i)
    ∙ ap (λ (k : List ℕ). k ++ counts_down flag r (6 - (i + 1))) (take-suc-set c i v (omega arith))
    ∙ append_snoc (take i c) v (counts_down flag r (6 - (i + 1)))
    ∙ rw (s.counted, s.passed, m) (sym (ap (λ (k : ℕ). take i c ++ counts_down flag rest k) n))
    ∙ e

pub counts_end : (flag rest i : ℕ) (c t : List ℕ) → length c ≡ 6 → i ≡ 6 → take i c ++ counts_down flag rest (6 - i) ≡ t → c ≡ t
unfolding counts_down
counts_end flag rest i c t l z e =
    sym (append-nil c) ∙ ap (λ (k : List ℕ). k ++ []) (sym (take_all 6 c (omega arith))) ∙ (rw z at e)

-- ---- a step's numbers

bytes_some : (t : ℕ) → 0 < block_bytes t
unfolding block_bytes
bytes_some t = omega (arith, block_some t)

module _ (n b : ℕ) (some : 0 < b) where
  -- rounding up gives enough, with less than a block to spare
  rounded : (n ≤ ceil n b * b) × (ceil n b * b < n + b)
  rounded = let e = div-add-mod' (n + (b - 1)) b in let l = mod-lt (n + (b - 1)) some in (omega arith, omega arith)

  rounded_le : ceil n b ≤ n
  rounded_le =
      let l : (n + (b - 1)) / b < n + 1 = (div-lt_iff_lt-mul some).1 (omega (arith, mul-le-mul_left {m = 1} {n = b} n some, mul-one n, add-mul n 1 b, one-mul b)) in
      omega arith

pub rest_le : (flag t rest : ℕ) → share_rest flag t rest ≤ rest
rest_le flag t rest = step flag t rest (λ c r. r ≤ rest) (λ x. le_refl rest) (λ x y. mod-le rest _) (λ x y. mod-le rest _)

count_le : (flag t rest : ℕ) → share_count flag t rest ≤ rest
count_le flag t rest = step flag t rest (λ c r. c ≤ rest) (λ x. omega arith) (λ x y. rounded_le rest _ (bytes_some t)) (λ x y. div-le_self rest _)

count_none : (flag t rest : ℕ) → is_chosen flag t ≡ false → share_count flag t rest ≡ 0
unfolding share_count
count_none flag t rest h = rw h

-- ---- which types are chosen, from the largest down

weight_some : (t : ℕ) → 0 < weight_of t
unfolding weight_of
weight_some t = pow_pos (t - 1)

-- the sum of the weights below type k + 4: that of type k + 3 if it is chosen, and those below it
split : (flag k : ℕ) → flag % weight_of (suc k + 3) ≡ flag / weight_of (k + 3) % 2 * weight_of (k + 3) + flag % weight_of (k + 3)
unfolding weight_of
split flag k =
    let a : suc k + 3 - 1 ≡ 1 + (k + 3 - 1) = omega arith in
    ap (λ (n : ℕ). flag % 2 ^ n) a ∙ mod-pow-add flag 1 (k + 3 - 1)

not_chosen : (flag t : ℕ) → is_chosen flag t ≡ false → flag / weight_of t % 2 ≡ 0
unfolding is_chosen
not_chosen flag t h = let n = eqb-false _ _ h in elim (ℕ_discrete (flag / weight_of t % 2) 1) [
  | yes e ↦ absurd (n e)
  | no e ↦ omega arith
]

none_is : (flag t : ℕ) → none_below flag t ≡ true → flag % weight_of t ≡ 0
unfolding none_below
none_is flag t h = eqb-true _ _ h

some_is : (flag t : ℕ) → none_below flag t ≡ false → flag % weight_of t ≡ 0 → ⊥
unfolding none_below
some_is flag t h = eqb-false _ _ h

-- some weight below type k + 4, and type k + 3 not chosen: some weight below that
some_down : (flag k : ℕ) → (flag % weight_of (suc k + 3) ≡ 0 → ⊥) → is_chosen flag (k + 3) ≡ false → flag % weight_of (k + 3) ≡ 0 → ⊥
some_down flag k h n z =
    h (split flag k ∙ ap (λ (x : ℕ). x * weight_of (k + 3) + flag % weight_of (k + 3)) (not_chosen flag (k + 3) n) ∙ omega (arith, zero-mul (weight_of (k + 3))))

-- no weight below type k + 4: type k + 3 is not chosen, and no weight is below it
none_down : (flag k : ℕ) → flag % weight_of (suc k + 3) ≡ 0 → (is_chosen flag (k + 3) ≡ false) × (flag % weight_of (k + 3) ≡ 0)
unfolding is_chosen
none_down flag k h =
    let e = split flag k in
    let p = weight_some (k + 3) in
    (ne_eqb (flag / weight_of (k + 3) % 2) 1 (λ o. omega (arith, ap (λ (x : ℕ). x * weight_of (k + 3)) o, one-mul (weight_of (k + 3)))), omega arith)

none_chosen : (flag k : ℕ) → flag % weight_of (k + 3) ≡ 0 → (t : ℕ) → 3 ≤ t → t < k + 3 → is_chosen flag t ≡ false
none_chosen flag zero h t lo hi = absurd (omega arith)
none_chosen flag (suc k) h t lo hi = let d = none_down flag k h in elim (ℕ_discrete t (k + 3)) [
  | yes e ↦ rw e d.0
  | no n ↦ none_chosen flag k d.1 t lo (omega arith)
]

-- ---- what the counts are good for

length_down : (flag rest k : ℕ) → length (counts_down flag rest k) ≡ k
unfolding counts_down
length_down flag rest zero = refl
length_down flag rest (suc k) = ap suc (length_down flag (share_rest flag (k + 3) rest) k)

supplied_more : (flag rest k : ℕ) → supplied_by (counts_down flag rest (suc k)) ≡ share_count flag (k + 3) rest * block_bytes (k + 3) + supplied_by (counts_down flag (share_rest flag (k + 3) rest) k)
unfolding counts_down supplied_by
supplied_more flag rest k = rw (length_down flag (share_rest flag (k + 3) rest) k)

enough : (flag : ℕ) → flag % weight_of 3 ≡ 0 → (k rest : ℕ) → (flag % weight_of (k + 3) ≡ 0 → ⊥) → rest ≤ supplied_by (counts_down flag rest k)
enough flag f zero rest h = absurd (h f)
enough flag f (suc k) rest h =
    rw (supplied_more flag rest k)
    (step flag (k + 3) rest (λ c r. rest ≤ c * block_bytes (k + 3) + supplied_by (counts_down flag r k))
    (λ n. omega (arith, enough flag f k rest (some_down flag k h n), zero-mul (block_bytes (k + 3))))
    (λ x l. omega (arith, (rounded rest (block_bytes (k + 3)) (bytes_some (k + 3))).0))
    (λ x l. omega (arith, div-add-mod' rest (block_bytes (k + 3)), enough flag f k (rest % block_bytes (k + 3)) (some_is flag (k + 3) l))))

-- types that are not chosen supply nothing
supplied_none : (flag k rest : ℕ) → ((t : ℕ) → 3 ≤ t → t < k + 3 → is_chosen flag t ≡ false) → supplied_by (counts_down flag rest k) ≡ 0
unfolding counts_down supplied_by
supplied_none flag zero rest h = refl
supplied_none flag (suc k) rest h =
    supplied_more flag rest k
    ∙ ap (λ (x : ℕ). x * block_bytes (k + 3) + supplied_by (counts_down flag (share_rest flag (k + 3) rest) k)) (count_none flag (k + 3) rest (h (k + 3) (omega arith) (omega arith)))
    ∙ omega (arith, zero-mul (block_bytes (k + 3)), supplied_none flag k (share_rest flag (k + 3) rest) (λ t lo hi. h t lo (omega arith)))

-- "the last chosen type"
pub record Last (flag t : ℕ) : Type 0 where
  pub low : 3 ≤ t
  pub high : t ≤ 8
  pub chosen : is_chosen flag t ≡ true
  pub least : (u : ℕ) → 3 ≤ u → u < t → is_chosen flag u ≡ false

last_down : (flag : ℕ) → flag % weight_of 3 ≡ 0 → (k : ℕ) → k ≤ 6 → (flag % weight_of (k + 3) ≡ 0 → ⊥) → (t : ℕ) × Last flag t
unfolding is_chosen
last_down flag f zero l h = absurd (h f)
last_down flag f (suc k) l h = elim (ℕ_discrete (flag % weight_of (k + 3)) 0) [
  | yes z ↦ elim (ℕ_discrete (flag / weight_of (k + 3) % 2) 1) [
    | yes o ↦ (k + 3, record { low = omega arith; high = omega arith; chosen = eq-eqb _ _ o; least = none_chosen flag k z })
    | no n ↦ absurd (some_down flag k h (ne_eqb _ _ n) z)
  ]
  | no n ↦ last_down flag f k (omega arith) n
]

-- less than a block of the last chosen type to spare: at that type, and at a larger one if it is so for what that passes on
module _ (flag t : ℕ) (last : Last flag t) (k rest : ℕ) where
  fewest_at : t ≡ k + 3 → supplied_by (counts_down flag rest (suc k)) < rest + block_bytes t
  fewest_at e =
      rw (supplied_more flag rest k, supplied_none flag k (share_rest flag (k + 3) rest) (λ u lo hi. last.least u lo (omega arith)), e)
      (step flag (k + 3) rest (λ c r. c * block_bytes (k + 3) + 0 < rest + block_bytes (k + 3))
      (λ n. omega (arith, zero-mul (block_bytes (k + 3)), bytes_some (k + 3)))
      (λ x l. omega (arith, (rounded rest (block_bytes (k + 3)) (bytes_some (k + 3))).1))
      (λ x l. omega (arith, div-add-mod' rest (block_bytes (k + 3)), bytes_some (k + 3))))

  fewest_above : t < k + 3 → ((r : ℕ) → supplied_by (counts_down flag r k) < r + block_bytes t) → supplied_by (counts_down flag rest (suc k)) < rest + block_bytes t
  fewest_above l ih =
      rw (supplied_more flag rest k)
      (step flag (k + 3) rest (λ c r. c * block_bytes (k + 3) + supplied_by (counts_down flag r k) < rest + block_bytes t)
      (λ n. omega (arith, zero-mul (block_bytes (k + 3)), ih rest))
      (λ x z. no_true (sym last.chosen ∙ none_chosen flag k (none_is flag (k + 3) z) t last.low l))
      (λ x z. omega (arith, div-add-mod' rest (block_bytes (k + 3)), ih (rest % block_bytes (k + 3)))))

fewest : (flag t : ℕ) → Last flag t → (k rest : ℕ) → t < k + 3 → supplied_by (counts_down flag rest k) < rest + block_bytes t
fewest flag t last zero rest h = absurd (omega (arith, last.low))
fewest flag t last (suc k) rest h = elim (ℕ_discrete t (k + 3)) [
  | yes e ↦ fewest_at flag t last k rest e
  | no n ↦ (let l : t < k + 3 = omega arith in fewest_above flag t last k rest l (λ r. fewest flag t last k r l))
]

none_at : (flag k rest t : ℕ) → 3 ≤ t → t < k + 3 → is_chosen flag t ≡ false → get_or (counts_down flag rest k) (k + 2 - t) 0 ≡ 0
unfolding counts_down
none_at flag zero rest t lo hi h = absurd (omega arith)
none_at flag (suc k) rest t lo hi h = elim (ℕ_discrete t (k + 3)) [
  | yes e ↦ (let z : suc k + 2 - t ≡ 0 = omega arith in rw z (count_none flag (k + 3) rest (rw e at h)))
  | no n ↦ (let z : suc k + 2 - t ≡ suc (k + 2 - t) = omega arith in rw z (none_at flag k (share_rest flag (k + 3) rest) t lo (omega arith) h))
]

-- ---- of the six counts, H first

module _ (flag size : ℕ) where
  pub counts_six : length (counts_of flag size) ≡ 6
  unfolding counts_of
  counts_six = length_down flag size 6

  -- they supply the file's bytes
  pub counts_enough : Countable flag size → size ≤ supplied_by (counts_of flag size)
  unfolding counts_of weight_of
  counts_enough c = enough flag c.weights 6 size (λ z. omega (arith, c.some, c.six))

  -- there is a last chosen type
  pub counts_last : Countable flag size → (t : ℕ) × Last flag t
  unfolding weight_of
  counts_last c = last_down flag c.weights 6 (omega arith) (λ z. omega (arith, c.some, c.six))

  -- with less than one block of the last chosen type to spare
  pub counts_fewest : (t : ℕ) → Last flag t → supplied_by (counts_of flag size) < size + block_bytes t
  unfolding counts_of
  counts_fewest t last = fewest flag t last 6 size (omega (arith, last.high))

  -- none is of a type that is not chosen
  pub counts_none : (t : ℕ) → DataType t → is_chosen flag t ≡ false → get_or (counts_of flag size) (8 - t) 0 ≡ 0
  unfolding counts_of
  counts_none t typed h = none_at flag 6 size t typed.low (omega (arith, typed.high)) h
