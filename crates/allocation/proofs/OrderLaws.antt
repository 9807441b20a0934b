-- Lists of types: what is counted in them, and steps for each of them in turn.
use mathlib.Core.Path.{◌≡◌, refl, sym, ap, ◌∙◌}
use mathlib.Core.Logic.{◌≢◌}
use mathlib.Core.List.{List, [], ◌∷◌, ◌++◌}
use Prim.Native.Nat.{ℕ, zero, suc, ◌+◌, ◌-◌, ◌≤◌, ◌<◌}
use native.Mathlib.Nat.{le_trans}
use native.Mathlib.Decide.{ℕ_discrete}
use native.Mathlib.Omega.{arith}
use lib.ListN.{length, get_or, replicate}
use borrow.Author.Tests.{eq-eqb, ne_eqb}
use Rattle.field.proofs.Sums.{sum_same}
use Rattle.tables.specs.Blocks.{DataType, per_zone}
use Rattle.tables.specs.Room.{count_at, spare_of, lack_of, Enough}
use Rattle.tables.specs.Rules.R1.{ceil}
use Rattle.tables.specs.Views.{View, only_if}
use Rattle.tables.proofs.ChoiceLaws.{ceil_least, ceil_enough, sum_mono}
use Rattle.tables.proofs.LackLaws.{some_blocks}
use Rattle.allocation.specs.Choice.{in_order}
use Rattle.allocation.specs.Stock.{how_many, AllTyped, Stocked}

-- ---- one list after the other

pub how_many_append : (xs ys : List ℕ) (t : ℕ) → how_many (xs ++ ys) t ≡ how_many xs t + how_many ys t
unfolding how_many
how_many_append [] ys t = omega arith
how_many_append (u ∷ xs) ys t = omega (arith, how_many_append xs ys t)

pub append_typed : (xs ys : List ℕ) → AllTyped xs → AllTyped ys → AllTyped (xs ++ ys)
unfolding AllTyped
append_typed [] ys a b = b
append_typed (t ∷ xs) ys a b = (a.0, append_typed xs ys a.1 b)

pub typed_prefix : (xs ys : List ℕ) → AllTyped (xs ++ ys) → AllTyped xs
unfolding AllTyped
typed_prefix [] ys a = tt
typed_prefix (t ∷ xs) ys a = (a.0, typed_prefix xs ys a.1)

-- less is lacked for less
lack_mono : (v : View) (t m n : ℕ) → DataType t → m ≤ n → lack_of v t m ≤ lack_of v t n
unfolding lack_of
lack_mono v t m n typed h =
    let some = some_blocks t typed in
    ceil_least (m - spare_of v t) (per_zone t) (ceil (n - spare_of v t) (per_zone t)) some (omega (arith, ceil_enough (n - spare_of v t) (per_zone t) some))

pub stocked_prefix : (v : View) (xs ys : List ℕ) → Stocked v (xs ++ ys) → Stocked v xs
stocked_prefix v xs ys s = record {
  r2 = s.r2;
  r3 = s.r3;
  typed = typed_prefix xs ys s.typed;
  enough = le_trans (sum_mono 6 _ _ (λ i l. lack_mono v (i + 3) _ _ (record { low = omega arith; high = omega arith })
      (let e = how_many_append xs ys (i + 3) in omega arith))) s.enough;
}

-- ---- the types of blocks that are counted H to C

pub many_typed : (n t : ℕ) → DataType t → AllTyped (replicate n t)
unfolding AllTyped
many_typed zero t typed = tt
many_typed (suc n) t typed = (typed, many_typed n t typed)

pub many_own : (n t : ℕ) → how_many (replicate n t) t ≡ n
unfolding how_many only_if
many_own zero t = refl
many_own (suc n) t = rw (eq-eqb t t refl) (omega (arith, many_own n t))

pub many_other : (n u t : ℕ) → u ≢ t → how_many (replicate n u) t ≡ 0
unfolding how_many only_if
many_other zero u t ne = refl
many_other (suc n) u t ne = rw (ne_eqb u t ne) (omega (arith, many_other n u t ne))

-- of types beyond the first count's there is none
order_beyond : (ns : List ℕ) (t : ℕ) → length ns + 2 < t → how_many (in_order ns) t ≡ 0
unfolding in_order how_many
order_beyond [] t l = refl
order_beyond (n ∷ ns) t l =
    omega (arith, how_many_append (replicate n (length ns + 3)) (in_order ns) t, many_other n (length ns + 3) t (λ e. omega arith), order_beyond ns t (omega arith))

order_at : (ns : List ℕ) (t : ℕ) → 3 ≤ t → t ≤ length ns + 2 → how_many (in_order ns) t ≡ get_or ns (length ns + 2 - t) 0
unfolding in_order
order_at [] t lo hi = absurd (omega arith)
order_at (n ∷ ns) t lo hi =
    how_many_append (replicate n (length ns + 3)) (in_order ns) t ∙
    elim (ℕ_discrete (length ns + 3) t) [
      | yes e ↦ (let i : suc (length ns) + 2 - t ≡ 0 = omega arith in
          let own = ap (how_many (replicate n (length ns + 3))) (sym e) ∙ many_own n (length ns + 3) in
          rw i (omega (arith, own, order_beyond ns t (omega arith))))
      | no ne ↦ (let i : suc (length ns) + 2 - t ≡ suc (length ns + 2 - t) = omega arith in
          rw i (omega (arith, many_other n (length ns + 3) t ne, order_at ns t lo (omega arith))))
    ]

pub how_many_order : (ns : List ℕ) → length ns ≡ 6 → (t : ℕ) → DataType t → how_many (in_order ns) t ≡ count_at ns t
how_many_order ns six t typed = let e : length ns + 2 - t ≡ 8 - t = omega arith in order_at ns t typed.low (omega arith) ∙ ap (λ (i : ℕ). get_or ns i 0) e

typed_order : (ns : List ℕ) → length ns ≤ 6 → AllTyped (in_order ns)
unfolding in_order AllTyped
typed_order [] h = tt
typed_order (n ∷ ns) h = append_typed (replicate n (length ns + 3)) (in_order ns) (many_typed n _ (record { low = omega arith; high = omega arith })) (typed_order ns (omega arith))

pub order_typed : (ns : List ℕ) → length ns ≡ 6 → AllTyped (in_order ns)
order_typed ns six = typed_order ns (omega arith)

pub order_enough : (v : View) (ns : List ℕ) → length ns ≡ 6 → Enough v (count_at ns) → Enough v (how_many (in_order ns))
order_enough v ns six h =
    let e = sum_same 6 (λ i. lack_of v (i + 3) (how_many (in_order ns) (i + 3))) (λ i. lack_of v (i + 3) (count_at ns (i + 3)))
    (λ i l. ap (lack_of v (i + 3)) (how_many_order ns six (i + 3) (record { low = omega arith; high = omega arith }))) in
    omega arith
