-- The zones that a type lacks: a law for each way out of what counts them.
use mathlib.Core.Path.{◌≡◌, refl, sym, ap, ◌∙◌}
use mathlib.Core.Bool.{Bool, true, false, cond}
use Prim.Native.Nat.{ℕ, zero, suc, ◌+◌, ◌-◌, ◌*◌, ◌/◌, ◌≤◌, ◌<◌}
use native.Mathlib.Nat.{div-eq_of_lt, div-le_self}
use native.Mathlib.Omega.{arith}
use mathlib.Core.List.{List}
use lib.Dec.{eqb, leb}
use borrow.Author.Tests.{eq-eqb, ne_eqb, leb-true, leb-false}
use Rattle.field.specs.Says.{Says}
use Rattle.field.specs.Sum.{sum_to}
use Rattle.tables.proofs.BlockLaws.{data_block}
use Rattle.tables.specs.declared.zone.ZoneEntry.{ZoneEntry}
use Rattle.tables.specs.Blocks.{DataType, block_of, per_zone}
use Rattle.tables.specs.Open.{is_open, open_zones}
use Rattle.tables.specs.Room.{count_at, spare_in, spare_of, lack_of, Enough}
use Rattle.tables.specs.Views.{View, only_if}

-- a zone has a block at least
pub some_blocks : (t : ℕ) → DataType t → 0 < per_zone t
some_blocks t typed = go (per_zone t) (data_block t typed).whole
  where
    go : (n : ℕ) → n * block_of t ≡ 1024 → 0 < n
    go zero e = absurd (omega arith)
    go (suc n) e = omega arith

pub per_some : (t per : ℕ) → DataType t → per ≡ per_zone t → 0 < per
per_some t per typed e = omega (arith, some_blocks t typed)

-- ---- the free blocks of a zone

-- nothing, whether the zone is open or not
neither : (o : Bool) (n : ℕ) → n ≡ 0 → 0 ≡ cond o 0 n
neither true n h = refl
neither false n h = sym h

module _ (t : ℕ) (e : ZoneEntry) where
  -- none where the entry has none, or is of another type
  pub in_none : e.free ≡ 0 → 0 ≡ spare_in t e
  unfolding spare_in only_if
  in_none h = neither (is_open e) (only_if (eqb e.ztype t) e.free) (all (eqb e.ztype t))
    where
      all : (same : Bool) → only_if same e.free ≡ 0
      all true = h
      all false = refl

  pub in_other : (e.ztype ≡ t → ⊥) → 0 ≡ spare_in t e
  unfolding spare_in only_if
  in_other n = neither (is_open e) (only_if (eqb e.ztype t) e.free) (rw (ne_eqb e.ztype t n))

-- those of a zone whose test for being open is r
module _ (t : ℕ) (e : ZoneEntry) (r : Bool) (is : r ≡ is_open e) where
  pub in_open : r ≡ true → 0 ≡ spare_in t e
  unfolding spare_in
  in_open h = rw (← is, h)

  pub in_begun : r ≡ false → e.ztype ≡ t → e.free ≡ spare_in t e
  unfolding spare_in only_if
  in_begun h q = rw (← is, h, eq-eqb e.ztype t q)

-- ---- the zones that n blocks of type t take beyond f free ones

module _ (v : View) (t n f : ℕ) (typed : DataType t) (is : f ≡ spare_of v t) where
  pub lack_none : n ≤ f → 0 ≡ lack_of v t n
  unfolding lack_of
  lack_none h =
      let q : n - spare_of v t + (per_zone t - 1) ≡ per_zone t - 1 = omega arith in
      sym (ap (λ (a : ℕ). a / per_zone t) q ∙ div-eq_of_lt (let s = some_blocks t typed in omega arith))

  pub lack_some : (per : ℕ) → per ≡ per_zone t → (n - f + (per - 1)) / per ≡ lack_of v t n
  unfolding lack_of
  lack_some per h = rw (h, is)

pub lack_most : (t n f per : ℕ) → n ≤ 4294967295 → per ≡ per_zone t → (n - f + (per - 1)) / per ≤ 4294968319
lack_most t n f per h l = omega (arith, div-le_self (n - f + (per - 1)) per, div-le_self 1024 (block_of t))

-- ---- the six types, one after the other

module _ (v : View) (counts : List ℕ) (n i : ℕ) (is : n ≡ sum_to i (λ i. lack_of v (i + 3) (count_at counts (i + 3)))) where
  pub lacks_say : (o : ℕ) → i ≡ 6 → o ≡ open_zones v → Says (leb n o) (Enough v (count_at counts))
  lacks_say o six e = go (leb n o) refl
    where
      all : n ≡ sum_to 6 (λ i. lack_of v (i + 3) (count_at counts (i + 3)))
      all = is ∙ ap (λ (m : ℕ). sum_to m (λ i. lack_of v (i + 3) (count_at counts (i + 3)))) six

      go : (t : Bool) → leb n o ≡ t → Says t (Enough v (count_at counts))
      go true h = let l = leb-true n o h in omega (arith, all)
      go false h = λ p. absurd (omega (arith, leb-false n o h, all, p))
