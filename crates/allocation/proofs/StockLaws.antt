-- A block taken keeps R2 and R3, and one that fits leaves room for the others.
use mathlib.Core.Path.{◌≡◌, refl, sym, ap, ap₂, ◌∙◌}
use mathlib.Core.Logic.{◌≢◌, ⊎_elim}
use mathlib.Core.Bool.{false}
use mathlib.Core.List.{List, ◌∷◌}
use Prim.Native.Nat.{ℕ, zero, suc, ◌+◌, ◌-◌, ◌*◌, ◌/◌, ◌≤◌, ◌<◌}
use native.Mathlib.Nat.{add-zero, mul-zero, mul-suc}
use native.Mathlib.Decide.{ℕ_discrete, dec_lt}
use native.Mathlib.Omega.{arith}
use borrow.Author.Tests.{ne_eqb}
use Rattle.field.specs.Sum.{sum_to}
use Rattle.field.proofs.Sums.{sum_at}
use Rattle.tables.specs.declared.zone.ZoneEntry.{ZoneEntry}
use Rattle.tables.specs.Kinds.{first_of}
use Rattle.tables.specs.Blocks.{DataType, Block, block_of, per_zone}
use Rattle.tables.specs.Open.{is_open, open_zones}
use Rattle.tables.specs.Room.{spare_in, spare_of, lack_of, Enough}
use Rattle.tables.specs.Rules.R1.{ceil}
use Rattle.tables.specs.Rules.R2.{R2}
use Rattle.tables.specs.Rules.R3.{R3, Blocks}
use Rattle.tables.specs.Views.{View, cov, only_if}
use Rattle.tables.proofs.BlockLaws.{data_zone, data_block, block_in, block_end}
use Rattle.tables.proofs.ChoiceLaws.{ceil_least, ceil_enough}
use Rattle.tables.proofs.LackLaws.{some_blocks, in_open, in_other, in_begun}
use Rattle.tables.proofs.OpenLaws.{open_typed}
use Rattle.tables.proofs.PointerLaws.{cov_in, cov_before, cov_after}
use Rattle.allocation.specs.declared.choice.Found.{Found}
use Rattle.allocation.specs.Choice.{block_start}
use Rattle.allocation.specs.Stock.{how_many, AllTyped, Stocked}
use Rattle.allocation.specs.Candidates.{Proper}
use Rattle.allocation.specs.Steps.{Choosable, Taken}
use Rattle.allocation.proofs.OneZoneLaws.{cov_away, one_R2, one_R3}
use Rattle.allocation.proofs.NextLaws.{OfBegun, OfOpen, Fit, fit_choosable, how_many_own, how_many_other, none_spare}

-- ---- a zone's blocks, where block k of them is taken

module _ (bit bit' : ℕ → ℕ) (from size free k : ℕ) (block : Block size) (l : k < 1024 / size) (first : bit (from + k * size) ≡ 0)
    (bits : (s : ℕ) → s < from + 1024 → bit' s ≡ bit s + cov (from + k * size) size s) where
  -- the block is covered, and no other
  own : (j : ℕ) → j < size → cov (from + k * size) size (from + k * size + j) ≡ 1
  own j lj = cov_in (from + k * size) size (from + k * size + j) (omega arith) (omega arith)

  others : (n : ℕ) → n ≢ k → (j : ℕ) → j < size → cov (from + k * size) size (from + n * size + j) ≡ 0
  others n ne j lj =
      elim (dec_lt n k) [
        | yes h ↦ cov_before (from + k * size) size (from + n * size + j) (omega (arith, block_end n k size h))
        | no h ↦ cov_after (from + k * size) size (from + n * size + j) (omega (arith, block_end k n size (omega arith)))
      ]

  one : cov (from + k * size) size (from + k * size) ≡ 1
  one = cov_in (from + k * size) size (from + k * size) (omega arith) (omega (arith, block.some))

  none : (n : ℕ) → n ≢ k → cov (from + k * size) size (from + n * size) ≡ 0
  none n ne = rw add-zero at (others n ne 0 block.some)

  flat : (n j : ℕ) → j < size → cov (from + k * size) size (from + n * size + j) ≡ cov (from + k * size) size (from + n * size)
  flat n j lj = elim (ℕ_discrete n k) [ yes e ↦ rw e (own j lj ∙ sym one) | no ne ↦ others n ne j lj ∙ sym (none n ne) ]

  at : (n : ℕ) → n < 1024 / size → (j : ℕ) → j < size → bit' (from + n * size + j) ≡ bit (from + n * size + j) + cov (from + k * size) size (from + n * size + j)
  at n ln j lj = bits (from + n * size + j) (omega (arith, block_in n size block ln))

  start : (n : ℕ) → n < 1024 / size → bit' (from + n * size) ≡ bit (from + n * size) + cov (from + k * size) size (from + n * size)
  start n ln = bits (from + n * size) (omega (arith, block_in n size block ln, block.some))

  pub block_taken : Blocks bit from size (suc free) → Blocks bit' from size free
  block_taken b = record {
    whole = λ n ln j lj. at n ln j lj ∙ ap₂ (λ (x y : ℕ). x + y) (b.whole n ln j lj) (flat n j lj) ∙ sym (start n ln);
    number =
        let s = sum_at (1024 / size) k (λ n. 1 - bit' (from + n * size)) (λ n. 1 - bit (from + n * size)) l
        (λ n ln ne. ap (λ (x : ℕ). 1 - x) (let e = start n ln in let z = none n ne in let r : bit' (from + n * size) ≡ bit (from + n * size) = omega arith in r)) in
        omega (arith, start k l, one, b.number);
  }

module _ (v v' : View) (t : ℕ) (k : Found) (c : Choosable v t k) (taken : Taken v v' t k) where
  -- another zone's bits stay
  bits_there : (z : ℕ) → 1 ≤ z → z ≤ v.zones → z ≢ k.zone.0 → (n : ℕ) → n < 1024 → v'.bit (first_of z + n) ≡ v.bit (first_of z + n)
  unfolding block_start
  bits_there z lo hi ne n l =
      let p = c.proper in
      let away = cov_away k.zone.0 (k.number * block_of t) (block_of t) z n p.low (block_in k.number (block_of t) (data_block t p.typed) p.within) lo ne l in
      omega (arith, taken.bit (first_of z + n) (omega arith))

  pub taken_R2 : R2 v → R2 v'
  taken_R2 =
      let p = c.proper in
      one_R2 v v' k.zone.0 p.low p.high taken.zones taken.there bits_there (record { typed = rw taken.here (data_zone p.typed); third = rw taken.here refl })

  pub taken_R3 : R3 v → R3 v'
  unfolding block_start
  taken_R3 =
      let p = c.proper in
      let own = data_block t p.typed in
      one_R3 v v' k.zone.0 p.low p.high taken.zones taken.there bits_there
      (rw taken.here (block_taken v.bit v'.bit (first_of k.zone.0) (block_of t) k.free k.number own p.within
      (rw add-zero at (c.clear 0 own.some)) (λ s ls. taken.bit s (omega (arith, p.high, p.low))) c.was))

-- ---- room

-- one zone more is needed for one more than what a zone has left
ceil_fall : (n b : ℕ) → 0 < b → ceil (n - (b - 1)) b < ceil (suc n) b
ceil_fall n b h = go (ceil (suc n) b) (ceil_enough (suc n) b h)
  where
    go : (m : ℕ) → suc n ≤ b * m → ceil (n - (b - 1)) b < m
    go zero l = absurd (omega (arith, rw mul-zero at l))
    go (suc m) l = let e = mul-suc b m in omega (arith, ceil_least (n - (b - 1)) b m h (omega arith))

lack_is : (v : View) (t n f : ℕ) → spare_of v t ≡ f → lack_of v t n ≡ ceil (n - f) (per_zone t)
unfolding lack_of
lack_is v t n f e = rw e

-- the entry of a zone of type t with some block in use
module _ (t f : ℕ) (typed : DataType t) (l : f < per_zone t) where
  abbrev entry : ZoneEntry
  entry = record { ztype = t; free = f; third = 0 }

  entry_closed : is_open entry ≡ false
  entry_closed = sym (open_typed entry (per_zone t) (data_zone typed) refl) ∙ ne_eqb f (per_zone t) (λ e. omega arith)

  entry_own : spare_in t entry ≡ f
  entry_own = sym (in_begun t entry (is_open entry) refl entry_closed refl)

  entry_other : (u : ℕ) → t ≢ u → spare_in u entry ≡ 0
  entry_other u ne = sym (in_other u entry ne)

module _ (v v' : View) (t : ℕ) (k : Found) (p : Proper v t k) (taken : Taken v v' t k) where
  -- what is summed over the zones changes by the one zone
  entry_change : (f : ZoneEntry → ℕ)
      → sum_to (v'.zones - 2) (λ i. f (v'.zone (i + 2))) + f (v.zone k.zone.0) ≡ sum_to (v.zones - 2) (λ i. f (v.zone (i + 2))) + f (entry t k.free p.typed p.free)
  entry_change f =
      let e : k.zone.0 - 2 + 2 ≡ k.zone.0 = omega (arith, p.low) in
      let s = sum_at (v.zones - 2) (k.zone.0 - 2) (λ i. f (v'.zone (i + 2))) (λ i. f (v.zone (i + 2))) (omega (arith, p.low, p.high))
      (λ i l ne. ap f (taken.there (i + 2) (omega arith) (omega arith) (λ q. ne (omega arith)))) in
      rw taken.zones (rw (e, taken.here) at s)

  spare_change : (u : ℕ) → spare_of v' u + spare_in u (v.zone k.zone.0) ≡ spare_of v u + spare_in u (entry t k.free p.typed p.free)
  unfolding spare_of
  spare_change u = entry_change (spare_in u)

  open_change : open_zones v' + only_if (is_open (v.zone k.zone.0)) 1 ≡ open_zones v
  unfolding open_zones only_if
  open_change = omega (arith, rw (entry_closed t k.free p.typed p.free) at (entry_change (λ e. only_if (is_open e) 1)))

  -- where the zone had no free blocks of another type, only this type's lack changes
  module _ (ts : List ℕ) (old : (u : ℕ) → t ≢ u → spare_in u (v.zone k.zone.0) ≡ 0) where
    other_lack : (u : ℕ) → t ≢ u → lack_of v' u (how_many ts u) ≡ lack_of v u (how_many (t ∷ ts) u)
    unfolding lack_of
    other_lack u ne =
        let e : spare_of v' u ≡ spare_of v u = omega (arith, spare_change u, old u ne, entry_other t k.free p.typed p.free u ne) in
        rw (e, how_many_other t u ts ne)

    lack_change : sum_to 6 (λ i. lack_of v' (i + 3) (how_many ts (i + 3))) + lack_of v t (how_many (t ∷ ts) t)
        ≡ sum_to 6 (λ i. lack_of v (i + 3) (how_many (t ∷ ts) (i + 3))) + lack_of v' t (how_many ts t)
    lack_change =
        let typed = p.typed in
        let e : t - 3 + 3 ≡ t = omega arith in
        rw e at (sum_at 6 (t - 3) (λ i. lack_of v' (i + 3) (how_many ts (i + 3))) (λ i. lack_of v (i + 3) (how_many (t ∷ ts) (i + 3))) (omega arith)
        (λ i l ne. other_lack (i + 3) (λ q. ne (omega arith))))

  -- of a zone that was begun: one free block less, of which one is asked less
  begun_enough : (ts : List ℕ) → OfBegun v t k → Enough v (how_many (t ∷ ts)) → Enough v' (how_many ts)
  unfolding only_if
  begun_enough ts b h =
      let e = v.zone k.zone.0 in
      let own = in_begun t e (is_open e) refl b.closed b.ztype in
      let s : spare_of v t ≡ suc (spare_of v' t) = omega (arith, spare_change t, own, b.free, entry_own t k.free p.typed p.free) in
      let q : how_many (t ∷ ts) t - spare_of v t ≡ how_many ts t - spare_of v' t = omega (arith, how_many_own t ts) in
      let same : lack_of v' t (how_many ts t) ≡ lack_of v t (how_many (t ∷ ts) t) = lack_is v' t _ _ refl ∙ sym (ap (λ (n : ℕ). ceil n (per_zone t)) q) ∙ sym (lack_is v t _ _ refl) in
      omega (arith, h, rw b.closed at open_change, lack_change ts (λ u ne. sym (in_other u e (λ x. ne (sym b.ztype ∙ x)))))

  -- of an open zone: one of these less, and all its blocks but the one are free
  open_enough : (ts : List ℕ) → OfOpen v t k → Enough v (how_many (t ∷ ts)) → Enough v' (how_many ts)
  unfolding only_if
  open_enough ts b h =
      let e = v.zone k.zone.0 in
      let zero' : (u : ℕ) → spare_in u (v.zone k.zone.0) ≡ 0 = λ u. sym (in_open u e (is_open e) refl b.opened) in
      let none = none_spare v t b.none in
      let s : spare_of v' t ≡ per_zone t - 1 = omega (arith, b.free, spare_change t, zero' t, entry_own t k.free p.typed p.free) in
      let n : how_many (t ∷ ts) t - 0 ≡ suc (how_many ts t) = omega (arith, how_many_own t ts) in
      let less : lack_of v' t (how_many ts t) < lack_of v t (how_many (t ∷ ts) t)
      = rw (lack_is v' t (how_many ts t) _ s, lack_is v t (how_many (t ∷ ts) t) _ none, n) (ceil_fall (how_many ts t) (per_zone t) (some_blocks t p.typed)) in
      omega (arith, h, rw b.opened at open_change, lack_change ts (λ u ne. zero' u))

pub fit_stocked : (v v' : View) (t : ℕ) (ts : List ℕ) (k : Found) → Stocked v (t ∷ ts) → Fit v t k → Taken v v' t k → Stocked v' ts
unfolding AllTyped
fit_stocked v v' t ts k s fit taken =
    let c = fit_choosable v t ts s k fit in
    record {
      r2 = taken_R2 v v' t _ c taken s.r2;
      r3 = taken_R3 v v' t _ c taken s.r3;
      typed = s.typed.1;
      enough = ⊎_elim (λ b. begun_enough v v' t _ c.proper taken ts b s.enough) (λ b. open_enough v v' t _ c.proper taken ts b s.enough) fit;
    }
