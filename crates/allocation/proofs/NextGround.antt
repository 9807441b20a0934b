-- The next block is found by zone entries and sectors only: on the same ground it is the same block, and the books are as well stocked.
use mathlib.Core.Path.{◌≡◌, sym, ap, ap₂, ◌∙◌}
use mathlib.Core.List.{List}
use Prim.Native.Nat.{ℕ, ◌+◌, ◌-◌, ◌*◌, ◌≤◌, ◌<◌}
use native.Mathlib.Nat.{div-mul-le_self}
use native.Mathlib.Decide.{ℕ_discrete, dec_lt}
use native.Mathlib.Omega.{arith}
use lib.Dec.{eqb, ltb}
use Rattle.field.specs.Sum.{sum_to}
use Rattle.field.proofs.Sums.{sum_same}
use Rattle.tables.specs.declared.zone.ZoneEntry.{ZoneEntry}
use Rattle.tables.specs.Kinds.{first_of}
use Rattle.tables.specs.Blocks.{block_of, per_zone}
use Rattle.tables.specs.Open.{is_open, open_zones}
use Rattle.tables.specs.Room.{spare_in, spare_of, lack_of, Enough}
use Rattle.tables.specs.Rules.R1.{ceil}
use Rattle.tables.specs.Same.{Ground}
use Rattle.tables.specs.Views.{View, cov, only_if}
use Rattle.tables.proofs.BlockLaws.{block_some, block_end}
use Rattle.tables.proofs.SameLaws.{ground_R2, ground_R3}
use Rattle.allocation.specs.declared.choice.Found.{Found}
use Rattle.allocation.specs.Choice.{begun, lowest_begun, lowest_open, is_clear, lowest_clear, begun_block, open_block, next_block, block_start}
use Rattle.allocation.specs.Stock.{how_many, Stocked}
use Rattle.allocation.specs.Candidates.{Behind}
use Rattle.allocation.specs.Steps.{Taken}
use Rattle.allocation.proofs.FindLaws.{find_same}
use Rattle.allocation.proofs.NextBlockLaws.{next_begun, next_open}
use Rattle.allocation.proofs.NextLaws.{begun_low}

pub ground_sym : {v v' : View} → Ground v v' → Ground v' v
ground_sym g = record {
  zones = sym g.zones;
  zone = λ z lo hi. sym (g.zone z lo (rw g.zones at hi));
  bit = λ s l. sym (g.bit s (rw g.zones at l));
}

pub ground_trans : {u v w : View} → Ground u v → Ground v w → Ground u w
ground_trans g h = record {
  zones = h.zones ∙ g.zones;
  zone = λ z lo hi. h.zone z lo (rw g.zones hi) ∙ g.zone z lo hi;
  bit = λ s l. h.bit s (rw g.zones l) ∙ g.bit s l;
}

-- a block's first sector is in its zone, whatever its size
block_first : (t j : ℕ) → j < per_zone t → j * block_of t < 1024
block_first t j l = omega (arith, block_some t, block_end j (per_zone t) (block_of t) l, div-mul-le_self 1024 (block_of t))

module _ (v v' : View) (g : Ground v v') where
  -- ---- zones and blocks

  begun_ground : (t z : ℕ) → 1 ≤ z → z ≤ v.zones → begun v' t z ≡ begun v t z
  unfolding begun
  begun_ground t z lo hi = ap (λ (e : ZoneEntry). ltb 0 (spare_in t e)) (g.zone z lo hi)

  clear_ground : (t z j : ℕ) → 1 ≤ z → z ≤ v.zones → j < per_zone t → is_clear v' t z j ≡ is_clear v t z j
  unfolding is_clear
  clear_ground t z j lo hi l = ap (λ (b : ℕ). eqb b 0) (g.bit (first_of z + j * block_of t) (omega (arith, block_first t j l)))

  -- what is summed over the zones
  zones_ground : (f : ZoneEntry → ℕ) → sum_to (v'.zones - 2) (λ i. f (v'.zone (i + 2))) ≡ sum_to (v.zones - 2) (λ i. f (v.zone (i + 2)))
  zones_ground f = rw g.zones (sum_same (v.zones - 2) _ _ (λ i l. ap f (g.zone (i + 2) (omega arith) (omega arith))))

  -- ---- the next block

  lowest_begun_lem : (t : ℕ) → lowest_begun v' t ≡ lowest_begun v t
  unfolding lowest_begun
  lowest_begun_lem t = rw g.zones (find_same (begun v t) (begun v' t) (v.zones - 2) 2 (λ z hi lo. begun_ground t z (omega arith) (omega arith)))

  lowest_open_lem : lowest_open v' ≡ lowest_open v
  unfolding lowest_open
  lowest_open_lem = rw g.zones (find_same (λ z. is_open (v.zone z)) (λ z. is_open (v'.zone z)) (v.zones - 2) 2 (λ z hi lo. ap is_open (g.zone z (omega arith) (omega arith))))

  begun_block_lem : (t z : ℕ) → 1 ≤ z → z ≤ v.zones → begun_block v' t z ≡ begun_block v t z
  unfolding begun_block lowest_clear
  begun_block_lem t z lo hi =
      let n = find_same (is_clear v t z) (is_clear v' t z) (per_zone t) 0 (λ j l _. clear_ground t z j lo hi (omega arith)) in
      ap₂ (λ (n : ℕ) (e : ZoneEntry). record { zone = record { 0 = z }; number = n; free = e.free - 1 }) n (g.zone z lo hi)

  pub next_ground : (t : ℕ) → next_block v' t ≡ next_block v t
  unfolding open_block
  next_ground t =
      let e = lowest_begun_lem t in
      elim (dec_lt (lowest_begun v t) v.zones) [
        | yes h ↦ next_begun v' t (rw (e, g.zones) h) ∙ ap (begun_block v' t) e
            ∙ begun_block_lem t _ (omega (arith, begun_low v t)) (omega arith) ∙ sym (next_begun v t h)
        | no h ↦ next_open v' t (rw (e, g.zones) (omega arith))
            ∙ ap (λ (z : ℕ). record { zone = record { 0 = z }; number = 0; free = per_zone t - 1 }) lowest_open_lem ∙ sym (next_open v t (omega arith))
      ]

  -- ---- what is asked of the books and of a block

  lack_ground : (t n : ℕ) → lack_of v t n ≡ lack_of v' t n
  unfolding lack_of spare_of
  lack_ground t n = ap (λ (s : ℕ). ceil (n - s) (per_zone t)) (sym (zones_ground (spare_in t)))

  open_ground : open_zones v' ≡ open_zones v
  unfolding open_zones
  open_ground = zones_ground (λ e. only_if (is_open e) 1)

  pub enough_ground : (c : ℕ → ℕ) → Enough v c → Enough v' c
  enough_ground c h =
      omega (arith, h, open_ground, sum_same 6 (λ i. lack_of v (i + 3) (c (i + 3))) (λ i. lack_of v' (i + 3) (c (i + 3))) (λ i _. lack_ground (i + 3) (c (i + 3))))

  pub stocked_ground : (ts : List ℕ) → Stocked v ts → Stocked v' ts
  stocked_ground ts s = record { r2 = ground_R2 v v' g s.r2; r3 = ground_R3 v v' g s.r3; typed = s.typed; enough = enough_ground (how_many ts) s.enough }

  pub behind_ground : (t : ℕ) (k : Found) → Behind v t k → Behind v' t k
  behind_ground t k b = record {
    low = b.low;
    high = rw g.zones b.high;
    zones = λ z l lo. begun_ground t z (omega arith) (omega (arith, b.high)) ∙ b.zones z l lo;
    blocks = λ j l. clear_ground t k.zone.0 j (omega (arith, b.low)) b.high (omega (arith, b.number)) ∙ b.blocks j l;
    number = b.number;
  }

-- the same block taken of both
pub taken_ground : (v v' w w' : View) (t : ℕ) (k : Found) → Ground v w → Taken v v' t k → Taken w w' t k → Ground v' w'
taken_ground v v' w w' t k g a b = record {
  zones = b.zones ∙ g.zones ∙ sym a.zones;
  zone = λ z lo hi. (let hi' : z ≤ v.zones = rw a.zones at hi in
      elim (ℕ_discrete z k.zone.0) [
        | yes e ↦ rw e (b.here ∙ sym a.here)
        | no ne ↦ b.there z lo (rw g.zones hi') ne ∙ g.zone z lo hi' ∙ sym (a.there z lo hi' ne)
      ]);
  bit = λ s l. (let l' : s < 1024 * v.zones = rw a.zones at l in
      b.bit s (rw g.zones l') ∙ ap (λ (x : ℕ). x + cov (block_start t k) (block_of t) s) (g.bit s l') ∙ sym (a.bit s l'));
}
