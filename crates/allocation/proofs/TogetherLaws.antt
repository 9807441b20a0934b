-- Where the choice with a neighbour is the usual one: for a block of the same type, after a block that the usual choice gave; and where the last
-- pointer ends in a zone of another type. "A create is altered only where the type changes at a zone's end."
use mathlib.Core.Path.{◌≡◌, refl, sym, ap, ◌∙◌}
use mathlib.Core.Logic.{◌≢◌, ⊎_elim}
use mathlib.Core.Bool.{false}
use mathlib.Core.List.{List, ◌∷◌}
use Prim.Native.Nat.{ℕ, ◌+◌, ◌-◌, ◌*◌, ◌/◌, ◌%◌, ◌≤◌, ◌<◌}
use native.Mathlib.Decide.{ℕ_discrete, dec_lt}
use native.Mathlib.Omega.{arith}
use borrow.Author.Tests.{eq-eqb, eqb-false, ne_eqb}
use Rattle.field.proofs.Sums.{sum_zero}
use Rattle.tables.specs.declared.zone.ZoneEntry.{ZoneEntry}
use Rattle.tables.specs.Blocks.{DataType, block_of, per_zone}
use Rattle.tables.specs.Kinds.{zone_of, first_of}
use Rattle.tables.specs.Room.{spare_in}
use Rattle.tables.specs.Views.{View}
use Rattle.tables.proofs.BlockLaws.{data_zone, data_block, block_end, block_in}
use Rattle.tables.proofs.LackLaws.{in_none}
use Rattle.tables.proofs.PointerLaws.{cov_in}
use Rattle.allocation.specs.declared.choice.Found.{Found}
use Rattle.allocation.specs.declared.tail.Tail.{Tail}
use Rattle.allocation.specs.Choice.{begun, lowest_begun, is_clear, lowest_clear, begun_block, next_block, has_neighbour, neighbour, choose, block_start}
use Rattle.allocation.specs.NextPointer.{end_sector}
use Rattle.allocation.specs.Stock.{Stocked}
use Rattle.allocation.specs.Candidates.{Behind}
use Rattle.allocation.specs.Steps.{Choosable, Taken}
use Rattle.allocation.proofs.FindLaws.{either, find_at}
use Rattle.allocation.proofs.NextBlockLaws.{begun_no, next_begun}
use Rattle.allocation.proofs.NextLaws.{next_typed, next_fits, fit_choosable, next_behind, taken_behind}
use Rattle.allocation.proofs.StockLaws.{fit_stocked}
use Rattle.allocation.proofs.NeighbourLaws.{Neighbour, neighbour_says, no_neighbour, neighbour_few, neighbour_at, neighbour_begun}
use Rattle.allocation.proofs.ChooseLaws.{choose_neighbour, choose_next}

module _ (v v' : View) (l : Tail) (t : ℕ) (ts : List ℕ) (many : 2 ≤ v.zones) (s : Stocked v (t ∷ ts)) (taken : Taken v v' t (next_block v t))
    (end : end_sector l ≡ block_start t (next_block v t) + block_of t) where
  abbrev k : Found
  k = next_block v t

  typed : DataType t
  typed = next_typed v t ts s

  choosable : Choosable v t k
  choosable = fit_choosable v t ts s k (next_fits v t ts s)

  left : Stocked v' ts
  left = fit_stocked v v' t ts k s (next_fits v t ts s) taken

  behind : Behind v' t k
  behind = taken_behind v v' t k k taken typed (omega arith) (next_behind v t many)

  -- it ends within its zone
  ends : k.number * block_of t + block_of t ≤ 1024
  ends = block_in k.number (block_of t) (data_block t typed) choosable.proper.within

  behind_it : end_sector l ≡ first_of k.zone.0 + (k.number * block_of t + block_of t)
  unfolding block_start
  behind_it = omega (arith, end)

  -- in its zone no block up to it is free any more
  none_up_to : (j : ℕ) → j < k.number + 1 → is_clear v' t k.zone.0 j ≡ false
  unfolding is_clear block_start
  none_up_to j lj = elim (dec_lt j k.number) [
    | yes b ↦ behind.blocks j b
    | no b ↦
        let a = first_of k.zone.0 + k.number * block_of t in
        let e : j ≡ k.number = omega arith in
        let inside : a < 1024 * v.zones = omega (arith, ends, choosable.proper.low, choosable.proper.high, (data_block t typed).some) in
        rw e (ne_eqb (v'.bit a) 0 (λ q. absurd (omega (arith, q, taken.bit a inside, cov_in a (block_of t) a (omega arith) (omega (arith, (data_block t typed).some))))))
  ]

  module _ (full : k.number * block_of t + block_of t ≡ 1024) where
    up_to : (j : ℕ) → j < per_zone t → j < k.number + 1
    up_to j lj = elim (dec_lt j (k.number + 1)) [
      | yes b ↦ b
      | no b ↦ absurd (omega (arith, block_end j (per_zone t) (block_of t) lj, (data_block t typed).whole, (data_block t typed).some, block_end k.number j (block_of t) (omega arith)))
    ]

    in_use : (j : ℕ) → j < per_zone t → 1 - v'.bit (first_of k.zone.0 + j * block_of t) ≡ 0
    unfolding is_clear
    in_use j lj =
        let set = eqb-false (v'.bit (first_of k.zone.0 + j * block_of t)) 0 (none_up_to j (up_to j lj)) in
        elim (ℕ_discrete (v'.bit (first_of k.zone.0 + j * block_of t)) 0) [ yes q ↦ absurd (set q) | no q ↦ omega arith ]

    -- where it is the zone's last, the zone has no free block any more
    none_left : begun v' t k.zone.0 ≡ false
    none_left =
        let z = k.zone.0 in
        let e : (v'.zone z).ztype ≡ t = ap (λ (x : ZoneEntry). x.ztype) taken.here in
        let blocks = rw e at (left.r3 z (rw taken.zones choosable.proper.high) choosable.proper.low (rw e (data_zone typed))) in
        let all = sum_zero (per_zone t) (λ j. 1 - v'.bit (first_of z + j * block_of t)) in_use in
        begun_no v' t z (spare_in t (v'.zone z)) (v'.zone z) refl refl (omega (arith, in_none t (v'.zone z) (sym blocks.number ∙ all)))

  module _ (n : Neighbour v' l t) where
    abbrev z : ℕ
    z = zone_of (end_sector l)

    abbrev number : ℕ
    number = end_sector l % 1024 / block_of t

    at : first_of z + number * block_of t ≡ end_sector l
    at = neighbour_at v' l t typed n

    -- no zone below the neighbour's has a free block of the type
    zones_below : (y : ℕ) → y < z → 2 ≤ y → begun v' t y ≡ false
    zones_below y ly lo = elim (dec_lt y k.zone.0) [
      | yes b ↦ behind.zones y b lo
      | no b ↦ (let e : y ≡ k.zone.0 = omega (arith, behind_it, ends) in rw e (none_left (omega (arith, behind_it, ends))))
    ]

    -- and its zone has none below it
    blocks_below : (j : ℕ) → j < number → 0 ≤ j → is_clear v' t z j ≡ false
    blocks_below j lj lo = elim (ℕ_discrete z k.zone.0) [
      | yes e ↦ rw e (none_up_to j (elim (dec_lt j (k.number + 1)) [
        | yes b ↦ b
        | no b ↦ absurd (omega (arith, at, behind_it, e, (data_block t typed).some, block_end j number (block_of t) lj, block_end k.number j (block_of t) (omega arith)))
      ]))
      | no ne ↦ absurd (omega (arith, at, behind_it, ends, ne, block_end j number (block_of t) lj, (data_block t typed).some))
    ]

    lowest_zone : lowest_begun v' t ≡ z
    unfolding lowest_begun
    lowest_zone = find_at (begun v' t) (v'.zones - 2) 2 z (omega (arith, n.low)) (omega (arith, n.high, n.low)) (neighbour_begun v' l t typed n left.r3) zones_below

    lowest_block : lowest_clear v' t z ≡ number
    unfolding lowest_clear is_clear
    lowest_block = find_at (is_clear v' t z) (per_zone t) 0 number (omega arith) (omega (arith, neighbour_few v' l t typed n)) (rw at (eq-eqb _ 0 n.clear)) blocks_below

    neighbour_is_next : neighbour v' l t ≡ next_block v' t
    unfolding neighbour begun_block
    neighbour_is_next =
        sym (next_begun v' t (omega (arith, lowest_zone, n.high, n.low)) ∙ ap (begun_block v' t) lowest_zone
        ∙ ap (λ (j : ℕ). record { zone = record { 0 = z }; number = j; free = (v'.zone z).free - 1 }) lowest_block)

  -- a block that the usual choice gave is followed by another one of these
  pub usual_again : choose v' l t ≡ next_block v' t
  usual_again =
      ⊎_elim (λ h. choose_neighbour v' l t h ∙ neighbour_is_next (neighbour_says v' l t h)) (λ h. choose_next v' l t h) (either (has_neighbour v' l t))

-- within a zone of another type
pub usual_within : (v : View) (l : Tail) (t : ℕ) → (v.zone (zone_of (end_sector l))).ztype ≢ t → choose v l t ≡ next_block v t
usual_within v l t other = choose_next v l t (no_neighbour v l t (λ n. other n.ztype))
