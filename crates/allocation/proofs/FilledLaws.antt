-- Clear sectors of a zone set: what the write of the zone's entry and of the sectors' bits changes in the books and in the view, and what it
-- leaves.
use mathlib.Core.Path.{◌≡◌, refl, ◌∙◌}
use mathlib.Core.Logic.{◌⊎◌, inl, inr, ◌≢◌}
use mathlib.Core.List.{List}
use Prim.Native.Nat.{ℕ, ◌+◌, ◌-◌, ◌*◌, ◌/◌, ◌%◌, ◌≤◌, ◌<◌}
use native.Mathlib.Decide.{dec_lt}
use native.Mathlib.Omega.{arith}
use lib.ListN.{get_or, length}
use Rattle.field.specs.Kept.{Kept}
use Rattle.field.specs.Runs.{Room}
use Rattle.field.proofs.Frames.{kept_trans, kept_wider}
use Rattle.field.proofs.BitLaws.{bit_kept}
use Rattle.field.proofs.RunLaws.{kept_set_bits, set_in, set_out}
use Rattle.tables.specs.declared.places.Places.{Places}
use Rattle.tables.specs.Places.{Layout}
use Rattle.tables.specs.Sectors.{sector_at, put_sectors}
use Rattle.tables.specs.Views.{view_of, cov}
use Rattle.tables.specs.Zones.{zone_at, put_zone}
use Rattle.tables.specs.Rules.R1.{Stand, Tails}
use Rattle.tables.proofs.PointerLaws.{cov_in, cov_before, cov_after}
use Rattle.tables.proofs.ZoneEntryLaws.{zone_kept, kept_put_zone, zone_put}
use Rattle.allocation.specs.Lengthened.{Quiet}
use Rattle.allocation.specs.Steps.{Filled, SameFiles}
use Rattle.allocation.proofs.TableLaws.{files_between}

-- (t, free, 0) for the entry of zone z, and the n sectors from a on set
module _ (p : Places) (b : List ℕ) (z t free a n : ℕ) where
  -- the books with the zone's entry written
  abbrev entered : List ℕ
  entered = put_zone p b z t free 0

  -- and with the sectors' bits
  abbrev pub filled : List ℕ
  filled = put_sectors p (put_zone p b z t free 0) a n 1

  kept_entry : Kept b entered (p.zonetable + 6 * (z - 1)) 6
  kept_entry = kept_put_zone p b z t free 0

  kept_run : Kept entered filled (p.sectortable + a / 8) ((a % 8 + n + 7) / 8)
  kept_run = kept_set_bits entered p.sectortable a n 1

  pub length_filled : length filled ≡ length b
  length_filled = kept_run.len ∙ kept_entry.len

  module _ (lay : Layout p (length b)) (low : 2 ≤ z) (high : z < p.zones) (within : a + n ≤ 1024 * p.zones) where
    -- the two writes, each within its table
    kept_zones : Kept b entered p.zonetable (6 * p.zones)
    kept_zones = kept_wider kept_entry (omega arith) (omega arith)

    kept_sectors : Kept entered filled p.sectortable (128 * p.zones)
    kept_sectors = kept_wider kept_run (omega arith) (omega (arith, lay.least))

    pub kept_filled : Kept b filled p.zonetable (p.sectortable + 128 * p.zones - p.zonetable)
    kept_filled = kept_trans (kept_wider kept_zones (omega arith) (omega arith)) (kept_wider kept_sectors (omega arith) (omega arith))

    -- ---- sectors 0 and 1, and the index tables

    pub filled_sector0 : (j : ℕ) → j < 2048 → get_or filled j 0 ≡ get_or b j 0
    filled_sector0 j l = kept_filled.out j (inl (omega arith))

    pub filled_files : SameFiles (view_of p b) (view_of p filled)
    filled_files = files_between p kept_filled (omega arith) (omega arith)

    pub filled_tails : Stand p (length b) → Tails p b → Tails p filled
    filled_tails st h = record {
      zone = λ j l. kept_sectors.out _ (inl (omega (arith, st.sector))) ∙ kept_zones.out _ (inr (omega arith)) ∙ h.zone j l;
      sector = λ j l. kept_sectors.out _ (inr (omega arith)) ∙ kept_zones.out _ (inr (omega arith)) ∙ h.sector j l;
    }

    pub filled_quiet : Quiet p b filled
    filled_quiet = record { len = length_filled; low = λ j l. filled_sector0 j (omega arith); tails = filled_tails }

    -- ---- zones and sectors

    zone_here : zone_at p filled z ≡ record { ztype = t; free = free; third = 0 }
    zone_here = zone_kept p z kept_sectors (inl (omega arith)) ∙ zone_put p b z t free 0 (omega arith)

    zone_there : (y : ℕ) → 1 ≤ y → y ≤ p.zones → y ≢ z → zone_at p filled y ≡ zone_at p b y
    zone_there y lo hi ne =
        zone_kept p y kept_sectors (inl (omega arith)) ∙ zone_kept p y kept_entry (elim (dec_lt y z) [ yes l ↦ inl (omega arith) | no l ↦ inr (omega (arith, ne)) ])

    bit_entered : (s : ℕ) → sector_at p entered s ≡ sector_at p b s
    bit_entered s = bit_kept p.sectortable s kept_zones (inr (omega arith))

    room : Room (length entered) p.sectortable a n
    room = record { most = omega arith; within = omega (arith, kept_entry.len) }

    bit_out : (s : ℕ) → (s < a) ⊎ (a + n ≤ s) → sector_at p filled s ≡ sector_at p b s
    bit_out s h = set_out entered p.sectortable a 1 (omega arith) n s room h ∙ bit_entered s

    bit_in : (s : ℕ) → a ≤ s → s < a + n → sector_at p filled s ≡ 1
    bit_in s l h =
        let e : a + (s - a) ≡ s = omega arith in
        rw e at (set_in entered p.sectortable a 1 (omega arith) n (s - a) room (omega arith))

    module _ (clear : (j : ℕ) → j < n → sector_at p b (a + j) ≡ 0) where
      bit_added : (s : ℕ) → sector_at p filled s ≡ sector_at p b s + cov a n s
      bit_added s = elim (dec_lt s a) [
        | yes l ↦ omega (arith, bit_out s (inl l), cov_before a n s l)
        | no l ↦ elim (dec_lt s (a + n)) [
          | yes h ↦
              let e : a + (s - a) ≡ s = omega arith in
              let c = rw e at (clear (s - a) (omega arith)) in
              omega (arith, bit_in s (omega arith) h, c, cov_in a n s (omega arith) h)
          | no h ↦ omega (arith, bit_out s (inr (omega arith)), cov_after a n s (omega arith))
        ]
      ]

      pub filled_view : Filled (view_of p b) (view_of p filled) z t free a n
      filled_view = record { zones = refl; here = zone_here; there = zone_there; bit = λ s l. bit_added s }
