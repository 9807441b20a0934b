-- Freed blocks counted in the zone entries: each way out of the functions, and how the loop goes on.
use mathlib.Core.Path.{◌≡◌, refl, sym, ap, ◌∙◌}
use mathlib.Core.Logic.{inr}
use mathlib.Core.Bool.{Bool, true, false, not}
use mathlib.Core.List.{List}
use Prim.Native.Nat.{ℕ, suc, ◌+◌, ◌-◌, ◌*◌, ◌/◌, ◌≤◌, ◌<◌}
use native.Mathlib.Nat.{div-eq_of_eq-mul_left}
use native.Mathlib.Decide.{ℕ_discrete}
use native.Mathlib.Omega.{arith}
use lib.ListN.{get_or, length}
use borrow.Author.Tests.{eq-eqb, ne_eqb, lt-ltb}
use Rattle.field.specs.Kept.{Kept}
use Rattle.field.specs.Says.{Says}
use Rattle.field.proofs.Tests.{passed, refused}
use Rattle.field.specs.Runs.{count_bits}
use Rattle.field.proofs.BitLaws.{bit_kept, bit_at_lt}
use Rattle.field.proofs.NumberLaws.{u16_lt}
use Rattle.tables.specs.declared.places.Places.{Places}
use Rattle.tables.specs.declared.zone.ZoneEntry.{ZoneEntry}
use Rattle.tables.specs.Blocks.{ZoneType, block_of, Block, per_zone}
use Rattle.tables.specs.Kinds.{first_of}
use Rattle.tables.specs.Places.{Layout}
use Rattle.tables.specs.Sectors.{sector_at}
use Rattle.tables.specs.Views.{view_of}
use Rattle.tables.specs.Zones.{zone_at, put_zone}
use Rattle.tables.specs.Rules.R3.{Blocks}
use Rattle.tables.proofs.BlockLaws.{block_of_lem, clear_blocks_lem}
use Rattle.tables.proofs.SameLaws.{blocks_same}
use Rattle.tables.proofs.ZoneEntryLaws.{zone_kept}
use Rattle.files.specs.Release.{recounted, recount_zone, recount_zones}
use Rattle.files.specs.Freed.{Short, AllShort}
use Rattle.files.proofs.RecountView.{kept_zones}

-- the entry and the bits of a zone are the same in other books
short_kept : (p : Places) (b b' : List ℕ) (z : ℕ) → zone_at p b' z ≡ zone_at p b z → ((s : ℕ) → sector_at p b' s ≡ sector_at p b s) → (n : ℕ) → Short (view_of p b) z n → Short (view_of p b') z n
short_kept p b b' z e bits n h = record {
  typed = rw e (λ t. blocks_same (sector_at p b) (sector_at p b') (first_of z) (block_of (zone_at p b z).ztype) (block_of_lem _ t) (λ k l. bits _) ((zone_at p b z).free + n) (h.typed t));
  other = rw e h.other;
}

-- ---- a zone's entry

-- the clear blocks by the bits that are set
pub clear_count : (p : Places) (b : List ℕ) (first t set size : ℕ) → set ≡ count_bits b p.sectortable first 1024 → size ≡ block_of t → Block size
    → (n : ℕ) → Blocks (sector_at p b) first (block_of t) n → (1024 - set) / size ≡ n
unfolding count_bits
clear_count p b first t set size h e k n w =
    let c = clear_blocks_lem (sector_at p b) first size (bit_at_lt b p.sectortable) k (rw e w.whole) in
    div-eq_of_eq-mul_left k.some (omega (arith, ap (λ (x : ℕ). x * size) (rw (← e) at w.number)))

module _ (e : ZoneEntry) (n free size : ℕ) (sum : free ≡ e.free + n) (s : size ≡ per_zone e.ztype) where
  pub recounted_open : free ≡ size → ◌≡◌ {A = ZoneEntry} (record { ztype = 0; free = 0; third = 0 }) (recounted e n)
  unfolding recounted
  recounted_open h = rw (eq-eqb (e.free + n) (per_zone e.ztype) (sym sum ∙ h ∙ s))

  pub recounted_other : (free ≡ size → ⊥) → ◌≡◌ {A = ZoneEntry} (record { ztype = e.ztype; free = free; third = e.third }) (recounted e n)
  unfolding recounted
  recounted_other h = rw (ne_eqb (e.free + n) (per_zone e.ztype) (λ q. h (sum ∙ q ∙ sym s)), sum)

module _ (p : Places) (b : List ℕ) (z : ℕ) (e : ZoneEntry) (is : e ≡ zone_at p b z) where
  -- no block is freed
  zone_none : (n : ℕ) → n ≡ 0 → b ≡ recount_zone p b z n
  unfolding recount_zone
  zone_none n h = rw h

  pub zone_other : (r : Bool) → Says r (ZoneType e.ztype) → not r ≡ true → (n : ℕ) → Short (view_of p b) z n → b ≡ recount_zone p b z n
  zone_other r s out n h = zone_none n (h.other (rw (← is) (refused r s out)))

  module _ (r : Bool) (typed : Says r (ZoneType e.ztype)) (of : not r ≡ false) (clear : ℕ)
      (are : (n : ℕ) → Blocks (sector_at p b) (first_of z) (block_of e.ztype) n → clear ≡ n) where
    all_clear : (n : ℕ) → Short (view_of p b) z n → clear ≡ e.free + n
    all_clear n h = are _ (rw (← is) at h.typed (passed r typed of))

    pub zone_same : clear ≤ e.free → (n : ℕ) → Short (view_of p b) z n → b ≡ recount_zone p b z n
    zone_same l n h = zone_none n (omega (arith, all_clear n h))

    pub zone_more : e.free < clear → (x : ZoneEntry) → x ≡ recounted e (clear - e.free) → (y : List ℕ) → y ≡ put_zone p b z x.ztype x.free x.third
        → (n : ℕ) → Short (view_of p b) z n → y ≡ recount_zone p b z n
    unfolding recount_zone
    zone_more l x ex y h n short =
        let c = all_clear n short in
        let q : clear - e.free ≡ n = omega arith in
        rw (← is, lt-ltb 0 n (omega arith), ← q, ← ex) h

-- its three fields are of two bytes
pub zone_small : (p : Places) (b : List ℕ) (z : ℕ) (e : ZoneEntry) → e ≡ zone_at p b z → ((j : ℕ) → get_or b j 0 < 256) → (n : ℕ) → ZoneType e.ztype → e.free + n ≤ 1024
    → (x : ZoneEntry) → x ≡ recounted e n → (x.ztype < 65536) × (x.free < 65536) × (x.third < 65536)
unfolding zone_at
zone_small p b z e is small n typed few x of =
    let high = typed.high in
    let own : e.third < 65536 = rw is (u16_lt b _ small) in
    rw of (elim (ℕ_discrete (e.free + n) (per_zone e.ztype)) [
      | yes h ↦ rw (← recounted_open e n _ _ refl refl h) (omega arith, omega arith, omega arith)
      | no d ↦ rw (← recounted_other e n _ _ refl refl d) (omega arith, omega arith, own)
    ])

-- ---- all zones' entries

module _ (p : Places) (b : List ℕ) where
  -- zones 2 to z - 1 have their freed blocks counted
  abbrev pub Counted : List ℕ → ℕ → Type 0
  Counted x z = (freed : ℕ → ℕ) → AllShort (view_of p b) freed → x ≡ recount_zones p b freed (z - 2)

  pub zones_none : Counted b 2
  unfolding recount_zones
  zones_none freed h = refl

  module _ (x : List ℕ) (z : ℕ) (low : 2 ≤ z) (is : Counted x z) where
    pub zones_more : Layout p (length b) → z < p.zones → (y : List ℕ) → ((n : ℕ) → Short (view_of p x) z n → y ≡ recount_zone p x z n) → Counted y (z + 1)
    unfolding recount_zones
    zones_more lay l y more freed h =
        let k : Kept b x (p.zonetable + 6) (6 * (z - 2)) = rw (is freed h) (kept_zones p b lay freed (z - 2)) in
        let e : z + 1 - 2 ≡ suc (z - 2) = omega arith in
        let q : z - 2 + 2 ≡ z = omega arith in
        let s : Short (view_of p x) z (freed z) = short_kept p b x z (zone_kept p z k (inr (omega arith))) (λ s. bit_kept p.sectortable s k (inr (omega arith))) (freed z) (h z l low) in
        rw (e, q, ← is freed h) (more (freed z) s)

    pub zones_end : z ≤ p.zones → p.zones ≤ z → Counted x p.zones
    zones_end hi l freed h = is freed h ∙ ap (λ (n : ℕ). recount_zones p b freed (n - 2)) (let q : z ≡ p.zones = omega arith in q)
