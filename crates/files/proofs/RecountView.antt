-- Freed blocks counted in the zone entries, as the rules see it.
use mathlib.Core.Path.{◌≡◌, refl, ap, ◌∙◌}
use mathlib.Core.Bool.{Bool, true, false, cond}
use mathlib.Core.Logic.{◌≢◌, inl, inr}
use mathlib.Core.List.{List}
use Prim.Native.Nat.{ℕ, zero, suc, ◌+◌, ◌-◌, ◌*◌, ◌≤◌, ◌<◌}
use native.Mathlib.Decide.{ℕ_discrete, dec_lt}
use native.Mathlib.Omega.{arith}
use lib.ListN.{length}
use lib.Dec.{eqb, ltb}
use borrow.Author.Tests.{lt-ltb}
use Rattle.field.specs.Kept.{Kept}
use Rattle.field.proofs.Frames.{kept_refl, kept_trans, kept_wider}
use Rattle.field.proofs.BitLaws.{bit_kept}
use Rattle.tables.specs.declared.places.Places.{Places}
use Rattle.tables.specs.declared.zone.ZoneEntry.{ZoneEntry}
use Rattle.tables.specs.Places.{Layout}
use Rattle.tables.specs.Views.{view_of, only_if}
use Rattle.tables.specs.Zones.{zone_at, put_zone}
use Rattle.tables.proofs.Sector1CountLaws.{only_eq, only_ne}
use Rattle.tables.proofs.ZoneEntryLaws.{zone_kept, kept_put_zone, zone_put}
use Rattle.allocation.specs.Steps.{SameFiles}
use Rattle.allocation.specs.Lengthened.{Quiet}
use Rattle.allocation.proofs.TableLaws.{files_between}
use Rattle.files.specs.Release.{recounted, recount_zone, recount_zones}
use Rattle.files.specs.Freed.{Recounted}

-- ---- one zone

-- the entry of a zone of which n blocks are freed, if any are
abbrev new_entry : ZoneEntry → ℕ → ZoneEntry
new_entry e n = cond (ltb 0 n) (recounted e n) e

module _ (p : Places) (b : List ℕ) (z n : ℕ) where
  kept_zone : Kept b (recount_zone p b z n) (p.zonetable + 6 * (z - 1)) 6
  unfolding recount_zone
  kept_zone = go (ltb 0 n) (recounted (zone_at p b z) n)
    where
      go : (t : Bool) (e : ZoneEntry) → Kept b (cond t (put_zone p b z e.ztype e.free e.third) b) (p.zonetable + 6 * (z - 1)) 6
      go true e = kept_put_zone p b z e.ztype e.free e.third
      go false e = kept_refl b _ 6

  zone_counted : p.zonetable + 6 * (z - 1) + 6 ≤ length b → zone_at p (recount_zone p b z n) z ≡ new_entry (zone_at p b z) n
  unfolding recount_zone
  zone_counted room = go (ltb 0 n) (recounted (zone_at p b z) n)
    where
      go : (t : Bool) (e : ZoneEntry) → zone_at p (cond t (put_zone p b z e.ztype e.free e.third) b) z ≡ cond t e (zone_at p b z)
      go true e = zone_put p b z e.ztype e.free e.third room
      go false e = refl

-- of no other zone is any block freed
abbrev pub only_in : ℕ → ℕ → ℕ → ℕ
only_in z n y = only_if (eqb y z) n

module _ (p : Places) (b : List ℕ) (lay : Layout p (length b)) (z n : ℕ) (low : 2 ≤ z) (high : z < p.zones) where
  pub kept_one : Kept b (recount_zone p b z n) p.zonetable (6 * p.zones)
  kept_one = kept_wider (kept_zone p b z n) (omega arith) (omega arith)

  one_here : zone_at p (recount_zone p b z n) z ≡ new_entry (zone_at p b z) n
  one_here = zone_counted p b z n (omega arith)

  one_there : (y : ℕ) → 1 ≤ y → y ≤ p.zones → y ≢ z → zone_at p (recount_zone p b z n) y ≡ zone_at p b y
  one_there y lo hi ne = zone_kept p y (kept_zone p b z n) (elim (dec_lt y z) [ yes l ↦ inl (omega arith) | no l ↦ inr (omega (arith, ne)) ])

  pub zone_recounted : Recounted (view_of p b) (view_of p (recount_zone p b z n)) (only_in z n)
  zone_recounted = record {
    zones = refl;
    files = files_between p kept_one (omega arith) (omega arith);
    bit = λ s l. bit_kept p.sectortable s kept_one (inr (omega arith));
    none = λ y l lo e. elim (ℕ_discrete y z) [
      | yes q ↦ (let zero' : n ≡ 0 = omega (arith, only_eq y z n q) in rw q (one_here ∙ rw zero'))
      | no ne ↦ one_there y (omega arith) (omega arith) ne
    ];
    some = λ y l lo e. elim (ℕ_discrete y z) [
      | yes q ↦ rw (only_eq y z n q, q) (one_here ∙ rw (lt-ltb 0 n (omega (arith, only_eq y z n q))))
      | no ne ↦ absurd (omega (arith, only_ne y z n ne))
    ];
    first = one_there 1 (omega arith) (omega arith) (λ q. omega arith);
    last = one_there p.zones (omega arith) (omega arith) (λ q. omega arith);
  }

  pub zone_quiet : Quiet p b (recount_zone p b z n)
  zone_quiet = record {
    len = kept_one.len;
    low = λ j l. kept_one.out j (inl (omega arith));
    tails = λ s h. record { zone = λ j l. kept_one.out _ (inr (omega arith)) ∙ h.zone j l; sector = λ j l. kept_one.out _ (inr (omega arith)) ∙ h.sector j l };
  }

-- ---- all zones

module _ (p : Places) (b : List ℕ) (lay : Layout p (length b)) (freed : ℕ → ℕ) where
  pub kept_zones : (n : ℕ) → Kept b (recount_zones p b freed n) (p.zonetable + 6) (6 * n)
  unfolding recount_zones
  kept_zones zero = kept_refl b _ _
  kept_zones (suc n) =
      kept_trans (kept_wider (kept_zones n) (omega arith) (omega arith)) (kept_wider (kept_zone p (recount_zones p b freed n) (n + 2) (freed (n + 2))) (omega arith) (omega arith))

  -- zones 2 to n + 1 have their new entries
  zones_done : (n : ℕ) → n + 2 ≤ p.zones → (z : ℕ) → 2 ≤ z → z < n + 2 → zone_at p (recount_zones p b freed n) z ≡ new_entry (zone_at p b z) (freed z)
  unfolding recount_zones
  zones_done zero l z lo hi = absurd (omega arith)
  zones_done (suc n) l z lo hi =
      let b' = recount_zones p b freed n in
      elim (ℕ_discrete z (n + 2)) [
        | yes e ↦ rw e (zone_counted p b' (n + 2) (freed (n + 2)) (omega (arith, (kept_zones n).len))
            ∙ ap (λ (x : ZoneEntry). new_entry x (freed (n + 2))) (zone_kept p (n + 2) (kept_zones n) (inr (omega arith))))
        | no ne ↦ zone_kept p z (kept_zone p b' (n + 2) (freed (n + 2))) (inl (omega arith)) ∙ zones_done n (omega arith) z lo (omega arith)
      ]

  -- zones 2 to Z - 1
  abbrev n : ℕ
  n = p.zones - 2

  recount_files : SameFiles (view_of p b) (view_of p (recount_zones p b freed n))
  recount_files = files_between p (kept_zones n) (omega arith) (omega arith)

  first_stays : zone_at p (recount_zones p b freed n) 1 ≡ zone_at p b 1
  first_stays = zone_kept p 1 (kept_zones n) (inl (omega arith))

  last_stays : zone_at p (recount_zones p b freed n) p.zones ≡ zone_at p b p.zones
  last_stays = zone_kept p p.zones (kept_zones n) (inr (omega arith))

  zone_now : (z : ℕ) → z < p.zones → 2 ≤ z → zone_at p (recount_zones p b freed n) z ≡ new_entry (zone_at p b z) (freed z)
  zone_now z l lo = zones_done n (omega arith) z lo (omega arith)

  pub recount_view : Recounted (view_of p b) (view_of p (recount_zones p b freed (p.zones - 2))) freed
  recount_view = record {
    zones = refl;
    files = recount_files;
    bit = λ s l. bit_kept p.sectortable s (kept_zones n) (inr (omega arith));
    none = λ z l lo e. zone_now z l lo ∙ rw e;
    some = λ z l lo e. zone_now z l lo ∙ rw (lt-ltb 0 (freed z) e);
    first = first_stays;
    last = last_stays;
  }

  pub recount_quiet : Quiet p b (recount_zones p b freed (p.zones - 2))
  recount_quiet =
      let k = kept_zones n in
      record {
        len = k.len;
        low = λ j l. k.out j (inl (omega arith));
        tails = λ s h. record { zone = λ j l. k.out _ (inr (omega arith)) ∙ h.zone j l; sector = λ j l. k.out _ (inr (omega arith)) ∙ h.sector j l };
      }
