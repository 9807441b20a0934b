-- Zone entries under a frame, and after they are written.
use mathlib.Core.Path.{◌≡◌, ◌∙◌}
use mathlib.Core.Logic.{inl, inr, ⊎_elim}
use Prim.Native.Nat.{ℕ, ◌+◌, ◌-◌, ◌*◌, ◌≤◌}
use native.Mathlib.Omega.{arith}
use mathlib.Core.List.{List}
use lib.ListN.{length, replicate}
use Rattle.field.specs.Kept.{Kept, Apart}
use Rattle.field.specs.Numbers.{put_u16}
use Rattle.field.proofs.Frames.{kept_trans, kept_wider}
use Rattle.field.proofs.NumberLaws.{u16_kept, kept_put_u16, u16_put_same, u16_zeros}
use Rattle.tables.specs.declared.places.Places.{Places}
use Rattle.tables.specs.declared.zone.ZoneEntry.{ZoneEntry}
use Rattle.tables.specs.Zones.{zone_at, put_zone}

entry_is : {t t' f f' h h' : ℕ} → t ≡ t' → f ≡ f' → h ≡ h' → ◌≡◌ {A = ZoneEntry} (record { ztype = t; free = f; third = h }) (record { ztype = t'; free = f'; third = h' })
entry_is a b c = cc

-- a write outside an entry leaves it
pub zone_kept : {b b' : List ℕ} {o n : ℕ} (p : Places) (z : ℕ) → Kept b b' o n → Apart (p.zonetable + 6 * (z - 1)) 6 o n → zone_at p b' z ≡ zone_at p b z
unfolding zone_at
zone_kept {b} {b'} {o} {n} p z k a =
    let at = p.zonetable + 6 * (z - 1) in
    entry_is (u16_kept at k (⊎_elim (λ w. inl (omega arith)) (λ w. inr (omega arith)) a))
    (u16_kept (at + 2) k (⊎_elim (λ w. inl (omega arith)) (λ w. inr (omega arith)) a))
    (u16_kept (at + 4) k (⊎_elim (λ w. inl (omega arith)) (λ w. inr (omega arith)) a))

pub kept_put_zone : (p : Places) (b : List ℕ) (z t f h : ℕ) → Kept b (put_zone p b z t f h) (p.zonetable + 6 * (z - 1)) 6
unfolding put_zone
kept_put_zone p b z t f h =
    let at = p.zonetable + 6 * (z - 1) in
    let b₁ = put_u16 b at t in
    let b₂ = put_u16 b₁ (at + 2) f in
    kept_trans (kept_trans (kept_wider (kept_put_u16 b at t) (omega arith) (omega arith)) (kept_wider (kept_put_u16 b₁ (at + 2) f) (omega arith) (omega arith)))
    (kept_wider (kept_put_u16 b₂ (at + 4) h) (omega arith) (omega arith))

-- an entry reads what was written
pub zone_put : (p : Places) (b : List ℕ) (z t f h : ℕ) → p.zonetable + 6 * (z - 1) + 6 ≤ length b → zone_at p (put_zone p b z t f h) z ≡ record { ztype = t; free = f; third = h }
unfolding zone_at put_zone
zone_put p b z t f h room =
    let at = p.zonetable + 6 * (z - 1) in
    let b₁ = put_u16 b at t in
    let b₂ = put_u16 b₁ (at + 2) f in
    let k₁ = kept_put_u16 b at t in
    let k₂ = kept_put_u16 b₁ (at + 2) f in
    let k₃ = kept_put_u16 b₂ (at + 4) h in
    entry_is (u16_kept at k₃ (inl (omega arith)) ∙ u16_kept at k₂ (inl (omega arith)) ∙ u16_put_same b at t (omega arith))
    (u16_kept (at + 2) k₃ (inl (omega arith)) ∙ u16_put_same b₁ (at + 2) f (omega (arith, k₁.len)))
    (u16_put_same b₂ (at + 4) h (omega (arith, k₁.len, k₂.len)))

-- an entry of zeros
pub zone_zeros : (p : Places) (len z : ℕ) → zone_at p (replicate len 0) z ≡ record { ztype = 0; free = 0; third = 0 }
unfolding zone_at
zone_zeros p len z =
    let at = p.zonetable + 6 * (z - 1) in
    entry_is (u16_zeros len at) (u16_zeros len (at + 2)) (u16_zeros len (at + 4))
