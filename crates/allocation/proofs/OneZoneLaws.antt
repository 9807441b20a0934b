-- One zone's entry and bits change: R2 and R3 stay where they hold of it.
use mathlib.Core.Path.{◌≡◌, ◌∙◌}
use mathlib.Core.Logic.{◌≢◌, inl, inr, ⊎_elim}
use Prim.Native.Nat.{ℕ, ◌+◌, ◌≤◌, ◌<◌}
use native.Mathlib.Decide.{ℕ_discrete, dec_lt}
use native.Mathlib.Omega.{arith}
use Rattle.tables.specs.Kinds.{first_of}
use Rattle.tables.specs.Blocks.{ZoneType, block_of}
use Rattle.tables.specs.Rules.R2.{R2, InUse}
use Rattle.tables.specs.Rules.R3.{R3, Blocks}
use Rattle.tables.specs.Views.{View, cov}
use Rattle.tables.proofs.BlockLaws.{block_of_lem}
use Rattle.tables.proofs.PointerLaws.{cov_before, cov_after}
use Rattle.tables.proofs.SameLaws.{blocks_same}

-- sectors of zone z lie in no other zone
pub cov_away : (z at n y x : ℕ) → 2 ≤ z → at + n ≤ 1024 → 1 ≤ y → y ≢ z → x < 1024 → cov (first_of z + at) n (first_of y + x) ≡ 0
cov_away z at n y x low within lo ne l =
    elim (dec_lt y z) [ yes h ↦ cov_before (first_of z + at) n (first_of y + x) (omega arith) | no h ↦ cov_after (first_of z + at) n (first_of y + x) (omega arith) ]

module _ (v v' : View) (z : ℕ) (low : 2 ≤ z) (high : z < v.zones) (zones : v'.zones ≡ v.zones)
    (entry : (y : ℕ) → 1 ≤ y → y ≤ v.zones → y ≢ z → v'.zone y ≡ v.zone y)
    (bits : (y : ℕ) → 1 ≤ y → y ≤ v.zones → y ≢ z → (x : ℕ) → x < 1024 → v'.bit (first_of y + x) ≡ v.bit (first_of y + x)) where
  pub one_R2 : InUse v' z → R2 v → R2 v'
  one_R2 used r y l lo =
      let hi : y ≤ v.zones = omega arith in
      elim (ℕ_discrete y z) [
        | yes e ↦ record { first = λ q. absurd (omega arith); last = λ q. absurd (omega arith); other = λ a b. inr (rw e used) }
        | no ne ↦ (let e = entry y lo hi ne in
            let same = bits y lo hi ne in
            let o = r y (omega arith) lo in
            record {
              first = λ q. (rw (e, zones) (o.first q).0, λ x lx. same x lx ∙ (o.first q).1 x lx);
              last = λ q. (let w = o.last (q ∙ zones) in (rw e w.0, λ x lx. same x lx ∙ w.1 x lx));
              other = λ a b. ⊎_elim (λ u. inl (record { reads = rw e u.reads; clear = λ x lx. same x lx ∙ u.clear x lx }))
                  (λ u. inr (record { typed = rw e u.typed; third = rw e u.third })) (o.other a (rw zones at b));
            })
      ]

  -- another zone's blocks
  pub other_blocks : (y : ℕ) → 2 ≤ y → y < v.zones → y ≢ z → R3 v → ZoneType (v'.zone y).ztype → Blocks v'.bit (first_of y) (block_of (v'.zone y).ztype) (v'.zone y).free
  other_blocks y lo hi ne r =
      rw (entry y (omega arith) (omega arith) ne) (λ typed.
      blocks_same v.bit v'.bit (first_of y) (block_of (v.zone y).ztype) (block_of_lem _ typed) (bits y (omega arith) (omega arith) ne) (v.zone y).free (r y hi lo typed))

  pub one_R3 : Blocks v'.bit (first_of z) (block_of (v'.zone z).ztype) (v'.zone z).free → R3 v → R3 v'
  one_R3 here r y l lo = elim (ℕ_discrete y z) [ yes e ↦ rw e (λ _. here) | no ne ↦ other_blocks y lo (rw zones at l) ne r ]
