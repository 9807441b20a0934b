-- Open zones: what a zone's entry says, test by test, and their count.
use mathlib.Core.Path.{◌≡◌}
use mathlib.Core.Logic.{◌≢◌}
use mathlib.Core.Bool.{true, false}
use Prim.Native.Nat.{ℕ}
use native.Mathlib.Omega.{arith}
use lib.Dec.{eqb}
use borrow.Author.Tests.{eq-eqb, ne_eqb}
use Rattle.tables.specs.declared.zone.ZoneEntry.{ZoneEntry}
use Rattle.tables.specs.Blocks.{ZoneType, per_zone}
use Rattle.tables.specs.Open.{is_open}
use Rattle.tables.proofs.BlockLaws.{zone_type, no_zone_type}

module _ (e : ZoneEntry) where
  pub open_untyped : e.ztype ≡ 0 → true ≡ is_open e
  unfolding is_open
  open_untyped h = rw (eq-eqb e.ztype 0 h)

  pub open_other : e.ztype ≢ 0 → (ZoneType e.ztype → ⊥) → false ≡ is_open e
  unfolding is_open
  open_other ne h = rw (ne_eqb e.ztype 0 ne, no_zone_type e.ztype h)

  pub open_typed : (n : ℕ) → ZoneType e.ztype → n ≡ per_zone e.ztype → eqb e.free n ≡ is_open e
  unfolding is_open
  open_typed n h q = rw (ne_eqb e.ztype 0 (λ z. omega (arith, h.low)), zone_type e.ztype h, q)
