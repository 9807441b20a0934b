-- The sectors under a table's pointers summed up, and the zone in which a file begins.
use mathlib.Core.Path.{◌≡◌, refl, ap, ◌∙◌}
use Prim.Native.Nat.{ℕ, ◌+◌, ◌*◌, ◌≤◌, ◌<◌}
use native.Mathlib.Omega.{arith}
use mathlib.Core.List.{List}
use Rattle.field.specs.Sum.{sum_to}
use Rattle.field.specs.Numbers.{u16_at, u32_at}
use Rattle.field.proofs.Sums.{sum_more}
use Rattle.tables.specs.declared.places.Places.{Places}
use Rattle.tables.specs.declared.index.Pointer.{Pointer}
use Rattle.tables.specs.declared.zone.ZoneEntry.{ZoneEntry}
use Rattle.tables.specs.Kinds.{zone_of}
use Rattle.tables.specs.Zones.{zone_at}
use Rattle.tables.specs.Indexes.{table_at, word_of, pointer_at, slots_of, base_of, start_of, count_of, sectors_of}
use Rattle.tables.specs.Views.{view_of}
use Rattle.tables.specs.Rules.R6.{R6}
use Rattle.tables.specs.Rules.R8.{file_type}
use Rattle.tables.proofs.IndexLaws.{slots_parent}

-- ---- sectors of a table

-- the sum of the first j counts of the pointers from byte `base` of t on
pub record Summed (t : List ℕ) (base j sum : ℕ) : Type 0 where
  pub total : sum ≡ sum_to j (λ n. u16_at t (base + 6 * n + 4))
  pub few : sum ≤ 65535 * j

module _ (t : List ℕ) (base : ℕ) where
  pub sectors_none : Summed t base 0 0
  unfolding sum_to
  sectors_none = record { total = refl; few = omega arith }

  pub sectors_more : (j sum : ℕ) (q : Pointer) → Summed t base j sum → q ≡ pointer_at t (base + 6 * j) → q.count < 65536 → Summed t base (j + 1) (sum + q.count)
  sectors_more j sum q h r l =
      let d : q.count ≡ u16_at t (base + 6 * j + 4) = ap (λ (x : Pointer). x.count) r in
      record { total = omega (arith, sum_more j (λ n. u16_at t (base + 6 * n + 4))); few = omega arith }

  pub sectors_all : (i j sum slots : ℕ) → Summed t base j sum → base ≡ base_of i t → slots ≡ slots_of i t → j ≤ slots → slots ≤ j → sum ≡ sectors_of i t
  unfolding sectors_of
  sectors_all i j sum slots h b e le ge =
      h.total
      ∙ ap (λ (x : ℕ). sum_to j (λ n. u16_at t (x + 6 * n + 4))) b
      ∙ ap (λ (x : ℕ). sum_to x (λ n. count_of i t n)) (let q : j ≡ slots_of i t = omega arith in q)

-- the zone in which a parent's first sector lies
first_start : (f : ℕ) (t : List ℕ) → u32_at t (base_of f t) ≡ start_of f t 0
first_start f t = ap (u32_at t) (let e : base_of f t ≡ base_of f t + 6 * 0 = omega arith in e)

module _ (p : Places) (b : List ℕ) (f : ℕ) (t : List ℕ) (base : ℕ) (q : Pointer) where
  pub parent_in : R6 (view_of p b) → 1 ≤ f → f ≤ p.indexes → word_of (table_at p b f) ≡ f → t ≡ table_at p b f → base ≡ base_of f t → q ≡ pointer_at t base → zone_of q.start.0 ≤ p.zones
  parent_in r lo hi w e d h =
      let shape = r f (omega arith) lo in
      let some : 0 < slots_of f (table_at p b f) = omega (arith, slots_parent f (table_at p b f) (λ z. omega arith) w) in
      let run = shape.used 0 some (shape.one w) in
      let a : q.start.0 ≡ start_of f (table_at p b f) 0 = rw (h, d, e) (first_start f (table_at p b f)) in
      omega (arith, run.high, run.some)

  pub parent_type : (z : ℕ) (n : ZoneEntry) → t ≡ table_at p b f → base ≡ base_of f t → q ≡ pointer_at t base → z ≡ zone_of q.start.0 → n ≡ zone_at p b z → n.ztype ≡ file_type (view_of p b) f
  unfolding file_type
  parent_type z n e d h y x = rw (x, y, h, d, e) (ap (λ (s : ℕ). (zone_at p b (zone_of s)).ztype) (first_start f (table_at p b f)))
