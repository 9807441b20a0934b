-- The withheld list, gone through: what is asked of each sector is what is asked of the list, and its blocks are marked one after the other.
use mathlib.Core.Path.{◌≡◌, refl, ap, ◌∙◌}
use mathlib.Core.Bool.{Bool, true, false}
use mathlib.Core.List.{List}
use Prim.Native.Nat.{ℕ, ◌+◌, ◌≤◌, ◌<◌}
use native.Mathlib.Omega.{arith}
use lib.ListN.{get_or, length, replicate, length-replicate}
use Rattle.field.specs.Sum.{sum_to}
use Rattle.field.proofs.Sums.{sum_more, sum_upto}
use Rattle.tables.specs.declared.index.Pointer.{Pointer}
use Rattle.tables.specs.declared.places.Places.{Places}
use Rattle.tables.specs.declared.zone.ZoneEntry.{ZoneEntry}
use Rattle.tables.specs.Blocks.{ZoneType, block_of}
use Rattle.tables.specs.Kinds.{zone_of}
use Rattle.tables.specs.Places.{Layout}
use Rattle.tables.specs.Views.{View, view_of, cov}
use Rattle.tables.specs.Withheld.{block_at, StartsBlock, Withholds, withheld_over}
use Rattle.tables.specs.Zones.{zone_at}
use Rattle.tables.specs.Rules.R7.{nothing}
use Rattle.tables.proofs.BlockLaws.{data_zone}
use Rattle.tables.proofs.WithheldLaws.{start_within, withheld_once}
use Rattle.marks.specs.Marks.{MarksAdded, Adds, MarksAre}
use Rattle.marks.specs.WithheldList.{first_withheld}
use Rattle.marks.proofs.MarkLaws.{zeros_clear}

-- ---- a sector

module _ (p : Places) (b : List ℕ) (s : ℕ) where
  -- the entry of its zone, as it was read
  module _ (z : ℕ) (at : z ≡ zone_of s) (e : ZoneEntry) (is : e ≡ zone_at p b z) where
    entry_type : e.ztype ≡ ((view_of p b).zone (zone_of s)).ztype
    entry_type = ap (λ (x : ZoneEntry). x.ztype) (is ∙ ap (zone_at p b) at)

    -- the block that begins there
    pub block_typed : StartsBlock (view_of p b) s → ZoneType e.ztype
    block_typed h = rw entry_type (data_zone h.typed)

    pub block_is : StartsBlock (view_of p b) s → Layout p (length b) → (size : ℕ) → size ≡ block_of e.ztype
        → (s ≡ s) × (size ≡ block_at (view_of p b) s) × (s + size ≤ 262144)
    block_is h lay size of =
        let same : size ≡ block_at (view_of p b) s = of ∙ ap block_of entry_type in
        (refl, same, omega (arith, start_within (view_of p b) s h, h.inside, lay.most))

-- ---- marks

pub zeros_are : MarksAre (replicate 4096 0) nothing
zeros_are = record { long = length-replicate {A = ℕ} 4096 0; bits = zeros_clear 4096 }

module _ (v : View) (withheld m₀ : List ℕ) where
  pub marks_begin : MarksAdded m₀ m₀ (first_withheld v withheld 0)
  unfolding first_withheld sum_to
  marks_begin = record { len = refl; bits = λ n. omega arith }

  module _ (m : List ℕ) (k : ℕ) (a : MarksAdded m₀ m (first_withheld v withheld k)) where
    -- a block of the list is met with no sector marked
    pub marks_more : Withholds v withheld → MarksAre m₀ nothing → k < length withheld → (q : Pointer) (r : Bool) (m' : List ℕ) → q.start.0 ≡ get_or withheld k 0 → q.count ≡ block_at v (get_or withheld k 0)
        → Adds r m m' (cov q.start.0 q.count) → MarksAdded m₀ m' (first_withheld v withheld (k + 1))
    unfolding first_withheld withheld_over
    marks_more h none l q r m' start count adds = go r (rw (start, count) at adds)
      where
        over : ℕ → ℕ → ℕ
        over n j = cov (get_or withheld j 0) (block_at v (get_or withheld j 0)) n

        go : (r : Bool) → Adds r m m' (cov (get_or withheld k 0) (block_at v (get_or withheld k 0))) → MarksAdded m₀ m' (λ n. sum_to (k + 1) (over n))
        go true x = record { len = x.len ∙ a.len; bits = λ n. omega (arith, x.bits n, a.bits n, sum_more k (over n)) }
        go false x = absurd (x (λ n. omega (arith, a.bits n, none.bits n, withheld_once v withheld h n, sum_upto (length withheld) k (over n) l)))

    pub marks_end : MarksAre m₀ nothing → k ≤ length withheld → length withheld ≤ k → MarksAre m (withheld_over v withheld)
    unfolding first_withheld withheld_over
    marks_end none le ge =
        let e : k ≡ length withheld = omega arith in
        let x = rw e at a in
        record { long = x.len ∙ none.long; bits = λ n. omega (arith, x.bits n, none.bits n) }
