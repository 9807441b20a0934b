-- A file's parent of which bytes 34 to 45, the change date, the byte length and the attribute, may be others: the file's pointers and its header
-- pointer stay, and the rules but R9, which is asked for.
use mathlib.Core.Path.{◌≡◌, ap}
use mathlib.Core.Logic.{◌≢◌, inr}
use Prim.Native.Nat.{ℕ, ◌+◌, ◌≤◌}
use native.Mathlib.Omega.{arith}
use Rattle.field.specs.Kept.{Kept}
use Rattle.field.proofs.Frames.{kept_wider}
use Rattle.tables.specs.Same.{Ground}
use Rattle.tables.specs.Indexes.{start_of, count_of, Used}
use Rattle.tables.specs.Views.{View, Parent}
use Rattle.tables.specs.Rules.R8.{file_sectors, InType}
use Rattle.tables.specs.Rules.R9.{R9}
use Rattle.tables.proofs.FrameLaws.{header_kept, header_over_kept}
use Rattle.allocation.specs.Held.{Held}
use Rattle.allocation.proofs.PointerBytes.{word_kept}
use Rattle.allocation.proofs.ChangeLaws.{Changed, ground_header}
use Rattle.allocation.proofs.FrontLaws.{Fronted, fronted_parent, fronted_start, fronted_count, fronted_change, fronted_used, fronted_sectors, fronted_held, fronted_types}

-- of file f's parent only bytes 34 to 45 are others, of sector 1 what R9 alone sees
pub record Restated (v v' : View) (f : ℕ) : Type 0 where
  pub ground : Ground v v'
  pub indexes : v'.indexes ≡ v.indexes
  pub head : v'.head ≡ v.head
  pub here : Kept (v.table f) (v'.table f) 34 12
  pub there : (j : ℕ) → 1 ≤ j → j ≤ v.indexes → j ≢ f → v'.table j ≡ v.table j

-- they stand before its pointers
fronted : (v v' : View) (f : ℕ) → Restated v v' f → Fronted v v' f
fronted v v' f w = record { ground = w.ground; indexes = w.indexes; head = w.head; here = kept_wider w.here (omega arith) (omega arith); there = w.there }

pub restated_parent : (v v' : View) (f : ℕ) → Restated v v' f → Parent v f → Parent v' f
restated_parent v v' f w = fronted_parent v v' f (fronted v v' f w)

module _ (v v' : View) (f : ℕ) (w : Restated v v' f) (few : v.indexes ≤ 4096) (parent : Parent v f) where
  pub restated_start : (j : ℕ) → start_of f (v'.table f) j ≡ start_of f (v.table f) j
  restated_start = fronted_start v v' f (fronted v v' f w) few parent

  pub restated_count : (j : ℕ) → count_of f (v'.table f) j ≡ count_of f (v.table f) j
  restated_count = fronted_count v v' f (fronted v v' f w) few parent

  pub restated_change : Changed v v' f f
  restated_change = fronted_change v v' f (fronted v v' f w) few parent

  pub restated_used : Used f (v.table f) 0 → Used f (v'.table f) 0
  restated_used = fronted_used v v' f (fronted v v' f w) few parent

  pub restated_sectors : file_sectors v' f ≡ file_sectors v f
  restated_sectors = fronted_sectors v v' f (fronted v v' f w) few parent

  module _ {extra : ℕ → ℕ} (h : Held v f extra) where
    pub restated_held : R9 v' → Held v' f extra
    restated_held =
        let o = (h.r6 f (omega (arith, parent.high)) parent.low).header parent.word in
        fronted_held v v' f (fronted v v' f w) few parent h extra (header_kept w.here (inr (omega arith)) (ground_header v v' w.ground (v.table f) o))
        (λ s. ap (λ (n : ℕ). n + extra s) (header_over_kept f s w.here (inr (omega arith)) (word_kept f w.here (omega arith))))

    pub restated_types : (y : ℕ) → InType v f y → InType v' f y
    restated_types = fronted_types v v' f (fronted v v' f w) few parent h
