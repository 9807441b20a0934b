-- A file's sectors, summed table by table, and the blocks that it lacks for a length.
use mathlib.Core.Path.{◌≡◌, refl, sym, ap, ap₂, ◌∙◌}
use mathlib.Core.List.{List}
use Prim.Native.Nat.{ℕ, ◌+◌, ◌-◌, ◌*◌, ◌/◌, ◌≤◌, ◌<◌}
use native.Mathlib.Omega.{arith}
use Rattle.field.specs.Sum.{sum_to}
use Rattle.field.proofs.Sums.{sum_more}
use Rattle.tables.specs.declared.places.Places.{Places}
use Rattle.tables.specs.declared.kinds.Index.{Index}
use Rattle.tables.specs.Blocks.{ZoneType, DataType, Block, block_of}
use Rattle.tables.specs.Counts.{block_bytes}
use Rattle.tables.specs.Indexes.{table_at, start_of, count_of, file_of, sectors_of}
use Rattle.tables.specs.Views.{View, view_of, Parent, tally}
use Rattle.tables.specs.Rules.R1.{ceil}
use Rattle.tables.specs.Rules.R6.{Run, R6}
use Rattle.tables.specs.Rules.R8.{file_sectors, file_type}
use Rattle.tables.proofs.BlockLaws.{data_zone, data_block}
use Rattle.tables.proofs.ChoiceLaws.{ceil_least}
use Rattle.tables.proofs.Sector1CountLaws.{only_eq, only_ne}
use Rattle.tables.proofs.CountsLaws.{bytes_at_lem}
use Rattle.allocation.specs.MadeFiles.{own_sectors, blocks_for}
use Rattle.allocation.proofs.ChangeLaws.{parent_slots}

-- ---- of one table

module _ (f i : ℕ) (t x : List ℕ) (r : Index) (of : x ≡ t) (is : r.0 ≡ file_of i x) where
  file_is : file_of i t ≡ r.0
  file_is = ap (file_of i) (sym of) ∙ sym is

  pub own_other : (r.0 ≡ f → ⊥) → 0 ≡ own_sectors f i t
  own_other ne = sym (only_ne (file_of i t) f (sectors_of i t) (λ e. ne (sym file_is ∙ e)))

  pub own_file : (n : ℕ) → r.0 ≡ f → n ≡ sectors_of i x → n ≡ own_sectors f i t
  own_file n e en = en ∙ ap (sectors_of i) of ∙ sym (only_eq (file_of i t) f (sectors_of i t) (file_is ∙ e))

-- ---- of all tables

-- n is the sum over the first i
pub record Summing (p : Places) (b : List ℕ) (f n i : ℕ) : Type 0 where
  pub within : i ≤ p.indexes
  pub total : n ≡ sum_to i (λ k. own_sectors f (k + 1) (table_at p b (k + 1)))
  pub few : n ≤ 4294967295 * i

module _ (p : Places) (b : List ℕ) (f : ℕ) where
  pub summing_none : Summing p b f 0 0
  unfolding sum_to
  summing_none = record { within = omega arith; total = refl; few = omega arith }

  pub summing_more : (n i r : ℕ) → Summing p b f n i → i < p.indexes → (r ≡ own_sectors f (i + 1) (table_at p b (i + 1))) × (r < 4294967296) → Summing p b f (n + r) (i + 1)
  summing_more n i r h l e = record {
    within = omega arith;
    total = ap₂ (λ (x y : ℕ). x + y) h.total e.0 ∙ sym (sum_more i (λ k. own_sectors f (k + 1) (table_at p b (k + 1))));
    few = omega (arith, h.few, e.1);
  }

  pub summing_all : (n i : ℕ) → Summing p b f n i → p.indexes ≤ i → n ≡ file_sectors (view_of p b) f
  unfolding file_sectors tally
  summing_all n i h l = h.total ∙ ap (λ (k : ℕ). sum_to k (λ k. own_sectors f (k + 1) (table_at p b (k + 1)))) (let e : i ≡ p.indexes = omega (arith, h.within) in e)

-- ---- what it lacks

-- what is under a run lies in zones of type 3-8
pub run_typed : (v : View) (f : ℕ) → Run v (start_of f (v.table f) 0) (count_of f (v.table f) 0) → DataType (file_type v f)
unfolding file_type
run_typed v f run = run.typed (start_of f (v.table f) 0) (omega (arith, run.some)) (omega arith)

-- R6: a parent has a pointer
pub file_typed : (v : View) (f : ℕ) → R6 v → Parent v f → DataType (file_type v f)
file_typed v f r parent =
    let shape = r f (omega (arith, parent.high)) parent.low in
    run_typed v f (shape.used 0 (omega (arith, parent_slots v f parent)) (shape.one parent.word))

pub type_typed : (v : View) (f t : ℕ) → R6 v → Parent v f → t ≡ file_type v f → DataType t
type_typed v f t r parent e = rw e (file_typed v f r parent)

-- so that it has a block size
pub type_blocks : (v : View) (f t : ℕ) → R6 v → Parent v f → t ≡ file_type v f → ZoneType t
type_blocks v f t r parent e = data_zone (type_typed v f t r parent e)

module _ (v : View) (f long n : ℕ) (r : R6 v) (parent : Parent v f) (is : (n ≡ file_sectors v f) × (n < 17592186044416)) where
  pub lacks_none : long ≤ 1024 * n → 0 ≡ blocks_for v f long
  unfolding blocks_for
  lacks_none l =
      let t : ℕ = file_type v f in
      let bytes = bytes_at_lem t (block_of t) (file_typed v f r parent) (refl, data_block t (file_typed v f r parent)) in
      let z : long - 1024 * file_sectors v f ≡ 0 = omega (arith, is.0) in
      let none : ceil 0 (block_bytes t) ≤ 0 = ceil_least 0 (block_bytes t) 0 (omega (arith, bytes.0, bytes.1)) (omega arith) in
      rw z (omega (arith, none))

  pub lacks_some : (t size : ℕ) → t ≡ file_type v f → (size ≡ block_of t) × Block size → (long - 1024 * n + (1024 * size - 1)) / (1024 * size) ≡ blocks_for v f long
  unfolding blocks_for
  lacks_some t size et es =
      let bytes = bytes_at_lem t size (type_typed v f t r parent et) es in
      rw (← et, ← bytes.0, ← is.0)

pub lacks_few : (long have size : ℕ) → long < 4294967296 → Block size → (long - have + (1024 * size - 1)) / (1024 * size) < 4294967296
lacks_few long have size l h = omega (arith, ceil_least (long - have) (1024 * size) 4294967295 (omega (arith, h.some)) (omega (arith, h.some)))
