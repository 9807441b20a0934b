-- The rules while file f gets blocks: all of them but what R6 and R8 say of f's own parent, and with the sectors that are taken and not yet
-- under a pointer. And how the file grows.
use Rattle.std.specs.Prelude.{◌≡◌, ◌≢◌, List, ℕ, suc, ◌+◌, ◌≤◌, ◌<◌, get_or}
use Rattle.tables.specs.Each.{Each}
use Rattle.tables.specs.Indexes.{word_of, slots_of, start_of, count_of, Used, pointer_at}
use Rattle.tables.specs.Views.{View, Parent, walk, next}
use Rattle.tables.specs.Rules.R2.{R2}
use Rattle.tables.specs.Rules.R3.{R3}
use Rattle.tables.specs.Rules.R4.{R4}
use Rattle.tables.specs.Rules.R5.{R5, FileChain}
use Rattle.tables.specs.Rules.R6.{Run, HeaderLaw}
use Rattle.tables.specs.Rules.R7.{Owned}
use Rattle.tables.specs.Rules.R8.{FileLaw, file_sectors, InType}
use Rattle.tables.specs.Rules.R9.{R9}
use Rattle.allocation.specs.declared.growth.Cursor.{Cursor}
use Rattle.allocation.specs.NextPointer.{place_of}

-- R6 of index i, whose bytes are t, but that parent f may have no pointer
pub record ShapeBut (v : View) (f i : ℕ) (t : List ℕ) : Type 0 where
  pub first : (j : ℕ) → suc j < slots_of i t → Used i t (suc j) → Used i t j
  pub used : (j : ℕ) → j < slots_of i t → Used i t j → Run v (start_of i t j) (count_of i t j)
  pub one : word_of t ≡ i → i ≢ f → Used i t 0
  pub header : word_of t ≡ i → HeaderLaw v t

-- d counts what is set besides: what is taken and not yet under a pointer among it
pub record Held (v : View) (f : ℕ) (d : ℕ → ℕ) : Type 0 where
  pub r2 : R2 v
  pub r3 : R3 v
  pub r4 : R4 v
  pub r5 : R5 v
  pub r6 : Each (λ i. ShapeBut v f i (v.table i)) 1 (v.indexes + 1)
  pub r7 : Owned v d
  pub r8 : (p : ℕ) → p < v.indexes + 1 → 1 ≤ p → p ≢ f → FileLaw v p
  pub r9 : R9 v

-- file f's pointers end at the cursor: its last table has room for as many as the tail says, and has used as many, the last of which is the
-- tail's; a parent with none is a new file's
pub record Ends (v : View) (f : ℕ) (c : Cursor) : Type 0 where
  pub parent : Parent v f
  pub long : ℕ
  pub chain : FileChain v f long
  pub table : walk (next v) f long ≡ c.table.0
  pub capacity : c.tail.capacity ≡ slots_of c.table.0 (v.table c.table.0)
  pub within : c.tail.slot ≤ c.tail.capacity
  pub used : (j : ℕ) → j < c.tail.slot → Used c.table.0 (v.table c.table.0) j
  pub unused : (j : ℕ) → j < slots_of c.table.0 (v.table c.table.0) → c.tail.slot ≤ j → Used c.table.0 (v.table c.table.0) j → ⊥
  pub pointer : 1 ≤ c.tail.slot → c.tail.last ≡ pointer_at (v.table c.table.0) (place_of c.tail)
  pub none : c.tail.slot ≡ 0 → (c.tail.last.start.0 + c.tail.last.count ≡ 0) × (long ≡ 0)

-- file f has n sectors more, of type t; its parent's first 64 bytes, what stands before the pointers, stay
pub record Grown (v v' : View) (f n t : ℕ) : Type 0 where
  pub sectors : file_sectors v' f ≡ file_sectors v f + n
  pub front : (o : ℕ) → o < 64 → get_or (v'.table f) o 0 ≡ get_or (v.table f) o 0
  pub types : InType v f t → InType v' f t
