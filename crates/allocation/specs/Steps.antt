-- What the single steps of a growing file change in the view: a block taken, a pointer written, a child chained on, a parent made.
-- "Unchanged" always has its bounds: zones 1 to Z, sectors below 1024 Z, tables 1 to N.
use Rattle.std.specs.Prelude.{◌≡◌, ◌⊎◌, ◌≢◌, List, ℕ, suc, ◌+◌, ◌-◌, ◌*◌, ◌≤◌, ◌<◌, replicate}
use Rattle.field.specs.Numbers.{put_u16, put_u32}
use Rattle.field.specs.Parts.{over}
use Rattle.tables.specs.declared.index.Pointer.{Pointer}
use Rattle.tables.specs.Kinds.{first_of}
use Rattle.tables.specs.Blocks.{block_of}
use Rattle.tables.specs.Indexes.{link_of, minus}
use Rattle.tables.specs.Same.{Ground}
use Rattle.tables.specs.Views.{View, cov}
use Rattle.tables.specs.Rules.R2.{ZoneBits}
use Rattle.tables.specs.Rules.R3.{Blocks}
use Rattle.allocation.specs.declared.choice.Found.{Found}
use Rattle.allocation.specs.Choice.{block_start}
use Rattle.allocation.specs.NewTables.{New}
use Rattle.allocation.specs.Candidates.{Proper}

-- ---- sectors taken

-- block k of type t is free: in a zone of the type, or in one that is clear and so can be seen as one of the type
pub record Choosable (v : View) (t : ℕ) (k : Found) : Type 0 where
  pub proper : Proper v t k
  pub clear : (j : ℕ) → j < block_of t → v.bit (block_start t k + j) ≡ 0
  pub was : Blocks v.bit (first_of k.zone.0) (block_of t) (suc k.free)
  pub kept : ((v.zone k.zone.0).ztype ≡ t) ⊎ ZoneBits v k.zone.0 0

-- the n sectors from a on are set, and the entry of zone z, in which they lie, is (t, free, 0)
pub record Filled (v v' : View) (z t free a n : ℕ) : Type 0 where
  pub zones : v'.zones ≡ v.zones
  pub here : v'.zone z ≡ record { ztype = t; free = free; third = 0 }
  pub there : (y : ℕ) → 1 ≤ y → y ≤ v.zones → y ≢ z → v'.zone y ≡ v.zone y
  pub bit : (s : ℕ) → s < 1024 * v.zones → v'.bit s ≡ v.bit s + cov a n s

-- the block is taken
abbrev pub Taken : View → View → ℕ → Found → Type 0
Taken v v' t k = Filled v v' k.zone.0 t k.free (block_start t k) (block_of t)

-- ---- index tables

-- sector 1's counts but the free one, and the flag, stay
pub record SameCounts (v v' : View) : Type 0 where
  pub active : v'.active ≡ v.active
  pub deleted : v'.deleted ≡ v.deleted
  pub system : v'.system ≡ v.system
  pub directory : v'.directory ≡ v.directory
  pub flag : v'.flag ≡ v.flag

-- nothing of the index tables and of sector 1 changes
pub record SameFiles (v v' : View) : Type 0 where
  pub indexes : v'.indexes ≡ v.indexes
  pub head : v'.head ≡ v.head
  pub free : v'.free ≡ v.free
  pub counts : SameCounts v v'
  pub table : (i : ℕ) → 1 ≤ i → i ≤ v.indexes → v'.table i ≡ v.table i

-- a table's bytes with q for the pointer at byte `at`
abbrev pub with_pointer : List ℕ → ℕ → Pointer → List ℕ
with_pointer t at q = put_u16 (put_u32 t at q.start.0) (at + 4) q.count

-- table i has q for the pointer at byte `at`
pub record Written (v v' : View) (i at : ℕ) (q : Pointer) : Type 0 where
  pub ground : Ground v v'
  pub indexes : v'.indexes ≡ v.indexes
  pub head : v'.head ≡ v.head
  pub free : v'.free ≡ v.free
  pub counts : SameCounts v v'
  pub here : v'.table i ≡ with_pointer (v.table i) at q
  pub there : (j : ℕ) → 1 ≤ j → j ≤ v.indexes → j ≢ i → v'.table j ≡ v.table j

-- the bytes of a child of file f that has no pointer
abbrev pub child_bytes : ℕ → ℕ → List ℕ
child_bytes x f = put_u32 (put_u32 (replicate 128 0) 0 (minus x)) 4 f

-- the free chain's head is a child of file f with the pointer q, after the table `last`
pub record Extended (v v' : View) (f last : ℕ) (q : Pointer) : Type 0 where
  pub ground : Ground v v'
  pub indexes : v'.indexes ≡ v.indexes
  pub head : v'.head ≡ link_of (v.table v.head)
  pub free : v'.free ≡ v.free - 1
  pub counts : SameCounts v v'
  pub new : v'.table v.head ≡ with_pointer (child_bytes v.head f) 22 q
  pub last' : v'.table last ≡ put_u32 (v.table last) 124 v.head
  pub there : (j : ℕ) → 1 ≤ j → j ≤ v.indexes → j ≢ v.head → j ≢ last → v'.table j ≡ v.table j

-- the bytes of a parent that has no pointer
abbrev pub parent_bytes : ℕ → New → List ℕ
parent_bytes x n =
    put_u16 (put_u32 (over (over (over (put_u32 (replicate 128 0) 0 x) 4 n.name) 28 n.date) 34 n.date) 40 n.length) 44 n.attribute

-- the free chain's head is the parent of a new file, s of it a system and d a directory file
pub record Made (v v' : View) (n : New) (s d : ℕ) : Type 0 where
  pub ground : Ground v v'
  pub indexes : v'.indexes ≡ v.indexes
  pub head : v'.head ≡ link_of (v.table v.head)
  pub free : v'.free ≡ v.free - 1
  pub active : v'.active ≡ v.active + 1
  pub deleted : v'.deleted ≡ v.deleted
  pub system : v'.system ≡ v.system + s
  pub directory : v'.directory ≡ v.directory + d
  pub flag : v'.flag ≡ v.flag
  pub new : v'.table v.head ≡ parent_bytes v.head n
  pub there : (j : ℕ) → 1 ≤ j → j ≤ v.indexes → j ≢ v.head → v'.table j ≡ v.table j
