-- What an actual delete changes in the view, in two steps: the file's tables and sectors are free, then the freed blocks are counted in the
-- zone entries.
-- "Unchanged" always has its bounds: zones 1 to Z, sectors below 1024 Z, tables 1 to N.
use Rattle.std.specs.Prelude.{◌≡◌, ◌≢◌, ℕ, ◌+◌, ◌-◌, ◌*◌, ◌≤◌, ◌<◌}
use Rattle.field.specs.Parts.{AllBytes}
use Rattle.tables.specs.Kinds.{first_of}
use Rattle.tables.specs.Blocks.{ZoneType, block_of}
use Rattle.tables.specs.Indexes.{file_of}
use Rattle.tables.specs.Views.{View, next}
use Rattle.tables.specs.Each.{Each}
use Rattle.tables.specs.Rules.R2.{R2}
use Rattle.tables.specs.Rules.R3.{Blocks}
use Rattle.tables.specs.Rules.R4.{R4}
use Rattle.tables.specs.Rules.R5.{R5}
use Rattle.tables.specs.Rules.R6.{R6}
use Rattle.tables.specs.Rules.R7.{Owned}
use Rattle.tables.specs.Rules.R8.{R8}
use Rattle.tables.specs.Rules.R9.{R9}
use Rattle.allocation.specs.Steps.{SameFiles}
use Rattle.allocation.specs.Last.{last_table}
use Rattle.files.specs.Release.{file_tables, gone, recounted}

-- the tables and sectors of file f are free; zone entries stay
pub record Freed (v v' : View) (f : ℕ) : Type 0 where
  pub zones : v'.zones ≡ v.zones
  pub indexes : v'.indexes ≡ v.indexes
  pub zone : (z : ℕ) → 1 ≤ z → z ≤ v.zones → v'.zone z ≡ v.zone z
  pub bit : (s : ℕ) → s < 1024 * v.zones → v'.bit s + gone v f s ≡ v.bit s
  pub head : v'.head ≡ f
  pub there : (j : ℕ) → 1 ≤ j → j ≤ v.indexes → file_of j (v.table j) ≢ f → v'.table j ≡ v.table j
  pub blank : (j : ℕ) → 1 ≤ j → j ≤ v.indexes → file_of j (v.table j) ≡ f → AllBytes (v'.table j) 0 124 0
  pub link : (j : ℕ) → 1 ≤ j → j ≤ v.indexes → file_of j (v.table j) ≡ f → j ≢ last_table v f → next v' j ≡ next v j
  pub last : next v' (last_table v f) ≡ v.head
  pub active : v'.active ≡ v.active
  pub deleted : v'.deleted ≡ v.deleted - 1
  pub free : v'.free ≡ v.free + file_tables v f
  pub system : v'.system ≡ v.system
  pub directory : v'.directory ≡ v.directory
  pub flag : v'.flag ≡ v.flag

-- the entry of zone z is n clear blocks short; no other zone than one of type 2-8 is short of any
pub record Short (v : View) (z n : ℕ) : Type 0 where
  pub typed : ZoneType (v.zone z).ztype → Blocks v.bit (first_of z) (block_of (v.zone z).ztype) ((v.zone z).free + n)
  pub other : (ZoneType (v.zone z).ztype → ⊥) → n ≡ 0

abbrev pub AllShort : View → (ℕ → ℕ) → Type 0
AllShort v freed = Each (λ z. Short v z (freed z)) 2 v.zones

-- the rules between the two steps, with `extra` set besides: R3's free counts are short of what is freed
pub record Uncounted (extra : ℕ → ℕ) (v : View) (freed : ℕ → ℕ) : Type 0 where
  pub r2 : R2 v
  pub short : AllShort v freed
  pub r4 : R4 v
  pub r5 : R5 v
  pub r6 : R6 v
  pub r7 : Owned v extra
  pub r8 : R8 v
  pub r9 : R9 v

-- the freed blocks are counted in the zone entries
pub record Recounted (v v' : View) (freed : ℕ → ℕ) : Type 0 where
  pub zones : v'.zones ≡ v.zones
  pub files : SameFiles v v'
  pub bit : (s : ℕ) → s < 1024 * v.zones → v'.bit s ≡ v.bit s
  pub none : (z : ℕ) → z < v.zones → 2 ≤ z → freed z ≡ 0 → v'.zone z ≡ v.zone z
  pub some : (z : ℕ) → z < v.zones → 2 ≤ z → 0 < freed z → v'.zone z ≡ recounted (v.zone z) (freed z)
  pub first : v'.zone 1 ≡ v.zone 1
  pub last : v'.zone v.zones ≡ v.zone v.zones
