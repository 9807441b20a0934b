-- A file given back: the rules hold, but for R3's free counts, which are short of the freed blocks.
use mathlib.Core.Path.{◌≡◌}
use Prim.Native.Nat.{ℕ, ◌≤◌, ◌<◌}
use Rattle.tables.specs.Indexes.{attribute_of, deleted_bit}
use Rattle.tables.specs.Views.{View, Parent}
use Rattle.tables.specs.Rules.R2.{R2}
use Rattle.tables.specs.Rules.R3.{R3}
use Rattle.tables.specs.Rules.R4.{R4}
use Rattle.tables.specs.Rules.R5.{R5}
use Rattle.tables.specs.Rules.R6.{R6}
use Rattle.tables.specs.Rules.R7.{Owned}
use Rattle.tables.specs.Rules.R8.{R8}
use Rattle.tables.specs.Rules.R9.{R9}
use Rattle.files.specs.Release.{freed_blocks}
use Rattle.files.specs.Freed.{Freed, Uncounted}
use Rattle.files.proofs.FreedTables.{freed_R4, freed_R5}
use Rattle.files.proofs.FreedSectors.{freed_R2, freed_short, freed_R6, freed_owned}
use Rattle.files.proofs.FreedFiles.{freed_R8, freed_R9}

pub freed_rules : (v v' : View) (f : ℕ) {extra : ℕ → ℕ} → v.indexes ≤ 4096 → ((s : ℕ) → v.bit s < 2) → R2 v → R3 v → R4 v → R5 v → R6 v → Owned v extra → R8 v → R9 v
    → Parent v f → deleted_bit (attribute_of (v.table f)) ≡ 1 → Freed v v' f → Uncounted extra v' (freed_blocks v f)
freed_rules v v' f few small r2 r3 r4 r5 r6 r7 r8 r9 parent gone h = record {
  r2 = freed_R2 v v' f h r6 r2;
  short = λ z l lo. freed_short v v' f h r6 small z (rw h.zones at l) lo r2 r3;
  r4 = freed_R4 v v' f h few r4 r5 parent;
  r5 = freed_R5 v v' f h few r5;
  r6 = freed_R6 v v' f h r6;
  r7 = freed_owned v v' f h r7;
  r8 = freed_R8 v v' f h r6 r8;
  r9 = freed_R9 v v' f h few r4 r5 parent gone r9;
}
