-- Cards P12 and P13, two files that grow in turn: books and views after each step, and what is computed on them.
use mathlib.Core.Path.{◌≡◌, refl}
use mathlib.Core.Bool.{cond}
use mathlib.Core.List.{[], ◌∷◌}
use Prim.Native.Nat.{ℕ, zero, suc, ◌+◌, ◌-◌, ◌*◌, ◌≤◌, ◌<◌}
use native.Mathlib.Omega.{arith}
use lib.Dec.{eqb}
use Rattle.field.specs.Sum.{sum_to}
use Rattle.tables.specs.Blocks.{block_of, per_zone}
use Rattle.tables.specs.Format.{formatted}
use Rattle.tables.specs.Indexes.{table_at, slots_of, base_of}
use Rattle.tables.specs.Kinds.{first_of}
use Rattle.tables.specs.Views.{View, cov}
use Rattle.tables.specs.Zones.{put_zone}
use Rattle.allocation.specs.declared.choice.Found.{Found}
use Rattle.allocation.specs.declared.growth.Cursor.{Cursor}
use Rattle.histories.specs.Cards.{done, pointers_in, run, CreateCell, GrowTo, RemoveGives, DeleteGives, one_d, label, blank, fresh, begun1, begun2, grown1, grown2, removed1, deleted1, joined2}
use Rattle.histories.proofs.ReleasedView.{freed_in, released_view, Alone, TwoRuns, two_claims, typed_blocks}
use Rattle.histories.proofs.CardBooks.{view, with_cell_view, roomy, taken, Usable, fresh4, Makes, makes_cell}
use Rattle.histories.proofs.CardGrowth.{longer_view, lacking, Grows, grows}
use Rattle.histories.proofs.CardDeletes.{removed_view, removes, deletes}

-- ---- begun, and grown in turn

-- the n-th block of zone 2, taken after n others
abbrev block_d : ℕ → Found
block_d n = record { zone = record { 0 = 2 }; number = n; free = 255 - n }

-- file f's pointers end with the slot-th of its parent, which is to c sectors from s on
abbrev ending : ℕ → ℕ → ℕ → ℕ → Cursor
ending f s c slot = record { tail = record { last = run s c; slot = slot; capacity = 10; tables = 0 }; table = record { 0 = f } }

pub view_begun1 : View
unfolding with_cell_view view blank formatted label put_zone table_at
view_begun1 = with_cell_view (view 5120 4) (block_d 0) 2

pub view_begun2 : View
unfolding with_cell_view view_begun1
view_begun2 = with_cell_view view_begun1 (block_d 1) 3

pub view_grown1 : View
unfolding longer_view view_begun2
view_grown1 = longer_view view_begun2 1 8192 (ending 1 1024 4 1) (block_d 2)

pub view_grown2 : View
unfolding longer_view view_grown1
view_grown2 = longer_view view_grown1 2 8192 (ending 2 1028 4 1) (block_d 3)

pub making1 : Makes 4 (CreateCell (fresh 5120 4) 4096) (done 1) begun1 view_begun1
unfolding begun1 view_begun1 view roomy taken one_d
making1 = makes_cell (view 5120 4) (block_d 0) 2 refl refl 4 (fresh 5120 4) fresh4.usable refl refl 1 refl

pub making2 : Makes 4 (CreateCell begun1 4096) (done 2) begun2 view_begun2
unfolding begun2 view_begun2 view_begun1 roomy taken one_d
making2 = makes_cell view_begun1 (block_d 1) 3 refl refl 4 begun1 making1.usable refl refl 2 refl

grows1 : Grows view_begun2 1 8192 (ending 1 1024 4 1) (block_d 2)
unfolding view_begun2 roomy taken one_d lacking
grows1 = record { word = refl; attribute = refl; length' = refl; lacks = refl; room = refl; cursor = refl; block = refl; tables = refl }

pub growing1 : Makes 4 (GrowTo begun2 1 8192) 0 grown1 view_grown1
unfolding grown1 view_grown1
growing1 = grows 4 begun2 view_begun2 making2.usable 1 8192 (omega arith) (omega arith) (omega arith) _ _ grows1

grows2 : Grows view_grown1 2 8192 (ending 2 1028 4 1) (block_d 3)
unfolding view_grown1 roomy taken one_d lacking
grows2 = record { word = refl; attribute = refl; length' = refl; lacks = refl; room = refl; cursor = refl; block = refl; tables = refl }

pub growing2 : Makes 4 (GrowTo grown1 2 8192) 0 grown2 view_grown2
unfolding grown2 view_grown2
growing2 = grows 4 grown1 view_grown1 growing1.usable 2 8192 (omega arith) (omega arith) (omega arith) _ _ grows2

pub tables12 : (pointers_in 1 (view_grown2.table 1) ≡ run 1024 4 ∷ run 1032 4 ∷ []) × (pointers_in 2 (view_grown2.table 2) ≡ run 1028 4 ∷ run 1036 4 ∷ [])
unfolding view_grown2 pointers_in base_of slots_of
tables12 = (refl, refl)

pub zone12 : (view_grown2.zone 2).free ≡ 252
unfolding view_grown2
zone12 = refl

-- ---- file 1 deleted for a time

pub view_removed1 : View
unfolding removed_view view_grown2
view_removed1 = removed_view view_grown2 1

pub removing1 : Usable 4 removed1 view_removed1 × RemoveGives grown2 1 removed1
unfolding removed1 view_removed1
removing1 = removes 4 grown2 view_grown2 growing2.usable 1 (omega arith) (omega arith) refl refl refl

-- ---- and for good

-- its claims, and its blocks in each zone
own1 : ℕ → ℕ
unfolding cov
own1 s = cov 1024 4 s + cov 1032 4 s

unfoldable freed1 : ℕ → ℕ
freed1 z = cond (eqb z 2) 2 0

pub view_deleted1 : View
unfolding released_view view_removed1 own1 freed1
view_deleted1 = released_view view_removed1 1 own1 freed1

two1 : TwoRuns 1 (view_removed1.table 1) 1024 4 1032 4
unfolding view_removed1 slots_of base_of sum_to
two1 = record { word = refl; slots = refl; first' = (refl, refl); second = (refl, refl); rest = refl; bare = refl }

types1 : ((view_removed1.zone 2).ztype ≡ 4) × ((view_removed1.zone 3).ztype ≡ 0)
unfolding view_removed1
types1 = (refl, refl)

sums1 : (sum_to (per_zone 4) (λ k. own1 (first_of 2 + k * block_of 4)) ≡ 2) × (sum_to (per_zone 0) (λ k. own1 (first_of 3 + k * block_of 0)) ≡ 0)
unfolding own1 sum_to block_of
sums1 = (refl, refl)

blocks1 : (z : ℕ) → z < 4 → 2 ≤ z → freed_in view_removed1 own1 z ≡ freed1 z
unfolding freed1
blocks1 zero hi lo = absurd (omega arith)
blocks1 (suc zero) hi lo = absurd (omega arith)
blocks1 (suc (suc zero)) hi lo = typed_blocks view_removed1 own1 2 4 2 types1.0 sums1.0
blocks1 (suc (suc (suc zero))) hi lo = typed_blocks view_removed1 own1 3 0 0 types1.1 sums1.1
blocks1 (suc (suc (suc (suc z)))) hi lo = absurd (omega arith)

alone1 : Alone view_removed1 1 own1 freed1
unfolding view_removed1 own1 freed1
alone1 = record {
  last = refl;
  claims = λ s. two_claims 1 (view_removed1.table 1) 1024 4 1032 4 s two1;
  blocks = blocks1;
  system = (refl, refl);
}

pub deleting1 : Usable 4 deleted1 view_deleted1 × DeleteGives removed1 1 deleted1
unfolding deleted1 view_deleted1
deleting1 = deletes 4 removed1 view_removed1 removing1.0 1 (omega arith) (omega arith) refl refl refl own1 freed1 alone1

-- ---- file 2 grown again

-- the block behind its end, with 253 others free
abbrev joined_d : Found
joined_d = record { zone = record { 0 = 2 }; number = 4; free = 253 }

pub view_joined2 : View
unfolding longer_view view_deleted1
view_joined2 = longer_view view_deleted1 2 12288 (ending 2 1036 4 2) joined_d

grows3 : Grows view_deleted1 2 12288 (ending 2 1036 4 2) joined_d
unfolding view_deleted1 roomy taken one_d lacking
grows3 = record { word = refl; attribute = refl; length' = refl; lacks = refl; room = refl; cursor = refl; block = refl; tables = refl }

pub joining2 : Makes 4 (GrowTo deleted1 2 12288) 0 joined2 view_joined2
unfolding joined2 view_joined2
joining2 = grows 4 deleted1 view_deleted1 deleting1.0 2 12288 (omega arith) (omega arith) (omega arith) _ _ grows3

pub table13 : pointers_in 2 (view_joined2.table 2) ≡ run 1028 4 ∷ run 1036 8 ∷ []
unfolding view_joined2 pointers_in base_of slots_of
table13 = refl

pub zones13 : ((view_deleted1.zone 2).free ≡ 254) × ((view_joined2.zone 2).free ≡ 253)
unfolding view_deleted1 view_joined2
zones13 = (refl, refl)
