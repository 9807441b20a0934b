-- Where a file's pointers end: the table there, and the last pointer.
use mathlib.Core.Path.{◌≡◌, sym, ap, ◌∙◌}
use mathlib.Core.Logic.{◌≢◌}
use mathlib.Core.List.{List}
use Prim.Native.Nat.{ℕ, ◌+◌, ◌-◌, ◌*◌, ◌≤◌, ◌<◌}
use native.Mathlib.Decide.{ℕ_discrete}
use native.Mathlib.Omega.{arith}
use Rattle.tables.specs.declared.index.Pointer.{Pointer}
use Rattle.tables.specs.Indexes.{word_of, link_of, slots_of, base_of, start_of, count_of, file_of, pointer_place}
use Rattle.tables.specs.Views.{View, Begins, walk, next}
use Rattle.tables.proofs.IndexLaws.{slots_free, base_low}
use Rattle.allocation.specs.declared.growth.Cursor.{Cursor}
use Rattle.allocation.specs.NextPointer.{place_of}
use Rattle.allocation.specs.Held.{Ends}
use Rattle.allocation.proofs.LastLaws.{slots_end}
use Rattle.allocation.proofs.ChangeLaws.{member_begins, member_file}

-- the table is the last of the file's chain
module _ (v : View) (few : v.indexes ≤ 4096) (f : ℕ) (c : Cursor) (e : Ends v f c) where
  pub end_begins : (x : ℕ) × Begins v c.table.0 x × (x ≢ 0)
  end_begins = rw e.table at (member_begins v few f e.long e.parent e.chain e.long (omega arith))

  pub end_file : file_of c.table.0 (v.table c.table.0) ≡ f
  end_file = rw e.table at (member_file v few f e.long e.parent e.chain e.long (omega arith))

  pub end_link : link_of (v.table c.table.0) ≡ 0
  unfolding walk
  end_link = ap (next v) (sym e.table) ∙ e.chain.ends

module _ (v : View) (f : ℕ) (c : Cursor) (e : Ends v f c) where
  abbrev i : ℕ
  i = c.table.0

  abbrev t : List ℕ
  t = v.table c.table.0

  -- after a sector there is a pointer
  pub end_some : 1 ≤ c.tail.last.start.0 + c.tail.last.count → 1 ≤ c.tail.slot
  end_some l = elim (ℕ_discrete c.tail.slot 0) [ yes z ↦ absurd (omega (arith, e.none z)) | no ne ↦ omega arith ]

  -- a table that has room for a pointer is not free
  room_used : 1 ≤ c.tail.capacity → word_of t ≢ 0
  room_used l z = omega (arith, e.capacity, slots_free i t z)

  -- where one more pointer has room, one more is there
  module _ (room : c.tail.slot < c.tail.capacity) where
    pub end_more : c.tail.slot < slots_of c.table.0 (v.table c.table.0)
    end_more = omega (arith, e.capacity)

    pub next_place : pointer_place c.tail.capacity (c.tail.slot + 1) ≡ base_of c.table.0 (v.table c.table.0) + 6 * c.tail.slot
    next_place = omega (arith, e.capacity, slots_end i t (room_used (omega arith)), base_low i t)

  -- the last one reads as the cursor says
  module _ (some : 1 ≤ c.tail.slot) where
    pub last_place : place_of c.tail ≡ base_of c.table.0 (v.table c.table.0) + 6 * (c.tail.slot - 1)
    last_place = omega (arith, e.capacity, e.within, slots_end i t (room_used (omega (arith, e.within))), base_low i t)

    pub last_start : start_of c.table.0 (v.table c.table.0) (c.tail.slot - 1) ≡ c.tail.last.start.0
    last_start = rw (sym last_place) (sym (ap (λ (q : Pointer). q.start.0) (e.pointer some)))

    pub last_count : count_of c.table.0 (v.table c.table.0) (c.tail.slot - 1) ≡ c.tail.last.count
    last_count = rw (sym last_place) (sym (ap (λ (q : Pointer). q.count) (e.pointer some)))
