-- Where a file's pointers end in the books: its last table, and the last used pointer there. Grow goes on after it.
use Rattle.std.specs.Prelude.{cond, List, ℕ, zero, suc, ◌+◌, eqb}
use Rattle.tables.specs.declared.places.Places.{Places}
use Rattle.tables.specs.Indexes.{slots_of, start_of, count_of, pointer_at, pointer_place}
use Rattle.tables.specs.Views.{View, view_of, next}
use Rattle.allocation.specs.declared.growth.Cursor.{Cursor}
use Rattle.allocation.specs.Find.{find}

-- the last that links lead to from i, after n links at most: "0 ends any chain"
unfoldable pub chain_end : (ℕ → ℕ) → ℕ → ℕ → ℕ
chain_end link zero i = i
chain_end link (suc n) i = let r = chain_end link n (link i) in cond (eqb (link i) 0) i r

-- the last table of file f
unfoldable pub last_table : View → ℕ → ℕ
unfolding chain_end
last_table v f = chain_end (next v) v.indexes f

-- how many pointers of table i, whose bytes are t, are used; "used pointers come first"
unfoldable pub used_pointers : ℕ → List ℕ → ℕ
unfolding find
used_pointers i t = find (λ j. eqb (start_of i t j + count_of i t j) 0) (slots_of i t) 0

-- where file f goes on; it has taken no further table yet
unfoldable pub cursor_in : View → ℕ → Cursor
unfolding last_table used_pointers
cursor_in v f =
    let i = last_table v f in
    let capacity = slots_of i (v.table i) in
    let slot = used_pointers i (v.table i) in
    record {
      tail = record { last = pointer_at (v.table i) (pointer_place capacity slot); slot = slot; capacity = capacity; tables = 0 };
      table = record { 0 = i };
    }

-- in the books b
unfoldable pub cursor_of : Places → List ℕ → ℕ → Cursor
unfolding cursor_in
cursor_of p b f = cursor_in (view_of p b) f
