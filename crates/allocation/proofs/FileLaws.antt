-- A new file and a file that grows: what their blocks ask is there, from what a request provides.
use mathlib.Core.Path.{◌≡◌, refl, sym, ap, ◌∙◌}
use mathlib.Core.Logic.{◌≢◌, ⊎_elim}
use mathlib.Core.List.{List, [], ◌∷◌, append-nil}
use Prim.Native.Nat.{ℕ, zero, suc, ◌+◌, ◌-◌, ◌*◌, ◌/◌, ◌%◌, ◌≤◌, ◌<◌}
use native.Mathlib.Nat.{div-le_self, mul-le-mul_right}
use native.Mathlib.Decide.{ℕ_discrete}
use native.Mathlib.Omega.{arith}
use lib.Dec.{eqb}
use lib.ListN.{length, get_or, set, replicate, length-append, length-replicate}
use Rattle.field.specs.Numbers.{u16_at}
use Rattle.field.specs.Sum.{sum_to}
use Rattle.field.proofs.Sums.{sum_le, sum_part}
use Rattle.tables.specs.declared.places.Places.{Places}
use Rattle.tables.specs.declared.kinds.Index.{Index}
use Rattle.tables.specs.Kinds.{first_of}
use Rattle.tables.specs.Blocks.{DataType, block_of, per_zone}
use Rattle.tables.specs.Indexes.{slots_of, base_of, directory_bit, system_bit, pointer_place}
use Rattle.tables.specs.Open.{is_open, open_zones}
use Rattle.tables.specs.Places.{Layout}
use Rattle.tables.specs.Room.{count_at, spare_in, spare_of, lack_of, Enough}
use Rattle.tables.specs.Sector1.{free_of, first_free_of, active_of, system_of, directory_of}
use Rattle.tables.specs.Views.{View, view_of, Begins, Free, Parent, only_if}
use Rattle.tables.specs.Lawful.{LawfulWith}
use Rattle.tables.specs.Rules.R3.{R3}
use Rattle.tables.specs.Rules.R6.{Shape}
use Rattle.tables.specs.Rules.R9.{active_one, system_one, directory_one}
use Rattle.tables.proofs.BlockLaws.{data_zone, six}
use Rattle.tables.proofs.ChoiceLaws.{ceil_enough}
use Rattle.tables.proofs.Sector1CountLaws.{only_le, tally_few, active_le, system_le, directory_le}
use Rattle.tables.proofs.IndexLaws.{slots_free, slots_in, base_low}
use Rattle.tables.proofs.LackLaws.{some_blocks, in_open, in_other, in_begun}
use Rattle.allocation.specs.declared.tail.Tail.{Tail}
use Rattle.allocation.specs.declared.growth.Cursor.{Cursor}
use Rattle.allocation.specs.Choice.{in_order, in_turn}
use Rattle.allocation.specs.NextPointer.{no_pointer}
use Rattle.allocation.specs.Plans.{tables_for}
use Rattle.allocation.specs.NewTables.{New, put_new_parent, count_file}
use Rattle.allocation.specs.Growth.{Growth, add_block}
use Rattle.allocation.specs.Last.{last_table, used_pointers, cursor_of}
use Rattle.allocation.specs.Stock.{Stocked, Plannable}
use Rattle.allocation.specs.Steps.{SameCounts, Made}
use Rattle.allocation.specs.Ready.{Head, InTable, Chained, Ready}
use Rattle.allocation.specs.MadeFiles.{only_counts, ProvidedWith, started, created, put_change, grown}
use Rattle.allocation.proofs.FindLaws.{either}
use Rattle.allocation.proofs.NextGround.{stocked_ground}
use Rattle.allocation.proofs.OrderLaws.{order_typed, order_enough}
use Rattle.allocation.proofs.LastLaws.{last_table_lem, used_le, used_before, slots_end, last_shape, last_some}
use Rattle.allocation.proofs.ChangeLaws.{member_begins}
use Rattle.allocation.proofs.StepLaws.{parent_popped, length_put_new_parent, length_count_file, parent_made}
use Rattle.allocation.proofs.PlanLaws.{tables_least, tables_ground}
use Rattle.allocation.proofs.ChainedLaws.{chained_head, chained_free, made_used, chained_made}

-- ---- blocks of one type

pub length_only : (t n : ℕ) → length (only_counts t n) ≡ 6
unfolding only_counts
length_only t n = refl

pub order_only : (t n : ℕ) → DataType t → in_order (only_counts t n) ≡ replicate n t
unfolding in_order only_counts only_if
order_only t n = six (λ t. in_order (only_counts t n) ≡ replicate n t)
    (append-nil (replicate n 3)) (append-nil (replicate n 4)) (append-nil (replicate n 5)) (append-nil (replicate n 6)) (append-nil (replicate n 7)) (append-nil (replicate n 8)) t

pub count_only : (t n u : ℕ) → DataType t → DataType u → count_at (only_counts t n) u ≡ only_if (eqb u t) n
unfolding only_counts
count_only t n u typed = six (λ u. count_at (only_counts t n) u ≡ only_if (eqb u t) n) refl refl refl refl refl refl u

-- the count, put at its place among zeros
pub only_put : (t n : ℕ) → DataType t → set (replicate 6 0) (8 - t) n ≡ only_counts t n
unfolding only_counts only_if
only_put t n = six (λ t. set (replicate 6 0) (8 - t) n ≡ only_counts t n) refl refl refl refl refl refl t

-- ---- how many blocks there can be

-- by R3 a zone has 1,024 free blocks at most
spare_few : (v : View) (t z : ℕ) → R3 v → 2 ≤ z → z < v.zones → DataType t → spare_in t (v.zone z) ≤ 1024
spare_few v t z r lo hi typed =
    let e = v.zone z in
    ⊎_elim (λ h. (let q = in_open t e (is_open e) refl h in omega arith))
    (λ h. elim (ℕ_discrete e.ztype t) [
      | yes is ↦ (let q = in_begun t e (is_open e) refl h is in
          let b = r z hi lo (rw is (data_zone typed)) in
          let s : ℕ = block_of e.ztype in
          omega (arith, b.number, sum_le (1024 / s) (λ k. 1 - v.bit (first_of z + k * s)) (λ k l. omega arith), div-le_self 1024 s))
      | no ne ↦ (let q = in_other t e ne in omega arith)
    ]) (either (is_open e))

-- a sum of parts none of which is more than 1,024
sum_few : (n : ℕ) (f : ℕ → ℕ) → ((k : ℕ) → k < n → f k ≤ 1024) → sum_to n f ≤ 1024 * n
unfolding sum_to
sum_few zero f h = omega arith
sum_few (suc n) f h = omega (arith, sum_few n f (λ k l. h k (omega arith)), h n (omega arith))

spares_few : (v : View) (t : ℕ) → R3 v → v.zones ≤ 256 → DataType t → spare_of v t ≤ 260096
unfolding spare_of
spares_few v t r most typed = omega (arith, sum_few (v.zones - 2) (λ i. spare_in t (v.zone (i + 2))) (λ i l. spare_few v t (i + 2) r (omega arith) (omega arith) typed))

open_few : (v : View) → v.zones ≤ 256 → open_zones v ≤ 254
unfolding open_zones
open_few v most = omega (arith, sum_le (v.zones - 2) (λ k. only_if (is_open (v.zone (k + 2))) 1) (λ k l. only_le (is_open (v.zone (k + 2))) 1))

-- what can be supplied of one type: the free blocks, and open zones of 1,024 blocks at most
lack_few : (v : View) (t n : ℕ) → R3 v → v.zones ≤ 256 → DataType t → lack_of v t n ≤ 254 → n ≤ 520192
unfolding lack_of
lack_few v t n r most typed h =
    let per : ℕ = per_zone t in
    omega (
      arith,
      ceil_enough (n - spare_of v t) per (some_blocks t typed),
      spares_few v t r most typed,
      h,
      mul-le-mul_right {m = per} {n = 1024} (lack_of v t n) (div-le_self 1024 (block_of t)),
    )

supplied_few : (v : View) (c : ℕ → ℕ) → R3 v → v.zones ≤ 256 → Enough v c → (t : ℕ) → DataType t → c t ≤ 520192
supplied_few v c r most enough t typed =
    let e : t - 3 + 3 ≡ t = omega (arith, typed.low) in
    lack_few v t (c t) r most typed (rw e at (let q = sum_part 6 (t - 3) (λ i. lack_of v (i + 3) (c (i + 3))) (omega (arith, typed.high)) in
    let l : lack_of v (t - 3 + 3) (c (t - 3 + 3)) ≤ 254 = omega (arith, q, enough, open_few v most) in l))

order_few : (ns : List ℕ) → ((i : ℕ) → i < length ns → get_or ns i 0 ≤ 520192) → length (in_order ns) ≤ 520192 * length ns
unfolding in_order
order_few [] h = omega arith
order_few (n ∷ ns) h =
    omega (arith, length-append (replicate n (length ns + 3)) (in_order ns), length-replicate n (length ns + 3), h 0 (omega arith), order_few ns (λ i l. h (suc i) (omega arith)))

module _ (p : Places) (b : List ℕ) (counts : List ℕ) (layout : Layout p (length b)) {extra : ℕ → ℕ} (lawful : LawfulWith extra p b) (six : length counts ≡ 6) (room : Enough (view_of p b) (count_at counts)) where
  order_most : length (in_order counts) ≤ 3121152
  order_most = omega (
    arith,
    order_few counts (λ i l. (let e : 8 - (8 - i) ≡ i = omega arith in
        rw e at (supplied_few (view_of p b) (count_at counts) lawful.r3 layout.most room (8 - i) (record { low = omega arith; high = omega arith })))),
  )

  order_stocked : Stocked (view_of p b) (in_order counts)
  order_stocked = record { r2 = lawful.r2; r3 = lawful.r3; typed = order_typed counts six; enough = order_enough (view_of p b) counts six room }

  pub plannable_start : (l : Tail) → l.last.count ≤ 32767 → l.tables ≤ 1 → Plannable p b l (in_order counts)
  plannable_start l count tables = record {
    layout = layout;
    stocked = order_stocked;
    count = count;
    few = omega (arith, order_most);
  }

-- ---- a new file

pub chained_lawful : (p : Places) (b : List ℕ) {extra : ℕ → ℕ} → LawfulWith extra p b → Chained p b
chained_lawful p b h = record { r4 = h.r4; free = h.r9.free }

-- it takes one table at least
tables_head : (p : Places) (b ts : List ℕ) → Chained p b → tables_for p b no_pointer ts ≤ free_of b → Head p b
tables_head p b ts c l = chained_head p b c (omega (arith, tables_least p b no_pointer ts))

pub provided_head : (p : Places) (b counts : List ℕ) {extra : ℕ → ℕ} → ProvidedWith extra p b no_pointer counts → Head p b
provided_head p b counts h = tables_head p b (in_order counts) (chained_lawful p b h.lawful) h.tables

-- what the parent's making leaves of sector 1: the counts can be raised
module _ (p : Places) (b counts name date : List ℕ) (long attribute : ℕ) (x : List ℕ) {extra : ℕ → ℕ} (h : ProvidedWith extra p b no_pointer counts) (ln : length name ≤ 24) (ld : length date ≡ 6)
    (ex : x ≡ put_new_parent p b (record { name = name; date = date; length = long; attribute = attribute })) where
  abbrev n : New
  n = record { name = name; date = date; length = long; attribute = attribute }

  left : SameCounts (view_of p b) (view_of p (put_new_parent p b n))
  left = (parent_popped p b n h.layout (provided_head p b counts h) ln ld).counts

  pub start_active : active_of x < 4294967295
  start_active = rw ex (omega (arith, left.active, h.lawful.r9.active, tally_few (view_of p b) active_one active_le, h.layout.few))

  pub start_system : system_of x + attribute / 64 % 2 < 65536
  start_system = rw ex (omega (arith, left.system, h.lawful.r9.system, tally_few (view_of p b) system_one system_le, h.layout.few))

  pub start_directory : directory_of x + attribute / 32 % 2 < 65536
  start_directory = rw ex (omega (arith, left.directory, h.lawful.r9.directory, tally_few (view_of p b) directory_one directory_le, h.layout.few))

pub start_is : (p : Places) (b name date x y : List ℕ) (long attribute : ℕ) (f : Index) → f.0 ≡ first_free_of b
    → x ≡ put_new_parent p b (record { name = name; date = date; length = long; attribute = attribute }) → y ≡ count_file x (attribute / 64 % 2) (attribute / 32 % 2) date
    → ◌≡◌ {A = Growth} (record { books = y; cursor = record { tail = no_pointer; table = f } }) (started p b (record { name = name; date = date; length = long; attribute = attribute }))
unfolding started
start_is p b name date x y long attribute f ef ex ey = rw (ey, ex, ← ef)

-- the file has its parent
pub started_cursor : (p : Places) (b : List ℕ) (n : New) → (started p b n).cursor ≡ record { tail = no_pointer; table = record { 0 = first_free_of b } }
unfolding started
started_cursor p b n = refl

module _ (p : Places) (b : List ℕ) (n : New) (layout : Layout p (length b)) (head : Head p b) (name : length n.name ≤ 24) (date : length n.date ≡ 6) where
  pub started_made : Made (view_of p b) (view_of p (started p b n).books) n (system_bit n.attribute) (directory_bit n.attribute)
  unfolding started
  started_made = parent_made p b n (system_bit n.attribute) (directory_bit n.attribute) layout head name date

  started_layout : Layout p (length (started p b n).books)
  unfolding started
  started_layout =
      let l = length_put_new_parent p b n layout head name date in
      rw (length_count_file p (put_new_parent p b n) (system_bit n.attribute) (directory_bit n.attribute) n.date (rw l layout) date, l) layout

-- blocks of these types are then to be added; of the rules only those of zones, blocks and the free chain are asked
module _ (p : Places) (b ts : List ℕ) (n : New) (layout : Layout p (length b)) (stocked : Stocked (view_of p b) ts) (chained : Chained p b) (few : length ts < 1099511627776)
    (tables : tables_for p b no_pointer ts ≤ free_of b) (name : length n.name ≤ 24) (date : length n.date ≡ 6) where
  pub begun_head : Head p b
  begun_head = tables_head p b ts chained tables

  abbrev made : Made (view_of p b) (view_of p (started p b n).books) n (system_bit n.attribute) (directory_bit n.attribute)
  made = started_made p b n layout begun_head name date

  abbrev long : Layout p (length (started p b n).books)
  long = started_layout p b n layout begun_head name date

  begun_free : Free (view_of p b) (first_free_of b)
  begun_free = chained_free p b chained (λ z. omega (arith, begun_head.low))

  pub begun_ready : Ready p (first_free_of b) (started p b n) ts
  begun_ready =
      let b' = (started p b n).books in
      record {
        layout = long;
        stocked = stocked_ground (view_of p b) (view_of p b') made.ground ts stocked;
        chained = chained_made p b b' n _ _ made name date begun_free chained;
        low = rw (started_cursor p b n) begun_head.low;
        high = rw (started_cursor p b n) begun_head.high;
        used = rw (started_cursor p b n) (made_used p b b' n _ _ made name date begun_free);
        tail = rw (started_cursor p b n) (record { count = omega arith; within = omega arith; most = omega arith; from = omega arith });
        few = rw (started_cursor p b n) (omega (arith, few));
        enough = rw (started_cursor p b n) (omega (arith, tables_ground p p b b' no_pointer ts layout long made.ground stocked, tables, made.free, begun_head.some));
        file = omega (arith, begun_head.high, layout.few);
      }

pub ready_start : (p : Places) (b counts : List ℕ) (n : New) {extra : ℕ → ℕ} → ProvidedWith extra p b no_pointer counts → length n.name ≤ 24 → length n.date ≡ 6
    → Ready p (first_free_of b) (started p b n) (in_order counts)
ready_start p b counts n h =
    begun_ready p b (in_order counts) n h.layout (order_stocked p b counts h.layout h.lawful h.six h.room) (chained_lawful p b h.lawful)
    (omega (arith, order_most p b counts h.layout h.lawful h.six h.room)) h.tables

-- ---- a file that grows

-- the last of a table's pointers
module _ (v : View) (i : ℕ) (t : List ℕ) (s : Shape v i t) (some : 1 ≤ used_pointers i t) where
  place_is : pointer_place (slots_of i t) (used_pointers i t) ≡ base_of i t + 6 * (used_pointers i t - 1)
  place_is = omega (arith, used_le i t, base_low i t, slots_end i t (λ z. omega (arith, used_le i t, slots_free i t z)))

  last_few : u16_at t (pointer_place (slots_of i t) (used_pointers i t) + 4) ≤ 32767
  last_few = rw place_is (s.used (used_pointers i t - 1) (omega (arith, used_le i t)) (used_before i t (used_pointers i t - 1) (omega arith))).few

module _ (p : Places) (b : List ℕ) (f : ℕ) (lay : Layout p (length b)) {extra : ℕ → ℕ} (law : LawfulWith extra p b) (parent : Parent (view_of p b) f) where
  abbrev v : View
  v = view_of p b

  abbrev i : ℕ
  i = last_table v f

  last_begins : (w : ℕ) × Begins v i w × (w ≢ 0)
  last_begins =
      let n = law.r5.long f in
      rw (last_table_lem v f n parent (law.r5.chain f parent)) at (member_begins v lay.few f n parent (law.r5.chain f parent) n (omega arith))

  abbrev shape : Shape v i (v.table i)
  shape = last_shape v f law.r5 law.r6 parent

  abbrev some : 1 ≤ used_pointers i (v.table i)
  some = last_some v f law.r5 law.r6 parent

  cursor_in_table : InTable (cursor_of p b f).tail
  unfolding cursor_of
  cursor_in_table = record {
    count = last_few v i (v.table i) shape some;
    within = used_le i (v.table i);
    most = omega (arith, slots_in i (v.table i), base_low i (v.table i));
    from = omega (arith, place_is v i (v.table i) shape some, base_low i (v.table i));
  }

  pub cursor_bounds : ((cursor_of p b f).tail.last.count ≤ 32767) × ((cursor_of p b f).tail.tables ≤ 1)
  unfolding cursor_of
  cursor_bounds = (last_few v i (v.table i) shape some, omega arith)

pub ready_grow : (p : Places) (b : List ℕ) (f : ℕ) (counts : List ℕ) {extra : ℕ → ℕ} → ProvidedWith extra p b (cursor_of p b f).tail counts → Parent (view_of p b) f
    → Ready p f (record { books = b; cursor = cursor_of p b f }) (in_order counts)
unfolding cursor_of
ready_grow p b f counts h parent =
    let l = last_begins p b f h.layout h.lawful parent in
    record {
      layout = h.layout;
      stocked = order_stocked p b counts h.layout h.lawful h.six h.room;
      chained = chained_lawful p b h.lawful;
      low = l.1.low;
      high = l.1.high;
      used = λ z. l.2 (sym l.1.word ∙ z);
      tail = cursor_in_table p b f h.layout h.lawful parent;
      few = omega (arith, order_most p b counts h.layout h.lawful h.six h.room);
      enough = omega (arith, h.tables);
      file = omega (arith, parent.high, h.layout.few);
    }

-- ---- the ways out of the functions

module _ (p : Places) (b counts name date : List ℕ) (long attribute : ℕ) (x : List ℕ) (f : Index) (t : Tail) (ef : f.0 ≡ first_free_of b)
    (ex : ◌≡◌ {A = Growth} (record { books = x; cursor = record { tail = no_pointer; table = f } }) (started p b (record { name = name; date = date; length = long; attribute = attribute })))
    (et : t ≡ no_pointer) where
  abbrev file : New
  file = record { name = name; date = date; length = long; attribute = attribute }

  create_from : ◌≡◌ {A = Growth} (record { books = x; cursor = record { tail = t; table = f } }) (started p b file)
  create_from = rw et ex

  pub create_ready : {extra : ℕ → ℕ} → ProvidedWith extra p b no_pointer counts → length name ≤ 24 → length date ≡ 6 → Ready p f.0 (record { books = x; cursor = record { tail = t; table = f } }) (in_order counts)
  create_ready h ln ld = rw (create_from, ef) (ready_start p b counts file h ln ld)

  pub create_is : (y : List ℕ) (r : Cursor)
      → ◌≡◌ {A = Growth} (record { books = y; cursor = r }) (in_turn (add_block p f.0) (in_order counts) (record { books = x; cursor = record { tail = t; table = f } }))
      → y ≡ created p b file counts
  unfolding created
  create_is y r ey =
      let e : ◌≡◌ {A = Growth} (record { books = y; cursor = r }) (in_turn (add_block p (first_free_of b)) (in_order counts) (started p b file)) = rw (create_from, ef) at ey in
      ap (λ (g : Growth). g.books) e

module _ (p : Places) (b : List ℕ) (f : ℕ) (counts : List ℕ) (c : Cursor) (ec : c ≡ cursor_of p b f) where
  pub grow_ready : {extra : ℕ → ℕ} → ProvidedWith extra p b (cursor_of p b f).tail counts → Parent (view_of p b) f → Ready p f (record { books = b; cursor = c }) (in_order counts)
  grow_ready h parent = rw ec (ready_grow p b f counts h parent)

  pub grow_is : (x y date : List ℕ) (long : ℕ) (r : Cursor)
      → ◌≡◌ {A = Growth} (record { books = x; cursor = r }) (in_turn (add_block p f) (in_order counts) (record { books = b; cursor = c }))
      → y ≡ put_change p x f long date → y ≡ grown p b f counts long date
  unfolding grown
  grow_is x y date long r ex ey =
      let e : ◌≡◌ {A = Growth} (record { books = x; cursor = r }) (in_turn (add_block p f) (in_order counts) (record { books = b; cursor = cursor_of p b f })) = rw ec at ex in
      ey ∙ ap (λ (g : Growth). put_change p g.books f long date) e
