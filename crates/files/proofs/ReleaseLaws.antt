-- A file given back: how the loops over its tables go on, and each way out of the functions.
use mathlib.Core.Path.{◌≡◌, refl, sym, ap, ◌∙◌}
use mathlib.Core.Logic.{◌≢◌, inl, inr}
use mathlib.Core.List.{List}
use Prim.Native.Nat.{ℕ, suc, ◌+◌, ◌-◌, ◌*◌, ◌≤◌, ◌<◌}
use native.Mathlib.Numerals.{add-one}
use native.Mathlib.Decide.{ℕ_discrete}
use native.Mathlib.Omega.{arith}
use borrow.Author.Tests.{eq-eqb, ne_eqb}
use lib.Dec.{eqb}
use lib.ListN.{length}
use Rattle.field.specs.Kept.{Kept}
use Rattle.field.proofs.NumberLaws.{u32_kept}
use Rattle.field.proofs.RunLaws.{kept_set_bits}
use Rattle.field.proofs.Sums.{sum_le, sum_part}
use Rattle.tables.specs.declared.index.Pointer.{Pointer}
use Rattle.tables.specs.declared.places.Places.{Places}
use Rattle.tables.specs.Indexes.{table_at, erased, word_of, link_of, put_link, attribute_of, slots_of, base_of, pointer_at, deleted_bit}
use Rattle.tables.specs.Lawful.{LawfulWith}
use Rattle.tables.specs.Places.{Layout}
use Rattle.tables.specs.Sector1.{deleted_of, free_of, first_free_of}
use Rattle.tables.specs.Sectors.{put_sectors}
use Rattle.tables.specs.Views.{view_of, Parent, walk, next, tally}
use Rattle.tables.specs.Rules.R5.{FileChain}
use Rattle.tables.specs.Rules.R6.{R6}
use Rattle.tables.specs.Rules.R9.{free_one, deleted_one}
use Rattle.tables.proofs.ChainLaws.{walk_none}
use Rattle.tables.proofs.Sector1CountLaws.{only_le, ones_deleted}
use Rattle.tables.proofs.FrameLaws.{table_kept}
use Rattle.tables.proofs.IndexLaws.{slots_in}
use Rattle.allocation.specs.Last.{last_table}
use Rattle.allocation.proofs.LastLaws.{file_short}
use Rattle.files.specs.Release.{chain_of, file_tables, clear_runs, clear_header, free_table, free_tables, put_freed, freed_file, freed_blocks, recount_zones, released}
use Rattle.files.specs.Freed.{AllShort}
use Rattle.files.specs.Asked.{RunsWithin}
use Rattle.files.proofs.FileTables.{tables_in, tables_long}
use Rattle.files.proofs.FreedBytes.{kept_clear, table_runless, free_first, free_all, table_spared, table_link, Blanked, blanked_table, blanked_within, tables_blanked}
use Rattle.files.proofs.FreedView.{all_freed, linked_spared}
use Rattle.files.proofs.ReleasedLawful.{freed_short}

-- ---- a table's sectors

-- the sectors of j pointers of table i are freed; the table has n places for pointers, the first at byte `at`
pub record Clearing (p : Places) (b : List ℕ) (i n at : ℕ) (x : List ℕ) (j : ℕ) : Type 0 where
  pub layout : Layout p (length b)
  pub within : RunsWithin p i (table_at p b i)
  pub slots : n ≡ slots_of i (table_at p b i)
  pub base : at ≡ base_of i (table_at p b i)
  pub few : j ≤ n
  pub books : x ≡ clear_runs p b i (table_at p b i) j
  pub len : length x ≡ length b

pub clearing_none : (p : Places) (b : List ℕ) (i n at : ℕ) (t u : List ℕ) → Layout p (length b) → RunsWithin p i (table_at p b i) → t ≡ table_at p b i → n ≡ slots_of i t
    → u ≡ table_at p b i → at ≡ base_of i u → Clearing p b i n at b 0
unfolding clear_runs
clearing_none p b i n at t u lay w et en eu ea = record {
  layout = lay;
  within = w;
  slots = en ∙ ap (slots_of i) et;
  base = ea ∙ ap (base_of i) eu;
  few = omega arith;
  books = refl;
  len = refl;
}

module _ (p : Places) (b : List ℕ) (i n at : ℕ) (x : List ℕ) (j : ℕ) (h : Clearing p b i n at x j) where
  pub clearing_end : n ≤ j → x ≡ clear_runs p b i (table_at p b i) (slots_of i (table_at p b i))
  clearing_end l = h.books ∙ ap (clear_runs p b i (table_at p b i)) (let q : j ≡ n = omega (arith, h.few) in q ∙ h.slots)

  module _ (l : j < n) where
    below : j < slots_of i (table_at p b i)
    below = omega (arith, h.slots)

    -- each pointer lies in its table
    pub clearing_place : at + 6 * j + 6 ≤ 128
    clearing_place = omega (arith, below, h.base, slots_in i (table_at p b i))

    module _ (t : List ℕ) (q : Pointer) (et : t ≡ table_at p x i) (eq : q ≡ pointer_at t (at + 6 * j)) where
      -- the pointers are still as they were
      read : q ≡ pointer_at (table_at p b i) (base_of i (table_at p b i) + 6 * j)
      read =
          let k = rw (← h.books) at (kept_clear p b i (table_at p b i) h.within j (omega (arith, below))) in
          rw (et ∙ table_kept p i k (inr (omega (arith, h.layout.index))), h.base) at eq

      pub clearing_room : q.start.0 + q.count ≤ 1024 * p.zones
      clearing_room = rw read (h.within.runs j below)

      pub clearing_more : (y : List ℕ) → y ≡ put_sectors p x q.start.0 q.count 0 → Clearing p b i n at y (j + 1)
      unfolding clear_runs
      clearing_more y ey = record {
        layout = h.layout;
        within = h.within;
        slots = h.slots;
        base = h.base;
        few = omega arith;
        books = rw (add-one j) (rw (read, h.books) at ey);
        len = ap length ey ∙ (kept_set_bits x p.sectortable q.start.0 q.count 0).len ∙ h.len;
      }

-- ---- its header's

module _ (p : Places) (b : List ℕ) (i : ℕ) (t : List ℕ) (w : ℕ) (et : t ≡ table_at p b i) (ew : w ≡ word_of t) where
  -- a table that is no parent has none
  pub header_not : w ≢ i → b ≡ clear_header p b i (table_at p b i)
  unfolding clear_header
  header_not ne = rw (ne_eqb (word_of (table_at p b i)) i (λ e. ne (ew ∙ ap word_of et ∙ e)))

  module _ (own : w ≡ i) (u : List ℕ) (q : Pointer) (eu : u ≡ table_at p b i) (eq : q ≡ pointer_at u 58) where
    word : word_of (table_at p b i) ≡ i
    word = sym (ap word_of et) ∙ sym ew ∙ own

    pub header_room : RunsWithin p i (table_at p b i) → q.start.0 + q.count ≤ 1024 * p.zones
    header_room within = rw (eq, eu) (within.header word)

    pub header_cleared : (y : List ℕ) → y ≡ put_sectors p b q.start.0 q.count 0 → y ≡ clear_header p b i (table_at p b i)
    unfolding clear_header
    header_cleared y ey = rw (eq-eqb (word_of (table_at p b i)) i word) (rw (eq, eu) at ey)

-- ---- a table

module _ (p : Places) (b : List ℕ) (i : ℕ) (lay : Layout p (length b)) (inside : (1 ≤ i) × (i ≤ p.indexes)) (within : RunsWithin p i (table_at p b i))
    (x : List ℕ) (ex : x ≡ clear_runs p b i (table_at p b i) (slots_of i (table_at p b i))) where
  -- with the sectors under its pointers free the table is still as it was
  still : table_at p x i ≡ table_at p b i
  still = rw ex (table_runless p b i lay inside.0 inside.1 within)

  pub header_within : RunsWithin p i (table_at p x i)
  header_within = rw still within

  pub table_freed : (y z : List ℕ) → y ≡ clear_header p x i (table_at p x i) → z ≡ erased p y i 124 → z ≡ free_table p b i
  unfolding free_table
  table_freed y z ey ez = rw (ey, still, ex) at ez

-- ---- a file's tables

-- n tables of the file are freed, and i is the next
pub record Freeing (p : Places) (b : List ℕ) (f : ℕ) (x : List ℕ) (i n : ℕ) : Type 0 where
  pub layout : Layout p (length b)
  pub pointers : R6 (view_of p b)
  pub parent : Parent (view_of p b) f
  pub long : ℕ
  pub chain : FileChain (view_of p b) f long
  pub total : file_tables (view_of p b) f ≡ suc long
  pub most : suc long ≤ 4096
  pub few : n ≤ suc long
  pub books : x ≡ free_first p b f n
  pub len : length x ≡ length b
  pub here : walk (next (view_of p b)) f n ≡ i

pub freeing_none : (p : Places) (b : List ℕ) (f : ℕ) {extra : ℕ → ℕ} → Layout p (length b) → LawfulWith extra p b → Parent (view_of p b) f → Freeing p b f b f 0
unfolding free_first
freeing_none p b f lay h parent =
    let ch = h.r5.chain f parent in
    record {
      layout = lay;
      pointers = h.r6;
      parent = parent;
      long = h.r5.long f;
      chain = ch;
      total = tables_long (view_of p b) f (h.r5.long f) parent ch;
      most = omega (arith, file_short (view_of p b) f (h.r5.long f) parent ch);
      few = omega arith;
      books = refl;
      len = refl;
      here = walk_none (next (view_of p b)) f;
    }

module _ (p : Places) (b : List ℕ) (f : ℕ) (x : List ℕ) (i n : ℕ) (h : Freeing p b f x i n) where
  blanked : Blanked p b f n x
  blanked = rw h.books (tables_blanked p b h.layout h.pointers f h.long h.parent h.chain n h.few)

  pub freeing_layout : Layout p (length x)
  freeing_layout = rw h.len h.layout

  pub freeing_end : i ≡ 0 → (n ≡ file_tables (view_of p b) f) × (x ≡ free_tables p b (chain_of (view_of p b) f)) × (n ≤ 4096)
  freeing_end z =
      let e : n ≡ suc h.long = elim (ℕ_discrete n (suc h.long)) [
        | yes e ↦ e
        | no ne ↦ absurd (omega (arith, h.here, (tables_in (view_of p b) f h.long h.parent h.chain n (omega (arith, h.few))).0))
      ] in
      (e ∙ sym h.total, h.books ∙ ap (free_first p b f) e ∙ sym (free_all p b h.layout h.pointers f h.long h.parent h.chain), omega (arith, h.most))

  module _ (some : i ≡ 0 → ⊥) where
    going : n < suc h.long
    going = elim (ℕ_discrete n (suc h.long)) [
      | yes e ↦ absurd (some (sym h.here ∙ ap (walk (next (view_of p b)) f) e ∙ h.chain.ends))
      | no ne ↦ omega (arith, h.few)
    ]

    pub freeing_few : n < 4096
    freeing_few = omega (arith, going, h.most)

    pub freeing_in : (1 ≤ i) × (i ≤ p.indexes)
    freeing_in = rw h.here at (tables_in (view_of p b) f h.long h.parent h.chain n going)

    pub freeing_within : RunsWithin p i (table_at p x i)
    freeing_within = rw (← h.here) (blanked_within p b h.layout h.pointers f h.long h.parent h.chain n going x blanked)

    pub freeing_more : (y t : List ℕ) (r : ℕ) → y ≡ free_table p x i → t ≡ table_at p y i → r ≡ link_of t → Freeing p b f y r (n + 1)
    unfolding free_first walk
    freeing_more y t r ey et er =
        let same : table_at p x i ≡ table_at p b i
        = rw h.here at (blanked_table p b h.layout h.pointers f h.long h.parent h.chain n going x blanked) in
        let next' : r ≡ link_of (table_at p b i) = er ∙ ap link_of (et ∙ ap (λ (s : List ℕ). table_at p s i) ey)
        ∙ table_link p x i freeing_layout freeing_in.0 freeing_in.1 freeing_within ∙ ap link_of same in
        record {
          layout = h.layout;
          pointers = h.pointers;
          parent = h.parent;
          long = h.long;
          chain = h.chain;
          total = h.total;
          most = h.most;
          few = omega (arith, going);
          books = rw (add-one n) (ey ∙ ap (λ (s : List ℕ). free_table p s i) h.books ∙ ap (free_table p (free_first p b f n)) (sym h.here));
          len = ap length ey ∙ (table_spared p x i freeing_layout freeing_in.0 freeing_in.1 freeing_within).kept.len ∙ h.len;
          here = rw (add-one n) (ap (next (view_of p b)) h.here ∙ sym next');
        }

-- ---- the file

module _ (p : Places) (b : List ℕ) (lay : Layout p (length b)) {extra : ℕ → ℕ} (lawful : LawfulWith extra p b) (f : ℕ) (parent : Parent (view_of p b) f) where
  -- sector 1 counts a deleted file, and few enough free tables
  deleted_some : deleted_bit (attribute_of (table_at p b f)) ≡ 1 → 1 ≤ deleted_of b
  unfolding tally
  deleted_some gone =
      let e : f - 1 + 1 ≡ f = omega (arith, parent.low) in
      let one : deleted_one (f - 1 + 1) (table_at p b (f - 1 + 1)) ≡ 1 = rw e (ones_deleted f (table_at p b f) (λ z. omega (arith, parent.low, parent.word)) parent.word gone).deleted in
      omega (arith, lawful.r9.deleted, sum_part p.indexes (f - 1) (λ k. deleted_one (k + 1) (table_at p b (k + 1))) (omega (arith, parent.low, parent.high)), one)

  free_few : free_of b ≤ 4096
  unfolding tally free_one
  free_few = omega (arith, lawful.r9.free, sum_le p.indexes (λ k. free_one (k + 1) (table_at p b (k + 1))) (λ k l. only_le (eqb (word_of (table_at p b (k + 1))) 0) 1))

  module _ (first last n : ℕ) (x y : List ℕ) (ef : first ≡ first_free_of b) (el : last ≡ last_table (view_of p b) f) (en : n ≡ file_tables (view_of p b) f)
      (ex : x ≡ free_tables p b (chain_of (view_of p b) f)) (few : n ≤ 4096) (ey : y ≡ put_link p x last first) where
    kept : Kept b y p.sectortable (p.indextable + 128 * p.indexes - p.sectortable)
    kept = (linked_spared p b lay lawful f parent x y (rw ex (all_freed p b lay lawful f parent)) (rw (el, ef) at ey)).kept

    pub file_counts : deleted_bit (attribute_of (table_at p b f)) ≡ 1 → (1 ≤ deleted_of y) × (free_of y + n < 4294967296)
    file_counts gone =
        let d : deleted_of y ≡ deleted_of b = u32_kept 1032 kept (inl (omega arith)) in
        let e : free_of y ≡ free_of b = u32_kept 1036 kept (inl (omega arith)) in
        (omega (arith, deleted_some gone), omega (arith, free_few))

    pub file_freed : (z date : List ℕ) → z ≡ put_freed y f n date → z ≡ freed_file p b f date
    unfolding freed_file
    file_freed z date h = rw (ey, el, ef, ex, en) at h

  pub file_released : (date x y : List ℕ) → deleted_bit (attribute_of (table_at p b f)) ≡ 1 → length date ≡ 6 → x ≡ freed_file p b f date
      → ((freed : ℕ → ℕ) → AllShort (view_of p x) freed → y ≡ recount_zones p x freed (p.zones - 2)) → y ≡ released p b f date
  unfolding released
  file_released date x y gone six ex ey = rw ex at ey (freed_blocks (view_of p b) f) (freed_short p b lay lawful f parent gone date six)
