-- The growth of a file followed on views: what `add_block` does to the books, done to functions that compute at once.
use mathlib.Core.Path.{◌≡◌, refl, sym, ap, ◌∙◌}
use mathlib.Core.Bool.{cond}
use mathlib.Core.Logic.{◌≢◌}
use mathlib.Core.List.{List, [], ◌∷◌}
use Prim.Native.Nat.{ℕ, ◌+◌, ◌-◌, ◌*◌, ◌≤◌, ◌<◌}
use native.Mathlib.Decide.{ℕ_discrete}
use native.Mathlib.Omega.{arith}
use borrow.Author.Tests.{eq-eqb, ne_eqb}
use lib.Dec.{eqb}
use lib.ListN.{length}
use Rattle.field.specs.Numbers.{put_u16, put_u32}
use Rattle.tables.specs.declared.index.Pointer.{Pointer}
use Rattle.tables.specs.declared.places.Places.{Places}
use Rattle.tables.specs.declared.zone.ZoneEntry.{ZoneEntry}
use Rattle.tables.specs.Blocks.{block_of}
use Rattle.tables.specs.Indexes.{put_pointer, word_of, table_at, link_of}
use Rattle.tables.specs.Places.{Layout}
use Rattle.tables.specs.Same.{Same, Ground}
use Rattle.tables.specs.Sector1.{free_of, first_free_of}
use Rattle.tables.specs.Views.{View, view_of, cov}
use Rattle.tables.proofs.SameLaws.{same_ground}
use Rattle.allocation.specs.declared.choice.Found.{Found}
use Rattle.allocation.specs.declared.tail.Tail.{Tail}
use Rattle.allocation.specs.declared.tail.Pushed.{Pushed}
use Rattle.allocation.specs.declared.tail.Pushed.TheVariants.{Joined, Beside, Further}
use Rattle.allocation.specs.declared.growth.Cursor.{Cursor}
use Rattle.allocation.specs.Choice.{choose, block_start, put_block, in_turn}
use Rattle.allocation.specs.NextPointer.{push, tail_of, place_of, no_pointer}
use Rattle.allocation.specs.Plans.{tables_for}
use Rattle.allocation.specs.NewTables.{New, put_child}
use Rattle.allocation.specs.Growth.{Growth, pointed, add_block}
use Rattle.allocation.specs.Stock.{Stocked}
use Rattle.allocation.specs.Ready.{Head, HeadFor, Ready}
use Rattle.allocation.specs.Steps.{Taken, SameFiles, Written, with_pointer, Extended, child_bytes, Made, parent_bytes}
use Rattle.allocation.proofs.TurnLaws.{turn_none, turn_step}
use Rattle.allocation.proofs.ChooseLaws.{choose_ground}
use Rattle.allocation.proofs.NextGround.{ground_trans, taken_ground}
use Rattle.allocation.proofs.TakenLaws.{length_put_block, block_files}
use Rattle.allocation.proofs.StepLaws.{pointer_written, child_extended}
use Rattle.allocation.proofs.PlanLaws.{Goes, push_goes, stock_taken, stock_left, tables_step}
use Rattle.allocation.proofs.ChainedLaws.{chained_free}
use Rattle.allocation.proofs.ReadyLaws.{add_is, laid_is, here_is, further_is, pointed_joined, pointed_beside, pointed_further, head_taken, ready_proper, ready_laying, ready_step}

-- ---- the steps

-- v with another zone table and other sectors
abbrev with_ground : View → (ℕ → ZoneEntry) → (ℕ → ℕ) → View
with_ground v zone bit = record {
  zones = v.zones;
  indexes = v.indexes;
  zone = zone;
  bit = bit;
  table = v.table;
  active = v.active;
  deleted = v.deleted;
  free = v.free;
  system = v.system;
  directory = v.directory;
  head = v.head;
  flag = v.flag;
}

-- v with other index tables and another free chain
abbrev pub with_tables : View → (ℕ → List ℕ) → ℕ → ℕ → View
with_tables v table head free = record {
  zones = v.zones;
  indexes = v.indexes;
  zone = v.zone;
  bit = v.bit;
  table = table;
  active = v.active;
  deleted = v.deleted;
  free = free;
  system = v.system;
  directory = v.directory;
  head = head;
  flag = v.flag;
}

-- block k of type t is taken
unfoldable pub taken_view : View → ℕ → Found → View
unfolding block_start block_of cov
taken_view v t k =
    with_ground v (λ z. cond (eqb z k.zone.0) (record { ztype = t; free = k.free; third = 0 }) (v.zone z)) (λ s. v.bit s + cov (block_start t k) (block_of t) s)

-- table i has q for the pointer at byte `at`
unfoldable pub written_view : View → ℕ → ℕ → Pointer → View
unfolding put_u16 put_u32
written_view v i at q = with_tables v (λ j. cond (eqb j i) (with_pointer (v.table i) at q) (v.table j)) v.head v.free

-- the free chain's head is a child of file f with the pointer q, after the table `last`
unfoldable pub extended_view : View → ℕ → ℕ → Pointer → View
unfolding put_u16 put_u32
extended_view v f last q =
    with_tables v
    (λ j. cond (eqb j v.head) (with_pointer (child_bytes v.head f) 22 q) (cond (eqb j last) (put_u32 (v.table last) 124 v.head) (v.table j)))
    (link_of (v.table v.head)) (v.free - 1)

-- the free chain's head is the parent of a new file
unfoldable pub made_view : View → New → View
unfolding put_u16 put_u32
made_view v n = with_tables v (λ j. cond (eqb j v.head) (parent_bytes v.head n) (v.table j)) (link_of (v.table v.head)) (v.free - 1)

-- ---- a file that gets blocks

-- the view, and where the file's pointers end in it
pub record Sight : Type 0 where
  pub view : View
  pub cursor : Cursor

-- the tail becomes l, in the present table, or in a further child of file f
unfoldable pub sight_here : View → Cursor → Tail → Sight
unfolding written_view
sight_here v c l = record { view = written_view v c.table.0 (place_of l) l.last; cursor = record { tail = l; table = c.table } }

unfoldable pub sight_further : ℕ → View → Cursor → Tail → Sight
unfolding extended_view
sight_further f v c l = record { view = extended_view v f c.table.0 l.last; cursor = record { tail = l; table = record { 0 = v.head } } }

unfoldable pub sight_pointed : ℕ → View → Cursor → Pushed → Sight
unfolding sight_here sight_further
sight_pointed f v c (Joined l) = sight_here v c l
sight_pointed f v c (Beside l) = sight_here v c l
sight_pointed f v c (Further l) = sight_further f v c l

-- file f with block k of type t, and with the next block of type t
unfoldable pub laid_view : ℕ → ℕ → Found → Sight → Sight
unfolding taken_view push sight_pointed
laid_view f t k s = sight_pointed f (taken_view s.view t k) s.cursor (push s.cursor.tail (block_start t k) (block_of t))

unfoldable pub add_view : ℕ → ℕ → Sight → Sight
unfolding choose laid_view
add_view f t s = let k = choose s.view s.cursor.tail t in laid_view f t k s

-- a new file, whose parent is the first table taken
unfoldable pub started_view : View → New → Sight
unfolding made_view
started_view v n = record { view = made_view v n; cursor = record { tail = no_pointer; table = record { 0 = v.head } } }

-- ---- each step on views that are the same

pub at_here : {A : Type 0} (j i : ℕ) (x y : A) → j ≡ i → cond (eqb j i) x y ≡ x
at_here j i x y e = rw (eq-eqb j i e)

pub at_other : {A : Type 0} (j i : ℕ) (x y : A) → j ≢ i → cond (eqb j i) x y ≡ y
at_other j i x y ne = rw (ne_eqb j i ne)

view_taken : (w : View) (t : ℕ) (k : Found) → Taken w (taken_view w t k) t k
unfolding taken_view
view_taken w t k = record { zones = refl; here = at_here k.zone.0 k.zone.0 _ _ refl; there = λ z lo hi ne. at_other z k.zone.0 _ _ ne; bit = λ s l. refl }

module _ (v w v' : View) (a : Same v w) where
  -- what the index tables do is no matter of zones and sectors
  ground_on : Ground v v' → Ground v' w
  ground_on g = record {
    zones = a.zones ∙ sym g.zones;
    zone = λ z lo hi. (let h : z ≤ v.zones = rw g.zones at hi in a.zone z lo h ∙ sym (g.zone z lo h));
    bit = λ s l. (let h : s < 1024 * v.zones = rw g.zones at l in a.bit s h ∙ sym (g.bit s h));
  }

  pub same_taken : (t : ℕ) (k : Found) → Taken v v' t k → SameFiles v v' → Same v' (taken_view w t k)
  unfolding taken_view
  same_taken t k b f =
      let g = taken_ground v v' w (taken_view w t k) t k (same_ground a) b (view_taken w t k) in
      record {
        zones = g.zones;
        indexes = a.indexes ∙ sym f.indexes;
        zone = g.zone;
        bit = g.bit;
        table = λ i lo hi. (let h : i ≤ v.indexes = rw f.indexes at hi in a.table i lo h ∙ sym (f.table i lo h));
        head = a.head ∙ sym f.head;
      }

  pub same_tables : (table : ℕ → List ℕ) (head free : ℕ) → Ground v v' → v'.indexes ≡ v.indexes → ((j : ℕ) → 1 ≤ j → j ≤ v.indexes → table j ≡ v'.table j) → head ≡ v'.head
      → Same v' (with_tables w table head free)
  same_tables table head free ground indexes tables heads =
      let g = ground_on ground in
      record { zones = g.zones; indexes = a.indexes ∙ sym indexes; zone = g.zone; bit = g.bit; table = λ j lo hi. tables j lo (rw indexes at hi); head = heads }

  pub same_written : (i at : ℕ) (q : Pointer) → 1 ≤ i → i ≤ v.indexes → Written v v' i at q → Same v' (written_view w i at q)
  unfolding written_view
  same_written i at q lo hi b =
      same_tables _ _ _ b.ground b.indexes
      (λ j low high. elim (ℕ_discrete j i) [
        | yes e ↦ at_here j i _ _ e ∙ ap (λ (t : List ℕ). with_pointer t at q) (a.table i lo hi) ∙ sym (ap v'.table e ∙ b.here)
        | no ne ↦ at_other j i _ _ ne ∙ a.table j low high ∙ sym (b.there j low high ne)
      ]) (a.head ∙ sym b.head)

  -- the free chain loses its head in both
  head_on : 1 ≤ v.head → v.head ≤ v.indexes → v'.head ≡ link_of (v.table v.head) → link_of (w.table w.head) ≡ v'.head
  head_on lo hi e = rw a.head (ap link_of (a.table v.head lo hi)) ∙ sym e

  pub same_extended : (f last : ℕ) (q : Pointer) → 1 ≤ v.head → v.head ≤ v.indexes → 1 ≤ last → last ≤ v.indexes → Extended v v' f last q → Same v' (extended_view w f last q)
  unfolding extended_view
  same_extended f last q hlo hhi lo hi b =
      same_tables _ _ _ b.ground b.indexes
      (λ j low high. elim (ℕ_discrete j w.head) [
        | yes e ↦ at_here j w.head _ _ e ∙ ap (λ (x : ℕ). with_pointer (child_bytes x f) 22 q) a.head ∙ sym (ap v'.table (e ∙ a.head) ∙ b.new)
        | no nh ↦ at_other j w.head _ _ nh ∙ elim (ℕ_discrete j last) [
          | yes e ↦ at_here j last _ _ e ∙ rw (a.table last lo hi, a.head) refl ∙ sym (ap v'.table e ∙ b.last')
          | no ne ↦ at_other j last _ _ ne ∙ a.table j low high ∙ sym (b.there j low high (λ e. nh (e ∙ sym a.head)) ne)
        ]
      ]) (head_on hlo hhi b.head)

  pub same_made : (n : New) (s d : ℕ) → 1 ≤ v.head → v.head ≤ v.indexes → Made v v' n s d → Same v' (made_view w n)
  unfolding made_view
  same_made n s d hlo hhi b =
      same_tables _ _ _ b.ground b.indexes
      (λ j low high. elim (ℕ_discrete j w.head) [
        | yes e ↦ at_here j w.head _ _ e ∙ ap (λ (x : ℕ). parent_bytes x n) a.head ∙ sym (ap v'.table (e ∙ a.head) ∙ b.new)
        | no nh ↦ at_other j w.head _ _ nh ∙ a.table j low high ∙ sym (b.there j low high (λ e. nh (e ∙ sym a.head)))
      ]) (head_on hlo hhi b.head)

-- ---- a growing file on books and on a view

-- s shows what g is
pub record Shows (p : Places) (g : Growth) (s : Sight) : Type 0 where
  pub same : Same (view_of p g.books) s.view
  pub free : s.view.free ≡ free_of g.books
  pub cursor : s.cursor ≡ g.cursor

add_sight : (f t : ℕ) (s : Sight) → add_view f t s ≡ laid_view f t (choose s.view s.cursor.tail t) s
unfolding add_view
add_sight f t s = refl

laid_sight : (f t : ℕ) (k : Found) (s : Sight)
    → laid_view f t k s ≡ sight_pointed f (taken_view s.view t k) s.cursor (push s.cursor.tail (block_start t k) (block_of t))
unfolding laid_view
laid_sight f t k s = refl

free_taken : (w : View) (t : ℕ) (k : Found) → (taken_view w t k).free ≡ w.free
unfolding taken_view
free_taken w t k = refl

free_written : (w : View) (i at : ℕ) (q : Pointer) → (written_view w i at q).free ≡ w.free
unfolding written_view
free_written w i at q = refl

free_extended : (w : View) (f last : ℕ) (q : Pointer) → (extended_view w f last q).free ≡ w.free - 1
unfolding extended_view
free_extended w f last q = refl

module _ (f : ℕ) (w : View) (c : Cursor) (l : Tail) where
  abbrev here : Sight
  here = record { view = written_view w c.table.0 (place_of l) l.last; cursor = record { tail = l; table = c.table } }

  sight_joined : sight_pointed f w c (Joined l) ≡ here
  unfolding sight_pointed
  sight_joined = refl

  sight_beside : sight_pointed f w c (Beside l) ≡ here
  unfolding sight_pointed
  sight_beside = refl

  sight_further_lem : sight_pointed f w c (Further l) ≡ record { view = extended_view w f c.table.0 l.last; cursor = record { tail = l; table = record { 0 = w.head } } }
  unfolding sight_pointed
  sight_further_lem = refl

-- the pointer, once the block is taken
module _ (p : Places) (f : ℕ) (b : List ℕ) (c : Cursor) (w : View) (a : Same (view_of p b) w) (free : w.free ≡ free_of b) (lay : Layout p (length b))
    (low : 1 ≤ c.table.0) (high : c.table.0 ≤ p.indexes) (other : Head p b → c.table.0 ≢ first_free_of b) where
  shows_here : (l : Tail) → Shows p (record { books = put_pointer p b c.table.0 (place_of l) l.last; cursor = record { tail = l; table = c.table } }) (here f w c l)
  shows_here l =
      let q = pointer_written p b c.table.0 (place_of l) l.last lay low high (omega arith) in
      record {
        same = same_written (view_of p b) w _ a c.table.0 (place_of l) l.last low high q;
        free = free_written w c.table.0 (place_of l) l.last ∙ free ∙ sym q.free;
        cursor = refl;
      }

  shows_pointed : (r : Pushed) → Goes c.tail r → HeadFor p b r → Shows p (pointed p f b c r) (sight_pointed f w c r)
  shows_pointed (Joined l) new h = rw (pointed_joined p f b c l, here_is p f b c l, sight_joined f w c l) (shows_here l)
  shows_pointed (Beside l) new h = rw (pointed_beside p f b c l, here_is p f b c l, sight_beside f w c l) (shows_here l)
  shows_pointed (Further l) new h =
      let q : Extended (view_of p b) (view_of p (put_pointer p (put_child p b f c.table.0) (first_free_of b) (place_of l) l.last)) f c.table.0 l.last =
      rw new.0 (child_extended p b f c.table.0 l.last lay h low high (other h)) in
      rw (pointed_further p f b c l, further_is p f b c l, sight_further_lem f w c l) (record {
        same = same_extended (view_of p b) w _ a f c.table.0 l.last h.low h.high low high q;
        free = free_extended w f c.table.0 l.last ∙ ap (λ (n : ℕ). n - 1) free ∙ sym q.free;
        cursor = ap (λ (n : ℕ). record { tail = l; table = record { 0 = n } }) a.head;
      })

-- a block of type t
module _ (p : Places) (f : ℕ) (g : Growth) (s : Sight) (t : ℕ) (ts : List ℕ) (a : Shows p g s) (h : Ready p f g (t ∷ ts)) where
  pub shows_add : Shows p (add_block p f t g) (add_view f t s)
  shows_add =
      let b = g.books in
      let k = choose (view_of p b) g.cursor.tail t in
      let r = push g.cursor.tail (block_start t k) (block_of t) in
      let e : choose s.view s.cursor.tail t ≡ k = rw a.cursor (choose_ground (view_of p b) s.view (same_ground a.same) g.cursor.tail t) in
      let proper = ready_proper p f g t ts h in
      let files = block_files p b t k h.layout proper in
      rw (add_is p f t g, laid_is p f t k g, add_sight f t s, e, laid_sight f t k s, a.cursor)
      (shows_pointed p f (put_block p b t k) g.cursor (taken_view s.view t k)
      (same_taken (view_of p b) s.view _ a.same t k (stock_taken p b g.cursor.tail t ts h.layout h.stocked) files)
      (free_taken s.view t k ∙ a.free ∙ sym files.free)
      (rw (length_put_block p b t k) h.layout) h.low h.high
      (λ q z. h.used (ap (λ (n : ℕ). word_of (table_at p b n)) (z ∙ files.head) ∙ (chained_free p b h.chained (λ o. omega (arith, q.low, files.head))).word))
      r (push_goes g.cursor.tail (block_start t k) (block_of t)) (head_taken p b t k h.layout proper r (ready_laying p f g t ts h).head))

-- blocks of these types, in turn
pub shows_turn : (p : Places) (f : ℕ) (g : Growth) (s : Sight) (ts : List ℕ) → Shows p g s → Ready p f g ts → Shows p (in_turn (add_block p f) ts g) (in_turn (add_view f) ts s)
shows_turn p f g s [] a h = rw (turn_none (add_block p f) g, turn_none (add_view f) s) a
shows_turn p f g s (t ∷ ts) a h =
    rw (turn_step (add_block p f) t ts g, turn_step (add_view f) t ts s)
    (shows_turn p f (add_block p f t g) (add_view f t s) ts (shows_add p f g s t ts a h) (ready_step p f g t ts h))

-- ---- the tables that the blocks take

-- pointers change no zone and no sector, and the tail is the one that was to be written
module _ (f : ℕ) (w : View) (c : Cursor) where
  here_ground : (l : Tail) → Ground w (written_view w c.table.0 (place_of l) l.last)
  unfolding written_view
  here_ground l = record { zones = refl; zone = λ z lo hi. refl; bit = λ s h. refl }

  further_ground : (l : Tail) → Ground w (extended_view w f c.table.0 l.last)
  unfolding extended_view
  further_ground l = record { zones = refl; zone = λ z lo hi. refl; bit = λ s h. refl }

  pointed_ground : (r : Pushed) → Ground w (sight_pointed f w c r).view × ((sight_pointed f w c r).cursor.tail ≡ tail_of r)
  pointed_ground (Joined l) = rw (sight_joined f w c l) (here_ground l, refl)
  pointed_ground (Beside l) = rw (sight_beside f w c l) (here_ground l, refl)
  pointed_ground (Further l) = rw (sight_further_lem f w c l) (further_ground l, refl)

-- the view has the same ground as the books, and the tail is at the same place
pub tables_shown : (p : Places) (f : ℕ) (b : List ℕ) (s : Sight) (ts : List ℕ) → Layout p (length b) → Stocked (view_of p b) ts → Ground (view_of p b) s.view
    → tables_for p b s.cursor.tail ts ≡ (in_turn (add_view f) ts s).cursor.tail.tables
unfolding tables_for
tables_shown p f b s [] lay st g = rw (turn_none (add_view f) s)
tables_shown p f b s (t ∷ ts) lay st g =
    let k = choose (view_of p b) s.cursor.tail t in
    let l = push s.cursor.tail (block_start t k) (block_of t) in
    let w = taken_view s.view t k in
    let e : choose s.view s.cursor.tail t ≡ k = choose_ground (view_of p b) s.view g s.cursor.tail t in
    let r = pointed_ground f w s.cursor l in
    let g' = taken_ground (view_of p b) _ s.view w t k g (stock_taken p b s.cursor.tail t ts lay st) (view_taken s.view t k) in
    tables_step p b s.cursor.tail t ts ∙ ap (λ (x : Tail). tables_for p (put_block p b t k) x ts) (sym r.1)
    ∙ rw (turn_step (add_view f) t ts s, add_sight f t s, e, laid_sight f t k s)
    (tables_shown p f (put_block p b t k) (sight_pointed f w s.cursor l) ts (rw (length_put_block p b t k) lay) (stock_left p b s.cursor.tail t ts lay st) (ground_trans g' r.0))
