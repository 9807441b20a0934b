-- A file that gets blocks goes on: each block that is laid leaves what the next one asks.
use mathlib.Core.Path.{◌≡◌, refl, sym, ap, ◌∙◌}
use mathlib.Core.Logic.{◌≢◌, ◌⊎◌, ⊎_elim}
use mathlib.Core.List.{List, ◌∷◌, ◌++◌}
use Prim.Native.Nat.{ℕ, ◌+◌, ◌≤◌, ◌<◌}
use native.Mathlib.Omega.{arith}
use lib.ListN.{length, length-append}
use Rattle.tables.specs.declared.kinds.Index.{Index}
use Rattle.tables.specs.declared.kinds.Sector.{Sector}
use Rattle.tables.specs.declared.places.Places.{Places}
use Rattle.tables.specs.Blocks.{block_of}
use Rattle.tables.specs.Indexes.{put_pointer, word_of, table_at}
use Rattle.tables.specs.Places.{Layout}
use Rattle.tables.specs.Same.{Ground}
use Rattle.tables.specs.Sector1.{free_of, first_free_of}
use Rattle.tables.specs.Views.{view_of, Free}
use Rattle.tables.specs.Rules.R9.{free_one}
use Rattle.allocation.specs.declared.choice.Choice.{Choice}
use Rattle.allocation.specs.declared.choice.Found.{Found}
use Rattle.allocation.specs.declared.tail.Tail.{Tail}
use Rattle.allocation.specs.declared.tail.Pushed.{Pushed}
use Rattle.allocation.specs.declared.tail.Pushed.TheVariants.{Joined, Beside, Further}
use Rattle.allocation.specs.declared.growth.Cursor.{Cursor}
use Rattle.allocation.specs.Choice.{choose, block_start, put_block}
use Rattle.allocation.specs.NextPointer.{push, tail_of, place_of}
use Rattle.allocation.specs.NewTables.{put_child}
use Rattle.allocation.specs.Growth.{Growth, point_here, point_further, pointed, laid, add_block}
use Rattle.allocation.specs.Plans.{tables_for}
use Rattle.allocation.specs.Stock.{Stocked}
use Rattle.allocation.specs.Candidates.{Proper, Behind, Chooses}
use Rattle.allocation.specs.Steps.{Written, Extended}
use Rattle.allocation.specs.Ready.{Head, HeadFor, InTable, Laying, Chained, Ready}
use Rattle.allocation.proofs.PlanLaws.{Goes, push_in_table, push_most, push_goes, stock_free, stock_left, stock_behind, tables_least, tables_prefix, tables_step, tables_ground}
use Rattle.allocation.proofs.TakenHeld.{files_R4, files_tally}
use Rattle.allocation.proofs.ChainedLaws.{written_used, chained_written, chained_free, chained_head, extended_used, chained_extended}
use Rattle.allocation.proofs.NextGround.{stocked_ground, behind_ground}
use Rattle.allocation.proofs.OrderLaws.{stocked_prefix}
use Rattle.allocation.proofs.TakenLaws.{length_put_block, block_files}
use Rattle.allocation.proofs.StepLaws.{pointer_written, child_extended, length_put_pointer, length_put_child}
use Rattle.tables.proofs.BlockLaws.{data_zone, block_few}

-- ---- what the steps are

pub add_is : (p : Places) (f t : ℕ) (g : Growth) → add_block p f t g ≡ laid p f t (choose (view_of p g.books) g.cursor.tail t) g
unfolding add_block
add_is p f t g = refl

pub laid_is : (p : Places) (f t : ℕ) (k : Found) (g : Growth) → laid p f t k g ≡ pointed p f (put_block p g.books t k) g.cursor (push g.cursor.tail (block_start t k) (block_of t))
unfolding laid
laid_is p f t k g = refl

module _ (p : Places) (f : ℕ) (b : List ℕ) (c : Cursor) (l : Tail) where
  pub here_is : point_here p b c l ≡ record { books = put_pointer p b c.table.0 (place_of l) l.last; cursor = record { tail = l; table = c.table } }
  unfolding point_here
  here_is = refl

  pub further_is : point_further p f b c l
      ≡ record { books = put_pointer p (put_child p b f c.table.0) (first_free_of b) (place_of l) l.last; cursor = record { tail = l; table = record { 0 = first_free_of b } } }
  unfolding point_further
  further_is = refl

  pub pointed_joined : pointed p f b c (Joined l) ≡ point_here p b c l
  unfolding pointed
  pointed_joined = refl

  pub pointed_beside : pointed p f b c (Beside l) ≡ point_here p b c l
  unfolding pointed
  pointed_beside = refl

  pub pointed_further : pointed p f b c (Further l) ≡ point_further p f b c l
  unfolding pointed
  pointed_further = refl

-- ---- a block is taken, and its pointer, at the end of the tail, is still to be written

pub record Taking (p : Places) (f : ℕ) (b : List ℕ) (c : Cursor) (r : Pushed) (ts : List ℕ) : Type 0 where
  layout : Layout p (length b)
  stocked : Stocked (view_of p b) ts
  chained : Chained p b
  low : 1 ≤ c.table.0
  high : c.table.0 ≤ p.indexes
  used : word_of (table_at p b c.table.0) ≢ 0
  tail : InTable (tail_of r)
  few : (tail_of r).tables + length ts ≤ 1099511627776
  enough : tables_for p b (tail_of r) ts ≤ c.tail.tables + free_of b
  file : f < 4294967296
  goes : Goes c.tail r

module _ (p : Places) (f : ℕ) (b : List ℕ) (c : Cursor) (r : Pushed) (ts : List ℕ) (h : Taking p f b c r ts) where
  abbrev l : Tail
  l = tail_of r

  pub here_written : Written (view_of p b) (view_of p (put_pointer p b c.table.0 (place_of (tail_of r)) (tail_of r).last)) c.table.0 (place_of (tail_of r)) (tail_of r).last
  here_written = pointer_written p b c.table.0 (place_of l) l.last h.layout h.low h.high (omega arith)

  here_layout : Layout p (length (put_pointer p b c.table.0 (place_of l) l.last))
  here_layout = rw (length_put_pointer p b c.table.0 (place_of l) l.last h.layout h.low h.high (omega arith)) h.layout

  here_ready : l.tables ≡ c.tail.tables → Ready p f (record { books = put_pointer p b c.table.0 (place_of l) l.last; cursor = record { tail = l; table = c.table } }) ts
  here_ready e =
      let b' = put_pointer p b c.table.0 (place_of l) l.last in
      record {
        layout = here_layout;
        stocked = stocked_ground (view_of p b) (view_of p b') here_written.ground ts h.stocked;
        chained = chained_written p b b' c.table.0 (place_of l) l.last here_written h.tail.from h.low h.high h.used h.chained;
        low = h.low;
        high = h.high;
        used = written_used p b b' c.table.0 (place_of l) l.last here_written h.tail.from h.low h.high h.used;
        tail = h.tail;
        few = h.few;
        enough = omega (arith, tables_ground p p b b' l ts h.layout here_layout here_written.ground h.stocked, h.enough, here_written.free);
        file = h.file;
      }

module _ (p : Places) (f : ℕ) (b : List ℕ) (c : Cursor) (l : Tail) (ts : List ℕ) (h : Taking p f b c (Further l) ts) where
  pub taking_head : Head p b
  taking_head = chained_head p b h.chained (omega (arith, tables_least p b l ts, h.enough, h.goes.1))

  pub first_free : Free (view_of p b) (first_free_of b)
  first_free = chained_free p b h.chained (λ z. omega (arith, taking_head.low))

  other : c.table.0 ≢ first_free_of b
  other e = h.used (ap (λ (n : ℕ). word_of (table_at p b n)) e ∙ first_free.word)

  abbrev grown : List ℕ
  grown = put_pointer p (put_child p b f c.table.0) (first_free_of b) (place_of l) l.last

  pub further_extended : Extended (view_of p b) (view_of p grown) f c.table.0 l.last
  further_extended = rw h.goes.0 (child_extended p b f c.table.0 l.last h.layout taking_head h.low h.high other)

  further_layout : Layout p (length grown)
  further_layout =
      let e = length_put_child p b f c.table.0 h.layout taking_head h.low h.high in
      rw (length_put_pointer p (put_child p b f c.table.0) (first_free_of b) (place_of l) l.last (rw e h.layout) taking_head.low taking_head.high (omega arith), e) h.layout

  further_ready : Ready p f (record { books = grown; cursor = record { tail = l; table = record { 0 = first_free_of b } } }) ts
  further_ready =
      record {
        layout = further_layout;
        stocked = stocked_ground (view_of p b) (view_of p grown) further_extended.ground ts h.stocked;
        chained = chained_extended p b grown f c.table.0 l.last further_extended h.used h.layout.few first_free h.chained;
        low = taking_head.low;
        high = taking_head.high;
        used = extended_used p b grown f c.table.0 l.last further_extended h.used h.layout.few first_free;
        tail = h.tail;
        few = h.few;
        enough = omega (arith, tables_ground p p b grown l ts h.layout further_layout further_extended.ground h.stocked, h.enough, further_extended.free, taking_head.some, h.goes.1);
        file = h.file;
      }

module _ (p : Places) (f : ℕ) (b : List ℕ) (c : Cursor) (ts : List ℕ) where
  taking_ready : (r : Pushed) → Taking p f b c r ts → Ready p f (pointed p f b c r) ts
  taking_ready (Joined l) h = rw (pointed_joined p f b c l, here_is p f b c l) (here_ready p f b c (Joined l) ts h h.goes)
  taking_ready (Beside l) h = rw (pointed_beside p f b c l, here_is p f b c l) (here_ready p f b c (Beside l) ts h h.goes)
  taking_ready (Further l) h = rw (pointed_further p f b c l, further_is p f b c l) (further_ready p f b c l ts h)

  taking_ground : (r : Pushed) → Taking p f b c r ts → Ground (view_of p b) (view_of p (pointed p f b c r).books)
  taking_ground (Joined l) h = rw (pointed_joined p f b c l, here_is p f b c l) (here_written p f b c (Joined l) ts h).ground
  taking_ground (Beside l) h = rw (pointed_beside p f b c l, here_is p f b c l) (here_written p f b c (Beside l) ts h).ground
  taking_ground (Further l) h = rw (pointed_further p f b c l, further_is p f b c l) (further_extended p f b c l ts h).ground

  -- where a further child is asked, there is a free table for it
  head_for : (r : Pushed) → Goes c.tail r → Chained p b → (tail_of r).tables ≤ c.tail.tables + free_of b → HeadFor p b r
  head_for (Joined l) g ch e = tt
  head_for (Beside l) g ch e = tt
  head_for (Further l) g ch e = chained_head p b ch (omega (arith, g.1))

-- ---- a step

module _ (p : Places) (f : ℕ) (g : Growth) (t : ℕ) (ts : List ℕ) (h : Ready p f g (t ∷ ts)) where
  abbrev k : Found
  k = choose (view_of p g.books) g.cursor.tail t

  abbrev pushed : Pushed
  pushed = push g.cursor.tail (block_start t k) (block_of t)

  pub ready_proper : Proper (view_of p g.books) t k
  ready_proper = (stock_free p g.books g.cursor.tail t ts h.layout h.stocked).proper

  pub step_taking : Taking p f (put_block p g.books t k) g.cursor (push g.cursor.tail (block_start t k) (block_of t)) ts
  step_taking =
      let s = block_files p g.books t k h.layout ready_proper in
      record {
        layout = rw (length_put_block p g.books t k) h.layout;
        stocked = stock_left p g.books g.cursor.tail t ts h.layout h.stocked;
        chained = record { r4 = files_R4 s h.chained.r4; free = s.free ∙ h.chained.free ∙ sym (files_tally s free_one) };
        low = h.low;
        high = h.high;
        used = λ z. h.used (sym (ap word_of (s.table g.cursor.table.0 h.low h.high)) ∙ z);
        tail = push_in_table g.cursor.tail (block_start t k) (block_of t) h.tail (block_few t (data_zone ready_proper.typed));
        few = omega (arith, h.few, push_most g.cursor.tail (block_start t k) (block_of t));
        enough = omega (arith, tables_step p g.books g.cursor.tail t ts, h.enough, s.free);
        file = h.file;
        goes = push_goes g.cursor.tail (block_start t k) (block_of t);
      }

  pub ready_step : Ready p f (add_block p f t g) ts
  ready_step = rw (add_is p f t g, laid_is p f t k g) (taking_ready p f (put_block p g.books t k) g.cursor ts pushed step_taking)

  pub ready_behind : (r : Choice) → Chooses (view_of p g.books) g.cursor.tail t r → Behind (view_of p (add_block p f t g).books) t r.from
  ready_behind r q =
      let b = put_block p g.books t k in
      rw (add_is p f t g, laid_is p f t k g)
      (behind_ground (view_of p b) _ (taking_ground p f b g.cursor ts pushed step_taking) t r.from
      (stock_behind p g.books g.cursor.tail t ts h.layout h.stocked r q))

  pub ready_laying : Laying p t k g
  ready_laying = record {
    layout = h.layout;
    proper = ready_proper;
    low = h.low;
    high = h.high;
    tail = h.tail;
    few = omega (arith, h.few);
    head = head_for p f g.books g.cursor ts pushed (push_goes g.cursor.tail (block_start t k) (block_of t)) h.chained
        (omega (arith, tables_step p g.books g.cursor.tail t ts, tables_least p (put_block p g.books t k) (tail_of pushed) ts, h.enough));
  }

-- a block taken leaves the free chain
pub head_taken : (p : Places) (b : List ℕ) (t : ℕ) (k : Found) → Layout p (length b) → Proper (view_of p b) t k → (r : Pushed) → HeadFor p b r → HeadFor p (put_block p b t k) r
head_taken p b t k lay proper (Joined l) h = tt
head_taken p b t k lay proper (Beside l) h = tt
head_taken p b t k lay proper (Further l) h =
    let s = block_files p b t k lay proper in
    record { low = rw s.head h.low; high = rw s.head h.high; some = rw s.free h.some }

-- the tables for the first of the blocks are no more than those for all
pub ready_prefix : (p : Places) (f : ℕ) (g : Growth) (xs ys : List ℕ) → Ready p f g (xs ++ ys) → Ready p f g xs
ready_prefix p f g xs ys h = record {
  layout = h.layout;
  stocked = stocked_prefix (view_of p g.books) xs ys h.stocked;
  chained = h.chained;
  low = h.low;
  high = h.high;
  used = h.used;
  tail = h.tail;
  few = omega (arith, h.few, length-append xs ys);
  enough = omega (arith, tables_prefix p g.books g.cursor.tail xs ys, h.enough);
  file = h.file;
}

-- ---- the ways out of the functions that add blocks

module _ (p : Places) (f : ℕ) (b : List ℕ) (c : Cursor) (l : Tail) where
  pub point_present : (y : List ℕ) (at : ℕ) → at ≡ place_of l → y ≡ put_pointer p b c.table.0 at l.last
      → ◌≡◌ {A = Growth} (record { books = y; cursor = record { tail = l; table = c.table } }) (point_here p b c l)
  point_present y at ea ey = rw (here_is p f b c l, ey, ea)

  pub point_child : (x y : List ℕ) (i : Index) (at : ℕ) → i.0 ≡ first_free_of b → x ≡ put_child p b f c.table.0 → at ≡ place_of l → y ≡ put_pointer p x i.0 at l.last
      → ◌≡◌ {A = Growth} (record { books = y; cursor = record { tail = l; table = i } }) (point_further p f b c l)
  point_child x y i at ei ex ea ey = rw (further_is p f b c l, ← ei, ey, ea, ex)

  module _ (r : Pushed) where
    pub way_here : (g : Growth) → (r ≡ Joined l) ⊎ (r ≡ Beside l) → g ≡ point_here p b c l → g ≡ pointed p f b c r
    way_here g o h = ⊎_elim (λ e. rw e (h ∙ sym (pointed_joined p f b c l))) (λ e. rw e (h ∙ sym (pointed_beside p f b c l))) o

    pub way_further : (g : Growth) → r ≡ Further l → g ≡ point_further p f b c l → g ≡ pointed p f b c r
    way_further g e h = rw e (h ∙ sym (pointed_further p f b c l))

module _ (l : Tail) (r : Pushed) (h : InTable (tail_of r)) where
  pub here_in_table : (r ≡ Joined l) ⊎ (r ≡ Beside l) → InTable l
  here_in_table o = ⊎_elim (λ e. rw e at h) (λ e. rw e at h) o

  pub further_in_table : r ≡ Further l → InTable l
  further_in_table e = rw e at h

pub further_head : (p : Places) (b : List ℕ) (l : Tail) (r : Pushed) → HeadFor p b r → r ≡ Further l → Head p b
further_head p b l r h e = rw e at h

module _ (p : Places) (t : ℕ) (k : Found) (b x : List ℕ) (c : Cursor) (h : Laying p t k (record { books = b; cursor = c })) (e : x ≡ put_block p b t k) where
  pub lay_layout : Layout p (length x)
  lay_layout = rw (e, length_put_block p b t k) h.layout

  module _ (r : Pushed) (a : Sector) (n : ℕ) (ea : a.0 ≡ block_start t k) (en : n ≡ block_of t) (er : r ≡ push c.tail a.0 n) where
    lay_pushed : r ≡ push c.tail (block_start t k) (block_of t)
    lay_pushed = er ∙ rw (ea, en) refl

    pub lay_in_table : InTable (tail_of r)
    lay_in_table = rw lay_pushed (push_in_table c.tail (block_start t k) (block_of t) h.tail (block_few t (data_zone h.proper.typed)))

    pub lay_head : HeadFor p x r
    lay_head = rw (lay_pushed, e) (head_taken p b t k h.layout h.proper (push c.tail (block_start t k) (block_of t)) h.head)

    pub lay_end : (f : ℕ) (g : Growth) → g ≡ pointed p f x c r → g ≡ laid p f t k (record { books = b; cursor = c })
    lay_end f g eg = eg ∙ rw (e, lay_pushed) (sym (laid_is p f t k (record { books = b; cursor = c })))
