-- A file that gets blocks: the tables of other files stay, and the file's own sectors stay at their places.
use mathlib.Core.Path.{◌≡◌, refl, sym, ap, ◌∙◌}
use mathlib.Core.Logic.{inl, inr}
use mathlib.Core.List.{List, [], ◌∷◌}
use Prim.Native.Nat.{ℕ, ◌+◌, ◌≤◌, ◌<◌}
use native.Mathlib.Omega.{arith}
use lib.ListN.{length}
use Rattle.tables.specs.declared.places.Places.{Places}
use Rattle.tables.specs.Blocks.{block_of}
use Rattle.tables.specs.Indexes.{table_at, file_of, system_bit, directory_bit}
use Rattle.tables.specs.Sector1.{first_free_of}
use Rattle.tables.specs.Views.{View, view_of, Free, Parent}
use Rattle.tables.proofs.IndexLaws.{length_table}
use Rattle.allocation.specs.declared.choice.Found.{Found}
use Rattle.allocation.specs.declared.tail.Tail.{Tail}
use Rattle.allocation.specs.declared.tail.Pushed.{Pushed}
use Rattle.allocation.specs.declared.tail.Pushed.TheVariants.{Joined, Beside, Further}
use Rattle.allocation.specs.declared.growth.Cursor.{Cursor}
use Rattle.allocation.specs.Choice.{choose, block_start, put_block, in_order, in_turn}
use Rattle.allocation.specs.NextPointer.{no_pointer, place_of, push, tail_of, longer, beside, further}
use Rattle.allocation.specs.Last.{cursor_of}
use Rattle.allocation.specs.NewTables.{New}
use Rattle.allocation.specs.Growth.{Growth, pointed, add_block}
use Rattle.allocation.specs.Ready.{Ready}
use Rattle.allocation.specs.Steps.{Choosable, SameFiles, Written, Extended, Made}
use Rattle.allocation.specs.Held.{Held, Ends}
use Rattle.allocation.specs.Lengthened.{Lengthened}
use Rattle.allocation.specs.MadeFiles.{ProvidedWith, started, created, put_change, grown}
use Rattle.allocation.proofs.TurnLaws.{turn_none, turn_step}
use Rattle.allocation.proofs.PlanLaws.{push_cases, push_from, stock_free, stock_taken}
use Rattle.allocation.proofs.TakenLaws.{length_put_block, block_files}
use Rattle.allocation.proofs.TakenHeld.{new_run, taken_ends}
use Rattle.allocation.proofs.ChainedLaws.{head_free}
use Rattle.allocation.proofs.ChangeLaws.{used_not}
use Rattle.allocation.proofs.EndsLaws.{end_file, end_some}
use Rattle.allocation.proofs.ReadyLaws.{Taking, add_is, laid_is, here_is, further_is, pointed_joined, pointed_beside, pointed_further, here_written, first_free, further_extended, step_taking, ready_step}
use Rattle.allocation.proofs.AddHeld.{add_held}
use Rattle.allocation.proofs.FileLaws.{provided_head, started_made, ready_start, ready_grow}
use Rattle.allocation.proofs.RestatedLaws.{Restated}
use Rattle.allocation.proofs.GrownLawful.{rules_held, cursor_ends, length_resized, grown_lengthened}
use Rattle.files.specs.Unchanged.{Untouched, SamePlaces}
use Rattle.files.proofs.UntouchedLaws.{untouched_refl, untouched_trans, stated_untouched, stated_follows}
use Rattle.files.proofs.FollowLaws.{FileFollows, file_stays, file_trans, follows_places}
use Rattle.files.proofs.GrownSteps.{files_untouched, written_own, written_untouched, extended_own, extended_untouched, made_own, made_untouched, joined_follows, beside_follows, extended_follows}

-- One block is two steps. Taking it changes no table; then it lies under the last pointer, which becomes longer, under a pointer of its own
-- beside that, or under the first one of a further child, and GrownSteps says what each of the three leaves.
-- Blocks in turn are an induction on the list of their types. Each step hands on what the next one asks for:
-- for other files' tables `Ready`, and that the cursor stands at a table of the file, which is proved along with the step;
-- for the file's own tables `Ready`, `Held` and `Ends`, which allocation's law of one block gives.
-- So the first serves a new file too, of which only the lengths of name and date are known here.

-- ---- one block

-- the table at which the cursor stands is of file f
abbrev Owned : Places → ℕ → Growth → Type 0
Owned p f g = file_of g.cursor.table.0 (table_at p g.books g.cursor.table.0) ≡ f

module _ (p : Places) (f t : ℕ) (ts : List ℕ) (g : Growth) (ready : Ready p f g (t ∷ ts)) where
  abbrev k : Found
  k = choose (view_of p g.books) g.cursor.tail t

  abbrev b : List ℕ
  b = put_block p g.books t k

  abbrev v : View
  v = view_of p b

  abbrev c : Cursor
  c = g.cursor

  abbrev s : ℕ
  s = block_start t k

  abbrev n : ℕ
  n = block_of t

  can : Choosable (view_of p g.books) t k
  can = stock_free p g.books g.cursor.tail t ts ready.layout ready.stocked

  files : SameFiles (view_of p g.books) v
  files = block_files p g.books t k ready.layout can.proper

  -- other files
  module _ (own : Owned p f g) where
    abbrev r : Pushed
    r = push g.cursor.tail (block_start t k) (block_of t)

    own_taken : file_of c.table.0 (table_at p b c.table.0) ≡ f
    own_taken = ap (file_of c.table.0) (files.table c.table.0 ready.low ready.high) ∙ own

    pointed_untouched : Untouched v (view_of p (pointed p f b c r).books) f × Owned p f (pointed p f b c r)
    pointed_untouched = go r (step_taking p f g t ts ready) (push_from c.tail s n ready.tail.from)
      where
        here : {v' : View} (l : Tail) → 22 ≤ place_of l → Written v v' c.table.0 (place_of l) l.last → Untouched v v' f × (file_of c.table.0 (v'.table c.table.0) ≡ f)
        here {v'} l from w = (written_untouched v v' f _ _ _ w (omega arith) own_taken, written_own v v' f _ _ _ w (omega arith) own_taken)

        there : {v' : View} (l : Tail) → Extended v v' f c.table.0 l.last → Free v (first_free_of b) → Untouched v v' f × (file_of (first_free_of b) (v'.table (first_free_of b)) ≡ f)
        there {v'} l w h = (extended_untouched v v' f _ _ w ready.layout.few h own_taken, extended_own v v' f _ _ w ready.layout.few h own_taken)

        go : (q : Pushed) → Taking p f b c q ts → 22 ≤ place_of (tail_of q) → Untouched v (view_of p (pointed p f b c q).books) f × Owned p f (pointed p f b c q)
        go (Joined l) h from = rw (pointed_joined p f b c l, here_is p f b c l) (here l from (here_written p f b c (Joined l) ts h))
        go (Beside l) h from = rw (pointed_beside p f b c l, here_is p f b c l) (here l from (here_written p f b c (Beside l) ts h))
        go (Further l) h from = rw (pointed_further p f b c l, further_is p f b c l) (there l (further_extended p f b c l ts h) (first_free p f b c l ts h))

    add_untouched : Untouched (view_of p g.books) (view_of p (add_block p f t g).books) f × Owned p f (add_block p f t g)
    add_untouched = rw (add_is p f t g, laid_is p f t k g)
        (untouched_trans (view_of p g.books) v _ f (files_untouched (view_of p g.books) v f files) pointed_untouched.0, pointed_untouched.1)

  -- the file's own tables
  module _ (ends : Ends (view_of p g.books) f g.cursor) where
    block_ends : Ends v f c
    block_ends = taken_ends files ends

    sized : (j : ℕ) → 1 ≤ j → j ≤ p.indexes → length (table_at p b j) ≡ 128
    sized j = length_table p b j (rw (length_put_block p g.books t k) ready.layout)

    -- in the last pointer; there is one, since no sector of a block is 0
    joined : c.tail.last.start.0 + c.tail.last.count ≡ s → Taking p f b c (Joined (longer c.tail n)) ts → FileFollows v (view_of p (pointed p f b c (Joined (longer c.tail n))).books) f
    joined e h =
        let l = longer g.cursor.tail n in
        let run = new_run can (stock_taken p g.books g.cursor.tail t ts ready.layout ready.stocked) in
        let some = end_some v f c block_ends (omega (arith, run.low)) in
        rw (pointed_joined p f b c l, here_is p f b c l) (joined_follows v _ f c ready.layout.few sized block_ends n some (here_written p f b c (Joined l) ts h))

    -- in a pointer of its own beside it
    stood : c.tail.slot < c.tail.capacity → Taking p f b c (Beside (beside c.tail s n)) ts → FileFollows v (view_of p (pointed p f b c (Beside (beside c.tail s n))).books) f
    stood room h =
        let l = beside g.cursor.tail s n in
        rw (pointed_beside p f b c l, here_is p f b c l) (beside_follows v _ f c ready.layout.few sized block_ends _ (here_written p f b c (Beside l) ts h) room)

    -- in a further child's first one
    chained : Taking p f b c (Further (further c.tail s n)) ts → FileFollows v (view_of p (pointed p f b c (Further (further c.tail s n))).books) f
    chained h =
        let l = further g.cursor.tail s n in
        rw (pointed_further p f b c l, further_is p f b c l)
        (extended_follows v _ f c ready.layout.few sized block_ends _ (further_extended p f b c l ts h) (first_free p f b c l ts h))

    add_follows : FileFollows (view_of p g.books) (view_of p (add_block p f t g).books) f
    add_follows = rw (add_is p f t g, laid_is p f t k g)
        (file_trans (view_of p g.books) v _ f refl (file_stays (view_of p g.books) v f files.table)
        (push_cases (λ r. Taking p f b c r ts → FileFollows v (view_of p (pointed p f b c r).books) f) c.tail s n
        (λ e few. joined e) stood (λ room. chained) (step_taking p f g t ts ready)))

-- ---- blocks in turn

adds_untouched : (p : Places) (f : ℕ) (ts : List ℕ) (g : Growth) → Ready p f g ts → Owned p f g
    → Untouched (view_of p g.books) (view_of p (in_turn (add_block p f) ts g).books) f
adds_untouched p f [] g ready own = rw (turn_none (add_block p f) g) (untouched_refl (view_of p g.books) f)
adds_untouched p f (t ∷ ts) g ready own =
    let one = add_untouched p f t ts g ready own in
    rw (turn_step (add_block p f) t ts g) (untouched_trans (view_of p g.books) (view_of p (add_block p f t g).books) _ f one.0
    (adds_untouched p f ts (add_block p f t g) (ready_step p f g t ts ready) one.1))

adds_follow : (p : Places) (f : ℕ) (ts : List ℕ) (g : Growth) {extra : ℕ → ℕ} → Ready p f g ts → Held (view_of p g.books) f extra → Ends (view_of p g.books) f g.cursor
    → FileFollows (view_of p g.books) (view_of p (in_turn (add_block p f) ts g).books) f
adds_follow p f [] g ready held ends = rw (turn_none (add_block p f) g) (file_stays (view_of p g.books) (view_of p g.books) f (λ i lo hi. refl))
adds_follow p f (t ∷ ts) g ready held ends =
    let one = add_held p f t ts g ready held ends in
    rw (turn_step (add_block p f) t ts g) (file_trans (view_of p g.books) (view_of p (add_block p f t g).books) _ f refl (add_follows p f t ts g ready ends)
    (adds_follow p f ts (add_block p f t g) (ready_step p f g t ts ready) one.held one.ends))

-- ---- a file that grows: its blocks, then its length and the dates, which stand in its parent and in sector 1

module _ (p : Places) (b : List ℕ) (f : ℕ) (counts : List ℕ) (long : ℕ) (date : List ℕ) {extra : ℕ → ℕ} (has : ProvidedWith extra p b (cursor_of p b f).tail counts)
    (parent : Parent (view_of p b) f) (six : length date ≡ 6) where
  abbrev begun : Growth
  begun = record { books = b; cursor = cursor_of p b f }

  abbrev grew : Growth
  grew = in_turn (add_block p f) (in_order counts) (record { books = b; cursor = cursor_of p b f })

  ready : Ready p f begun (in_order counts)
  ready = ready_grow p b f counts has parent

  ends : Ends (view_of p b) f (cursor_of p b f)
  ends = cursor_ends p b f has.lawful parent

  lengthened : Lengthened extra p f begun grew (in_order counts)
  lengthened = grown_lengthened p b f counts has parent

  restated : Restated (view_of p grew.books) (view_of p (put_change p grew.books f long date)) f
  restated = (length_resized p grew.books f long date (rw lengthened.quiet.len has.layout) parent.low parent.high six).restated

  pub grown_untouched : Untouched (view_of p b) (view_of p (grown p b f counts long date)) f
  unfolding grown
  grown_untouched =
      untouched_trans (view_of p b) (view_of p grew.books) _ f (adds_untouched p f (in_order counts) begun ready (end_file (view_of p b) has.layout.few f (cursor_of p b f) ends))
      (stated_untouched (view_of p grew.books) _ f refl lengthened.ends.parent restated.there
      (λ o l. restated.here.out o (inl (omega arith))) (λ o l. restated.here.out o (inr (omega arith))))

  pub grown_places : SamePlaces (view_of p b) (view_of p (grown p b f counts long date)) f
  unfolding grown
  grown_places =
      follows_places (view_of p b) _ f refl (file_trans (view_of p b) (view_of p grew.books) _ f refl
      (adds_follow p f (in_order counts) begun ready (rules_held p b f has.lawful) ends)
      (stated_follows (view_of p grew.books) _ f refl lengthened.ends.parent restated.there
      (λ o l. restated.here.out o (inl (omega arith))) (λ o l. restated.here.out o (inr (omega arith)))))
      has.lawful.r4 has.lawful.r5 has.lawful.r6 has.layout.few parent

-- ---- a new file, which is no file that was there

module _ (p : Places) (b : List ℕ) (n : New) (counts : List ℕ) {extra : ℕ → ℕ} (has : ProvidedWith extra p b no_pointer counts) (name : length n.name ≤ 24) (six : length n.date ≡ 6)
    (weights : n.attribute < 128) where
  head : Free (view_of p b) (first_free_of b)
  head = head_free (view_of p b) has.lawful.r4 (λ z. omega (arith, (provided_head p b counts has).low))

  made : Made (view_of p b) (view_of p (started p b n).books) n (system_bit n.attribute) (directory_bit n.attribute)
  made = started_made p b n has.layout (provided_head p b counts has) name six

  pub created_untouched : Untouched (view_of p b) (view_of p (created p b n counts)) (first_free_of b)
  unfolding created
  created_untouched =
      untouched_trans (view_of p b) (view_of p (started p b n).books) _ (first_free_of b) (made_untouched (view_of p b) (view_of p (started p b n).books) n _ _ made head name six)
      (adds_untouched p (first_free_of b) (in_order counts) (started p b n) (ready_start p b counts n has name six)
      (made_own (view_of p b) (view_of p (started p b n).books) n _ _ made head name six))

  pub created_new : (g : ℕ) → Parent (view_of p b) g → first_free_of b ≡ g → ⊥
  created_new g h e = used_not (view_of p b) g (first_free_of b) g head h (λ z. omega (arith, h.low)) (sym e)
