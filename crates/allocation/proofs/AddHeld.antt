-- Blocks added to a file, each taken and pointed at, keep the rules: the single steps put together.
use mathlib.Core.Path.{◌≡◌, refl, sym, ap, ap₂, ◌∙◌}
use mathlib.Core.List.{List, [], ◌∷◌}
use Prim.Native.Nat.{ℕ, ◌+◌, ◌-◌, ◌≤◌, ◌<◌}
use native.Mathlib.Decide.{dec_lt}
use native.Mathlib.Omega.{arith}
use lib.ListN.{length, get_or}
use Rattle.field.proofs.BitLaws.{bit_at_lt}
use Rattle.tables.specs.declared.places.Places.{Places}
use Rattle.tables.specs.Kinds.{zone_of}
use Rattle.tables.specs.Blocks.{block_of}
use Rattle.tables.specs.Places.{Layout}
use Rattle.tables.specs.Sector1.{first_free_of}
use Rattle.tables.specs.Same.{Ground}
use Rattle.tables.specs.Views.{View, view_of, cov}
use Rattle.tables.specs.Withheld.{KeepsTypes}
use Rattle.tables.specs.Rules.R6.{Run}
use Rattle.tables.proofs.BlockLaws.{data_block, block_in}
use Rattle.tables.proofs.IndexLaws.{length_table}
use Rattle.tables.proofs.PointerLaws.{cov_join}
use Rattle.tables.proofs.WithheldLaws.{keeps_same, keeps_trans}
use Rattle.allocation.specs.declared.choice.Found.{Found}
use Rattle.allocation.specs.declared.tail.Tail.{Tail}
use Rattle.allocation.specs.declared.tail.Pushed.TheVariants.{Joined, Beside, Further}
use Rattle.allocation.specs.declared.growth.Cursor.{Cursor}
use Rattle.allocation.specs.Choice.{choose, block_start, put_block, in_turn}
use Rattle.allocation.specs.NextPointer.{longer, beside, further, place_of}
use Rattle.allocation.specs.NewTables.{put_child}
use Rattle.allocation.specs.Growth.{Growth, pointed, add_block}
use Rattle.allocation.specs.Ready.{Head, Ready}
use Rattle.allocation.specs.Steps.{Choosable, Taken, SameFiles}
use Rattle.allocation.specs.Held.{Held, Ends}
use Rattle.allocation.specs.Lengthened.{sectors_in, AllOf, Quiet, Lengthened}
use Rattle.allocation.proofs.TurnLaws.{turn_none, turn_step}
use Rattle.allocation.proofs.PlanLaws.{push_cases, stock_free, stock_taken}
use Rattle.allocation.proofs.StockLaws.{taken_R2, taken_R3}
use Rattle.allocation.proofs.TakenLaws.{length_put_block, block_files, block_sector0, block_tails}
use Rattle.allocation.proofs.TakenHeld.{new_run, taken_keeps, taken_held, taken_ends, taken_types, files_sectors}
use Rattle.allocation.proofs.StepLaws.{Calm, pointer_still, child_popped}
use Rattle.allocation.proofs.ChangeLaws.{Longer}
use Rattle.allocation.proofs.EndsLaws.{end_some, last_start, last_count}
use Rattle.allocation.proofs.WrittenHeld.{joined_held, beside_held}
use Rattle.allocation.proofs.ExtendedHeld.{extended_held}
use Rattle.allocation.proofs.HeldLawful.{quiet_trans, calm_quiet}
use Rattle.allocation.proofs.ReadyLaws.{Taking, add_is, laid_is, here_is, further_is, pointed_joined, pointed_beside, pointed_further, here_written, taking_head, further_extended, step_taking, ready_step}

-- two runs that meet
run_join : (v : View) (a c d : ℕ) → Run v a c → Run v (a + c) d → c + d ≤ 32767 → Run v a (c + d)
run_join v a c d r q few = record {
  some = omega (arith, r.some);
  few = few;
  low = r.low;
  high = omega (arith, q.high);
  typed = λ s h l. elim (dec_lt s (a + c)) [ yes x ↦ r.typed s x l | no x ↦ q.typed s (omega arith) (omega arith) ];
  whole = λ z l lo ty k lk j lj. cov_join a c d _ ∙ ap₂ (λ (x y : ℕ). x + y) (r.whole z l lo ty k lk j lj) (q.whole z l lo ty k lk j lj) ∙ sym (cov_join a c d _);
}

-- ---- a block

module _ (p : Places) (f t : ℕ) (ts : List ℕ) (g : Growth) (ready : Ready p f g (t ∷ ts)) {extra : ℕ → ℕ} (held : Held (view_of p g.books) f extra)
    (ends : Ends (view_of p g.books) f g.cursor) where
  abbrev k : Found
  k = choose (view_of p g.books) g.cursor.tail t

  abbrev b : List ℕ
  b = put_block p g.books t k

  abbrev v : View
  v = view_of p b

  abbrev c : Cursor
  c = g.cursor

  abbrev l : Tail
  l = g.cursor.tail

  abbrev s : ℕ
  s = block_start t k

  abbrev n : ℕ
  n = block_of t

  bits : (x : ℕ) → (view_of p g.books).bit x < 2
  bits x = bit_at_lt g.books p.sectortable x

  can : Choosable (view_of p g.books) t k
  can = stock_free p g.books g.cursor.tail t ts ready.layout ready.stocked

  took : Taken (view_of p g.books) v t k
  took = stock_taken p g.books g.cursor.tail t ts ready.layout ready.stocked

  files : SameFiles (view_of p g.books) v
  files = block_files p g.books t k ready.layout can.proper

  -- the block is taken and not yet under a pointer
  block_held : Held v f (λ x. extra x + cov s n x)
  block_held = taken_held can took files bits held (taken_R2 _ v t k can took held.r2) (taken_R3 _ v t k can took held.r3)

  block_keeps : KeepsTypes extra (view_of p g.books) v
  block_keeps = taken_keeps can took files bits held

  block_ends : Ends v f c
  block_ends = taken_ends files ends

  block_run : Run v s n
  block_run = new_run can took

  block_type : (x : ℕ) → s ≤ x → x < s + n → (v.zone (zone_of x)).ztype ≡ t
  unfolding block_start
  block_type x lo hi =
      let q = can.proper in
      let i = block_in k.number n (data_block t q.typed) q.within in
      let e : zone_of x ≡ k.zone.0 = omega (arith, q.low) in
      rw (e, took.here)

  block_layout : Layout p (length b)
  block_layout = rw (length_put_block p g.books t k) ready.layout

  block_quiet : Quiet p g.books b
  block_quiet = record {
    len = length_put_block p g.books t k;
    low = λ j lj. block_sector0 p g.books t k ready.layout can.proper j (omega arith);
    tails = λ st q. block_tails p g.books t k st ready.layout can.proper q;
  }

  sized : (j : ℕ) → 1 ≤ j → j ≤ p.indexes → length (v.table j) ≡ 128
  sized j = length_table p b j block_layout

  -- and then under one
  block_longer : (a : ℕ) (b' : List ℕ) (c' : Cursor) → a ≡ s → Longer v (view_of p b') f a n extra c' → Ground v (view_of p b') → Quiet p b b' → Lengthened extra p f g (record { books = b'; cursor = c' }) (t ∷ [])
  unfolding sectors_in AllOf
  block_longer a b' c' e o ground quiet = record {
    held = o.held;
    ends = o.ends;
    sectors = omega (arith, o.sectors, files_sectors files f);
    front = λ j lj. o.front j lj ∙ ap (λ (x : List ℕ). get_or x j 0) (files.table f ends.parent.low ends.parent.high);
    types = λ u all ty. o.types u (taken_types can took files bits held f u ty) (λ x lo hi. block_type x (omega arith) (omega arith) ∙ all.0);
    keeps = keeps_trans extra (view_of p g.books) v (view_of p b') refl block_keeps (keeps_same extra v (view_of p b') ground.zone);
    quiet = quiet_trans block_quiet quiet;
  }

  -- in the last pointer
  joined : l.last.start.0 + l.last.count ≡ s → l.last.count + n ≤ 32767 → Taking p f b c (Joined (longer l n)) ts → Lengthened extra p f g (pointed p f b c (Joined (longer l n))) (t ∷ [])
  joined e few h =
      rw (pointed_joined p f b c (longer l n), here_is p f b c (longer l n))
      (block_longer _ _ _ e
      (joined_held v _ f c ready.layout.few sized block_ends _ extra block_held l.tables n some (here_written p f b c (Joined (longer l n)) ts h)
      (run_join v l.last.start.0 l.last.count n old (rw e block_run) few) (λ x. rw e (omega arith)))
      (here_written p f b c (Joined (longer l n)) ts h).ground
      (calm_quiet (pointer_still p b c.table.0 (place_of l) (longer l n).last block_layout ready.low ready.high (omega arith)).calm))
    where
      some : 1 ≤ l.slot
      some = end_some v f c block_ends (omega (arith, block_run.low))

      old : Run v l.last.start.0 l.last.count
      old =
          let shape = block_held.r6 c.table.0 (omega (arith, ready.high)) ready.low in
          rw (last_start v f c block_ends some, last_count v f c block_ends some) at (shape.used (l.slot - 1) (omega (arith, block_ends.within, block_ends.capacity, some)) (block_ends.used (l.slot - 1) (omega (arith, some))))

  -- in a pointer of its own beside it
  stood : l.slot < l.capacity → Taking p f b c (Beside (beside l s n)) ts → Lengthened extra p f g (pointed p f b c (Beside (beside l s n))) (t ∷ [])
  stood room h =
      rw (pointed_beside p f b c (beside l s n), here_is p f b c (beside l s n))
      (block_longer _ _ _ refl
      (beside_held v _ f c ready.layout.few sized block_ends _ extra block_held l.tables (beside l s n).last (here_written p f b c (Beside (beside l s n)) ts h) room block_run (λ x. omega arith))
      (here_written p f b c (Beside (beside l s n)) ts h).ground
      (calm_quiet (pointer_still p b c.table.0 (place_of (beside l s n)) (beside l s n).last block_layout ready.low ready.high (omega arith)).calm))

  -- in a further child's first one
  chained : l.capacity ≤ l.slot → Taking p f b c (Further (further l s n)) ts → Lengthened extra p f g (pointed p f b c (Further (further l s n))) (t ∷ [])
  chained room h =
      rw (pointed_further p f b c (further l s n), further_is p f b c (further l s n))
      (block_longer _ _ _ refl
      (extended_held v _ f c ready.layout.few sized block_ends _ extra block_held (l.tables + 1) (further l s n).last
      (further_extended p f b c (further l s n) ts h) room (λ z. omega (arith, head.low)) block_run (λ x. omega arith))
      (further_extended p f b c (further l s n) ts h).ground
      (quiet_trans (calm_quiet new)
      (calm_quiet (pointer_still p (put_child p b f c.table.0) (first_free_of b) 22 (further l s n).last (rw new.len block_layout) head.low head.high (omega arith)).calm)))
    where
      head : Head p b
      head = taking_head p f b c (further l s n) ts h

      new : Calm p b (put_child p b f c.table.0)
      new = (child_popped p b f c.table.0 block_layout head ready.low ready.high).calm

pub add_held : (p : Places) (f t : ℕ) (ts : List ℕ) (g : Growth) {extra : ℕ → ℕ} → Ready p f g (t ∷ ts) → Held (view_of p g.books) f extra → Ends (view_of p g.books) f g.cursor
    → Lengthened extra p f g (add_block p f t g) (t ∷ [])
add_held p f t ts g {extra = extra} ready held ends =
    let k = choose (view_of p g.books) g.cursor.tail t in
    let b = put_block p g.books t k in
    rw (add_is p f t g, laid_is p f t k g)
    (push_cases (λ r. Taking p f b g.cursor r ts → Lengthened extra p f g (pointed p f b g.cursor r) (t ∷ [])) g.cursor.tail (block_start t k) (block_of t)
    (joined p f t ts g ready held ends) (stood p f t ts g ready held ends) (chained p f t ts g ready held ends) (step_taking p f g t ts ready))

-- ---- blocks in turn

lengthened_none : (p : Places) (f : ℕ) (g : Growth) {extra : ℕ → ℕ} → Held (view_of p g.books) f extra → Ends (view_of p g.books) f g.cursor → Lengthened extra p f g (in_turn (add_block p f) [] g) []
unfolding sectors_in
lengthened_none p f g held ends = rw (turn_none (add_block p f) g) (record {
  held = held;
  ends = ends;
  sectors = omega arith;
  front = λ o l. refl;
  types = λ t all ty. ty;
  keeps = λ s l lo some. refl;
  quiet = record { len = refl; low = λ j l. refl; tails = λ s q. q };
})

lengthened_more : (p : Places) (f t : ℕ) (ts : List ℕ) (g : Growth) {extra : ℕ → ℕ} → Lengthened extra p f g (add_block p f t g) (t ∷ [])
    → Lengthened extra p f (add_block p f t g) (in_turn (add_block p f) ts (add_block p f t g)) ts → Lengthened extra p f g (in_turn (add_block p f) (t ∷ ts) g) (t ∷ ts)
unfolding sectors_in AllOf
lengthened_more p f t ts g one more = rw (turn_step (add_block p f) t ts g) (record {
  held = more.held;
  ends = more.ends;
  sectors = omega (arith, one.sectors, more.sectors);
  front = λ o l. more.front o l ∙ one.front o l;
  types = λ u all ty. more.types u all.1 (one.types u (all.0, tt) ty);
  keeps = λ s l lo some. more.keeps s l lo some ∙ one.keeps s l lo some;
  quiet = quiet_trans one.quiet more.quiet;
})

pub adds_held : (p : Places) (f : ℕ) (ts : List ℕ) (g : Growth) {extra : ℕ → ℕ} → Ready p f g ts → Held (view_of p g.books) f extra → Ends (view_of p g.books) f g.cursor
    → Lengthened extra p f g (in_turn (add_block p f) ts g) ts
adds_held p f [] g ready held ends = lengthened_none p f g held ends
adds_held p f (t ∷ ts) g ready held ends =
    let one = add_held p f t ts g ready held ends in
    lengthened_more p f t ts g one (adds_held p f ts (add_block p f t g) (ready_step p f g t ts ready) one.held one.ends)
