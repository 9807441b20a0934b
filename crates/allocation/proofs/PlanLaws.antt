-- A plan goes on: each block that is planned leaves what the next one asks. And a plan on copies of the tables is the plan on the books.
use mathlib.Core.Path.{◌≡◌, refl, sym, ap, ◌∙◌}
use mathlib.Core.Bool.{cond}
use mathlib.Core.Logic.{inl}
use mathlib.Core.List.{List, [], ◌∷◌, ◌++◌}
use Prim.Native.Nat.{ℕ, ◌+◌, ◌-◌, ◌*◌, ◌/◌, ◌≤◌, ◌<◌}
use native.Mathlib.Nat.{le_refl}
use native.Mathlib.Decide.{ℕ_discrete, dec_lt}
use native.Mathlib.Omega.{arith}
use lib.Dec.{ltb}
use borrow.Author.Tests.{eq-eqb, ne_eqb, le-leb, lt-leb, lt-ltb, le-ltb}
use lib.ListN.{length, get_or, take, drop, length-append, length-drop}
use lib.Seq.{length-take-le}
use Rattle.field.specs.Numbers.{u16_at}
use Rattle.field.specs.Bits.{bit_at}
use Rattle.field.specs.Parts.{over}
use Rattle.field.specs.Kept.{Kept}
use Rattle.field.proofs.NumberLaws.{get_d_part, u16_kept}
use Rattle.field.proofs.PartLaws.{length_over, kept_over, over_part, same_at}
use Rattle.tables.specs.declared.kinds.Sector.{Sector}
use Rattle.tables.specs.declared.places.Places.{Places}
use Rattle.tables.specs.Blocks.{DataType, block_of}
use Rattle.tables.specs.Places.{Layout}
use Rattle.tables.specs.Views.{view_of}
use Rattle.tables.specs.Same.{Ground}
use Rattle.tables.specs.Zones.{zone_at}
use Rattle.allocation.specs.declared.choice.Choice.{Choice}
use Rattle.allocation.specs.declared.choice.Found.{Found}
use Rattle.allocation.specs.declared.tail.Tail.{Tail}
use Rattle.allocation.specs.declared.tail.Pushed.{Pushed}
use Rattle.allocation.specs.declared.tail.Pushed.TheVariants.{Joined, Beside, Further}
use Rattle.allocation.specs.declared.growth.Cursor.{Cursor}
use Rattle.allocation.specs.Choice.{choose, block_start, put_block, in_turn}
use Rattle.allocation.specs.NextPointer.{joins, longer, beside, further, push, tail_of, place_of}
use Rattle.allocation.specs.Growth.{Growth}
use Rattle.allocation.specs.Plans.{planned, plan_block, plan_from, tables_for}
use Rattle.allocation.specs.Stock.{Stocked, Plannable}
use Rattle.allocation.specs.Candidates.{Proper, Behind, Chooses}
use Rattle.allocation.specs.Ready.{InTable, Planning}
use Rattle.allocation.specs.Scratch.{scratch_places, scratch_of}
use Rattle.allocation.specs.Steps.{Choosable, Taken}
use Rattle.allocation.proofs.TurnLaws.{turn_none, turn_step, in_turn_append}
use Rattle.allocation.proofs.NextLaws.{taken_behind}
use Rattle.allocation.proofs.ChooseLaws.{choose_choosable, choose_stocked, choose_ground}
use Rattle.allocation.proofs.NextGround.{stocked_ground, taken_ground}
use Rattle.allocation.proofs.OrderLaws.{stocked_prefix}
use Rattle.allocation.proofs.TakenLaws.{length_put_block, block_taken}
use Rattle.tables.proofs.BlockLaws.{data_zone, block_few}

-- ---- a block after the tail

-- it joins the last pointer, at whose end it begins, stands beside it, or in a further table
pub push_cases : (P : Pushed → Type 0) (l : Tail) (s n : ℕ) → (l.last.start.0 + l.last.count ≡ s → l.last.count + n ≤ 32767 → P (Joined (longer l n)))
    → (l.slot < l.capacity → P (Beside (beside l s n))) → (l.capacity ≤ l.slot → P (Further (further l s n))) → P (push l s n)
unfolding push joins
push_cases P l s n a b c =
    elim (ℕ_discrete (l.last.start.0 + l.last.count) s) [
      | yes e ↦ elim (dec_lt 32767 (l.last.count + n)) [
        | yes h ↦ rw (eq-eqb (l.last.start.0 + l.last.count) s e, lt-leb (l.last.count + n) 32767 h) apart
        | no h ↦ rw (eq-eqb (l.last.start.0 + l.last.count) s e, le-leb (l.last.count + n) 32767 (omega arith)) (a e (omega arith))
      ]
      | no e ↦ rw (ne_eqb (l.last.start.0 + l.last.count) s e) apart
    ]
  where
    apart : P (cond (ltb l.slot l.capacity) (Beside (beside l s n)) (Further (further l s n)))
    apart = elim (dec_lt l.slot l.capacity) [ yes h ↦ rw (lt-ltb l.slot l.capacity h) (b h) | no h ↦ rw (le-ltb l.slot l.capacity (omega arith)) (c (omega arith)) ]

-- the tables taken: one more for a further child, whose first pointer it is
abbrev pub Goes : Tail → Pushed → Type 0
Goes l (Joined r) = r.tables ≡ l.tables
Goes l (Beside r) = r.tables ≡ l.tables
Goes l (Further r) = (place_of r ≡ 22) × (r.tables ≡ l.tables + 1)

module _ (l : Tail) (s n : ℕ) where
  pub push_count : l.last.count ≤ 32767 → n ≤ 1024 → (tail_of (push l s n)).last.count ≤ 32767
  push_count c h = push_cases (λ r. (tail_of r).last.count ≤ 32767) l s n (λ e j. j) (λ j. omega arith) (λ j. omega arith)

  pub push_in_table : InTable l → n ≤ 1024 → InTable (tail_of (push l s n))
  push_in_table h few = push_cases (λ r. InTable (tail_of r)) l s n
      (λ e j. record { count = j; within = h.within; most = h.most; from = h.from })
      (λ j. record { count = omega arith; within = omega arith; most = h.most; from = omega (arith, h.from) })
      (λ j. record { count = omega arith; within = omega arith; most = omega arith; from = omega arith })

  pub push_from : 22 ≤ place_of l → 22 ≤ place_of (tail_of (push l s n))
  push_from h = push_cases (λ r. 22 ≤ place_of (tail_of r)) l s n (λ e j. h) (λ j. omega arith) (λ j. omega arith)

  pub push_goes : Goes l (push l s n)
  push_goes = push_cases (Goes l) l s n (λ e j. refl) (λ j. refl) (λ j. (refl, refl))

  pub push_least : l.tables ≤ (tail_of (push l s n)).tables
  push_least = push_cases (λ r. l.tables ≤ (tail_of r).tables) l s n (λ e j. omega arith) (λ j. omega arith) (λ j. omega arith)

  pub push_most : (tail_of (push l s n)).tables ≤ l.tables + 1
  push_most = push_cases (λ r. (tail_of r).tables ≤ l.tables + 1) l s n (λ e j. omega arith) (λ j. omega arith) (λ j. omega arith)

-- ---- a step of the plan

pub plan_is : (p : Places) (t : ℕ) (g : Growth) → plan_block p t g ≡ planned p t (choose (view_of p g.books) g.cursor.tail t) g
unfolding plan_block
plan_is p t g = refl

pub planned_is : (p : Places) (t : ℕ) (k : Found) (g : Growth)
    → planned p t k g ≡ record { books = put_block p g.books t k; cursor = record { tail = tail_of (push g.cursor.tail (block_start t k) (block_of t)); table = g.cursor.table } }
unfolding planned
planned_is p t k g = refl

-- the chosen block is free; taken, it leaves what the blocks after it ask
module _ (p : Places) (b : List ℕ) (l : Tail) (t : ℕ) (ts : List ℕ) (layout : Layout p (length b)) (stocked : Stocked (view_of p b) (t ∷ ts)) where
  pub stock_free : Choosable (view_of p b) t (choose (view_of p b) l t)
  stock_free = choose_choosable (view_of p b) l t ts stocked

  pub stock_taken : Taken (view_of p b) (view_of p (put_block p b t (choose (view_of p b) l t))) t (choose (view_of p b) l t)
  stock_taken = block_taken p b t (choose (view_of p b) l t) layout stock_free

  pub stock_left : Stocked (view_of p (put_block p b t (choose (view_of p b) l t))) ts
  stock_left = choose_stocked (view_of p b) _ l t ts stocked stock_taken

  pub stock_behind : (r : Choice) → Chooses (view_of p b) l t r → Behind (view_of p (put_block p b t (choose (view_of p b) l t))) t r.from
  stock_behind r q = taken_behind (view_of p b) _ t _ r.from stock_taken stock_free.proper.typed (rw q.block at q.before) q.behind

module _ (p : Places) (g : Growth) (t : ℕ) (ts : List ℕ) (h : Plannable p g.books g.cursor.tail (t ∷ ts)) where
  pub plan_proper : Proper (view_of p g.books) t (choose (view_of p g.books) g.cursor.tail t)
  plan_proper = (stock_free p g.books g.cursor.tail t ts h.layout h.stocked).proper

  pub plan_planning : Planning p t (choose (view_of p g.books) g.cursor.tail t) g
  plan_planning = record { layout = h.layout; proper = plan_proper; count = h.count; few = omega (arith, h.few) }

  pub plan_behind : (r : Choice) → Chooses (view_of p g.books) g.cursor.tail t r → Behind (view_of p (plan_block p t g).books) t r.from
  plan_behind r q = rw (plan_is p t g, planned_is p t (choose (view_of p g.books) g.cursor.tail t) g) (stock_behind p g.books g.cursor.tail t ts h.layout h.stocked r q)

  pub plan_step : Plannable p (plan_block p t g).books (plan_block p t g).cursor.tail ts
  plan_step =
      let k = choose (view_of p g.books) g.cursor.tail t in
      let l = g.cursor.tail in
      rw (plan_is p t g, planned_is p t k g) (record {
        layout = rw (length_put_block p g.books t k) h.layout;
        stocked = stock_left p g.books g.cursor.tail t ts h.layout h.stocked;
        count = push_count l (block_start t k) (block_of t) h.count (block_few t (data_zone plan_proper.typed));
        few = omega (arith, h.few, push_most l (block_start t k) (block_of t));
      })

pub plan_prefix : (p : Places) (b : List ℕ) (l : Tail) (xs ys : List ℕ) → Plannable p b l (xs ++ ys) → Plannable p b l xs
plan_prefix p b l xs ys h = record {
  layout = h.layout;
  stocked = stocked_prefix (view_of p b) xs ys h.stocked;
  count = h.count;
  few = omega (arith, h.few, length-append xs ys);
}

-- ---- the tables that a plan takes

-- none is given back
tables_rise : (p : Places) (g : Growth) (ts : List ℕ) → g.cursor.tail.tables ≤ (in_turn (plan_block p) ts g).cursor.tail.tables
tables_rise p g [] = rw (turn_none (plan_block p) g) (le_refl g.cursor.tail.tables)
tables_rise p g (t ∷ ts) =
    let k = choose (view_of p g.books) g.cursor.tail t in
    let l = tail_of (push g.cursor.tail (block_start t k) (block_of t)) in
    let d : Growth = record { books = put_block p g.books t k; cursor = record { tail = l; table = g.cursor.table } } in
    rw (turn_step (plan_block p) t ts g, plan_is p t g, planned_is p t k g) (omega (arith, tables_rise p d ts, push_least g.cursor.tail (block_start t k) (block_of t)))

pub tables_least : (p : Places) (b : List ℕ) (l : Tail) (ts : List ℕ) → l.tables ≤ tables_for p b l ts
unfolding tables_for
tables_least p b l ts = tables_rise p (plan_from b l) ts

pub tables_for_lem : (p : Places) (b : List ℕ) (l : Tail) (ts : List ℕ) → tables_for p b l ts ≡ (in_turn (plan_block p) ts (plan_from b l)).cursor.tail.tables
unfolding tables_for
tables_for_lem p b l ts = refl

-- the first blocks take no more than all
pub tables_prefix : (p : Places) (b : List ℕ) (l : Tail) (xs ys : List ℕ) → tables_for p b l xs ≤ tables_for p b l (xs ++ ys)
unfolding tables_for
tables_prefix p b l xs ys =
    let g = plan_from b l in
    omega (arith, ap (λ (d : Growth). d.cursor.tail.tables) (in_turn_append (plan_block p) xs ys g), tables_rise p (in_turn (plan_block p) xs g) ys)

-- those for the first block are counted first
pub tables_step : (p : Places) (b : List ℕ) (l : Tail) (t : ℕ) (ts : List ℕ)
    → let k = choose (view_of p b) l t in tables_for p b l (t ∷ ts) ≡ tables_for p (put_block p b t k) (tail_of (push l (block_start t k) (block_of t))) ts
unfolding tables_for
tables_step p b l t ts = refl

-- ---- the same plan on copies of the tables

pub tables_same : (p q : Places) (b s : List ℕ) (l : Tail) (ts : List ℕ) → Layout p (length b) → Layout q (length s) → Ground (view_of p b) (view_of q s) → Stocked (view_of p b) ts
    → (in_turn (plan_block p) ts (plan_from b l)).cursor.tail ≡ (in_turn (plan_block q) ts (plan_from s l)).cursor.tail
tables_same p q b s l [] lp lq g st = rw (turn_none (plan_block p) (plan_from b l), turn_none (plan_block q) (plan_from s l))
tables_same p q b s l (t ∷ ts) lp lq g st =
    let k = choose (view_of p b) l t in
    let e : choose (view_of q s) l t ≡ k = choose_ground (view_of p b) (view_of q s) g l t in
    let st' = stocked_ground (view_of p b) (view_of q s) g (t ∷ ts) st in
    let tq : Taken (view_of q s) (view_of q (put_block q s t k)) t k = rw e at (stock_taken q s l t ts lq st') in
    let g' = taken_ground (view_of p b) _ (view_of q s) _ t k g (stock_taken p b l t ts lp st) tq in
    rw (
      turn_step (plan_block p) t ts (plan_from b l),
      turn_step (plan_block q) t ts (plan_from s l),
      plan_is p t (plan_from b l),
      plan_is q t (plan_from s l),
      e,
      planned_is p t k (plan_from b l),
      planned_is q t k (plan_from s l),
    )
    (tables_same p q (put_block p b t k) (put_block q s t k) (tail_of (push l (block_start t k) (block_of t))) ts
    (rw (length_put_block p b t k) lp) (rw (length_put_block q s t k) lq) g' (stock_left p b l t ts lp st))

pub tables_ground : (p q : Places) (b s : List ℕ) (l : Tail) (ts : List ℕ) → Layout p (length b) → Layout q (length s) → Ground (view_of p b) (view_of q s) → Stocked (view_of p b) ts
    → tables_for p b l ts ≡ tables_for q s l ts
unfolding tables_for
tables_ground p q b s l ts lp lq g st = ap (λ (r : Tail). r.tables) (tables_same p q b s l ts lp lq g st)

-- what is copied reads the same
module _ (x b : List ℕ) (a c n : ℕ) (room : a + n ≤ length x) (there : c + n ≤ length b) where
  length_part : length (take n (drop c b)) ≡ n
  length_part = length-take-le n (drop c b) (omega (arith, length-drop c b))

  fits : a + length (take n (drop c b)) ≤ length x
  fits = omega (arith, length_part)

  copied_length : length (over x a (take n (drop c b))) ≡ length x
  copied_length = length_over x a (take n (drop c b)) fits

  copied_kept : Kept x (over x a (take n (drop c b))) a n
  copied_kept = rw length_part at (kept_over x a (take n (drop c b)) fits)

  copied : (j : ℕ) → j < n → get_or (over x a (take n (drop c b))) (a + j) 0 ≡ get_or b (c + j) 0
  copied j l = same_at (over x a (take n (drop c b))) (take n (drop c b)) a (over_part x a (take n (drop c b)) fits) j (omega (arith, length_part)) ∙ get_d_part b c n j l

  copied_u16 : (j : ℕ) → j + 2 ≤ n → u16_at (over x a (take n (drop c b))) (a + j) ≡ u16_at b (c + j)
  unfolding u16_at
  copied_u16 j l =
      let e : a + j + 1 ≡ a + (j + 1) = omega arith in
      let f : c + j + 1 ≡ c + (j + 1) = omega arith in
      rw (e, f, copied j (omega arith), copied (j + 1) (omega arith))

pub scratch_layout : (z : ℕ) → 3 ≤ z → z ≤ 256 → Layout (scratch_places z) 36480
scratch_layout z lo hi = record {
  least = lo;
  most = hi;
  some = omega arith;
  few = omega arith;
  zone = omega arith;
  sector = omega arith;
  index = omega arith;
  end = omega arith;
  small = omega arith;
}

module _ (p : Places) (s b : List ℕ) (layout : Layout p (length b)) (long : length s ≡ 36480) where
  abbrev half : List ℕ
  half = over s 2048 (take (6 * p.zones) (drop p.zonetable b))

  length_half : length half ≡ 36480
  length_half = copied_length s b 2048 p.zonetable (6 * p.zones) (omega (arith, layout.most)) (omega (arith, layout.sector, layout.index, layout.end)) ∙ long

  sectors_there : p.sectortable + 128 * p.zones ≤ length b
  sectors_there = omega (arith, layout.index, layout.end)

  sectors_room : 3584 + 128 * p.zones ≤ length half
  sectors_room = omega (arith, layout.most, length_half)

  pub length_scratch : length (scratch_of p s b) ≡ 36480
  unfolding scratch_of
  length_scratch = copied_length half b 3584 p.sectortable (128 * p.zones) sectors_room sectors_there ∙ length_half

  scratch_number : (j : ℕ) → j + 2 ≤ 6 * p.zones → u16_at (scratch_of p s b) (2048 + j) ≡ u16_at b (p.zonetable + j)
  unfolding scratch_of
  scratch_number j l =
      u16_kept (2048 + j) (copied_kept half b 3584 p.sectortable (128 * p.zones) sectors_room sectors_there) (inl (omega (arith, layout.most)))
      ∙ copied_u16 s b 2048 p.zonetable (6 * p.zones) (omega (arith, layout.most)) (omega (arith, layout.sector, layout.index, layout.end)) j l

  scratch_byte : (j : ℕ) → j < 128 * p.zones → get_or (scratch_of p s b) (3584 + j) 0 ≡ get_or b (p.sectortable + j) 0
  unfolding scratch_of
  scratch_byte j l = copied half b 3584 p.sectortable (128 * p.zones) sectors_room sectors_there j l

  scratch_zone : (z : ℕ) → 1 ≤ z → z ≤ p.zones → zone_at (scratch_places p.zones) (scratch_of p s b) z ≡ zone_at p b z
  unfolding zone_at
  scratch_zone z lo hi =
      let a : 2048 + 6 * (z - 1) + 2 ≡ 2048 + (6 * (z - 1) + 2) = omega arith in
      let c : p.zonetable + 6 * (z - 1) + 2 ≡ p.zonetable + (6 * (z - 1) + 2) = omega arith in
      let d : 2048 + 6 * (z - 1) + 4 ≡ 2048 + (6 * (z - 1) + 4) = omega arith in
      let e : p.zonetable + 6 * (z - 1) + 4 ≡ p.zonetable + (6 * (z - 1) + 4) = omega arith in
      rw (a, c, d, e, scratch_number (6 * (z - 1)) (omega arith), scratch_number (6 * (z - 1) + 2) (omega arith), scratch_number (6 * (z - 1) + 4) (omega arith))

  scratch_bit : (n : ℕ) → n < 1024 * p.zones → bit_at (scratch_of p s b) 3584 n ≡ bit_at b p.sectortable n
  unfolding bit_at
  scratch_bit n l = rw (scratch_byte (n / 8) (omega arith))

  pub scratch_ground : Ground (view_of p b) (view_of (scratch_places p.zones) (scratch_of p s b))
  scratch_ground = record { zones = refl; zone = scratch_zone; bit = scratch_bit }

-- ---- the ways out of the functions that plan

pub sectors_few : (t n : ℕ) → DataType t → n ≡ block_of t → n ≤ 1024
sectors_few t n h e = rw e (block_few t (data_zone h))

pub planned_one : (p : Places) (t : ℕ) (k : Found) (b x : List ℕ) (c : Cursor) (q : Pushed) (r : Tail) (a : Sector) (n : ℕ) → x ≡ put_block p b t k → a.0 ≡ block_start t k → n ≡ block_of t → q ≡ push c.tail a.0 n → r ≡ tail_of q
    → ◌≡◌ {A = Growth} (record { books = x; cursor = record { tail = r; table = c.table } }) (planned p t k (record { books = b; cursor = c }))
planned_one p t k b x c q r a n e ea en eq er = rw (planned_is p t k (record { books = b; cursor = c }), e, er, eq, ea, en)

pub copied_both : (p : Places) (s x y b : List ℕ) → x ≡ over s 2048 (take (p.zonetable + 6 * p.zones - p.zonetable) (drop p.zonetable b))
    → y ≡ over x 3584 (take (p.sectortable + 128 * p.zones - p.sectortable) (drop p.sectortable b)) → y ≡ scratch_of p s b
unfolding scratch_of
copied_both p s x y b ex ey =
    let z : p.zonetable + 6 * p.zones - p.zonetable ≡ 6 * p.zones = omega arith in
    let n : p.sectortable + 128 * p.zones - p.sectortable ≡ 128 * p.zones = omega arith in
    ey ∙ rw (ex, z, n) refl

-- what is planned on the copies
module _ (p q : Places) (s x b : List ℕ) (l : Tail) (ts : List ℕ) (h : Plannable p b l ts) (long : length s ≡ 36480)
    (ex : x ≡ scratch_of p s b) (eq : q ≡ scratch_places p.zones) where
  copies_layout : Layout q (length x)
  copies_layout = rw (eq, ex, length_scratch p s b h.layout long) (scratch_layout p.zones h.layout.least h.layout.most)

  copies_ground : Ground (view_of p b) (view_of q x)
  copies_ground = rw (eq, ex) (scratch_ground p s b h.layout long)

  pub copies_plannable : Plannable q x l ts
  copies_plannable = record {
    layout = copies_layout;
    stocked = stocked_ground (view_of p b) (view_of q x) copies_ground ts h.stocked;
    count = h.count;
    few = h.few;
  }

  pub copies_tables : (y : List ℕ) (r : Cursor) → ◌≡◌ {A = Growth} (record { books = y; cursor = r }) (in_turn (plan_block q) ts (plan_from x l)) → r.tail.tables ≡ tables_for p b l ts
  copies_tables y r e = ap (λ (d : Growth). d.cursor.tail.tables) e ∙ sym (tables_for_lem q x l ts) ∙ sym (tables_ground p q b x l ts h.layout copies_layout copies_ground h.stocked)
