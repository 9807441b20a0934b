-- A child comes off the free chain, comes after a file's last table, which is full, and has its first pointer. The rules hold as before.
use mathlib.Core.Path.{◌≡◌, refl, sym, ap, ap₂, ◌∙◌}
use mathlib.Core.Logic.{◌≢◌, inl, inr}
use mathlib.Core.List.{List}
use Prim.Native.Nat.{ℕ, suc, ◌+◌, ◌-◌, ◌*◌, ◌≤◌, ◌<◌}
use native.Mathlib.Decide.{ℕ_discrete}
use native.Mathlib.Omega.{arith}
use lib.ListN.{length}
use Rattle.field.specs.Kept.{Kept}
use Rattle.field.specs.Sum.{sum_to}
use Rattle.field.proofs.Frames.{kept_refl}
use Rattle.field.proofs.NumberLaws.{u16_kept, u32_kept, kept_put_u32, u32_put_same}
use Rattle.tables.specs.declared.index.Pointer.{Pointer}
use Rattle.tables.specs.Kinds.{zone_of}
use Rattle.tables.specs.Indexes.{word_of, parent_of, link_of, minus, slots_of, base_of, start_of, count_of, Used, sectors_of, file_of}
use Rattle.tables.specs.Views.{View, Begins, Free, Parent, Child, walk, next, cov, claims_of, over_of, Under}
use Rattle.tables.specs.Rules.R5.{Full, FileChain, Stands, R5}
use Rattle.tables.specs.Rules.R6.{Run}
use Rattle.tables.specs.Rules.R9.{free_one}
use Rattle.tables.proofs.ChainLaws.{walk_same, walk_once, chain_one}
use Rattle.tables.proofs.IndexLaws.{slots_child, base_child, file_child}
use Rattle.tables.proofs.PointerLaws.{cov_none, header_other, over_none}
use Rattle.tables.proofs.Sector1CountLaws.{only_ne, ones_other}
use Rattle.tables.proofs.SameLaws.{ground_R2, ground_R3}
use Rattle.allocation.specs.declared.growth.Cursor.{Cursor}
use Rattle.allocation.specs.Steps.{with_pointer, child_bytes, Extended}
use Rattle.allocation.specs.Held.{ShapeBut, Held, Ends}
use Rattle.allocation.proofs.PointerBytes.{word_kept, parent_kept, kept_pointer, pointer_start, pointer_count, pointer_read, child_length, child_word, child_parent, child_zero32, child_zero16}
use Rattle.allocation.proofs.ChainedLaws.{head_free}
use Rattle.allocation.proofs.ChangeLaws.{Changed, Longer, member_begins, free_file, used_not, sum_first, ground_zone, ground_run, full_there, parent_there, begins_there, begins_was, pop_R4, changed_R5, changed_R6, pointers_at, sectors_at, changed_types, changed_R8, free_less, changed_R9}
use Rattle.allocation.proofs.EndsLaws.{end_begins, end_file}

-- ---- the new child's bytes

module _ (x f : ℕ) (q : Pointer) (lo : 1 ≤ x) (hi : x ≤ 4096) where
  abbrev n : List ℕ
  n = with_pointer (child_bytes x f) 22 q

  kept : Kept (child_bytes x f) n 22 6
  kept = kept_pointer (child_bytes x f) 22 q

  pub new_word : word_of n ≡ minus x
  new_word = word_kept x kept (omega arith) ∙ child_word x f

  pub new_parent : parent_of n ≡ f
  new_parent = parent_kept x kept (omega arith) ∙ child_parent x f

  pub new_link : link_of n ≡ 0
  new_link = u32_kept 124 kept (inr (omega arith)) ∙ child_zero32 x f 124 (omega arith)

  pub new_slots : slots_of x n ≡ 17
  new_slots = slots_child x n (λ z. omega (arith, new_word)) (λ z. omega (arith, new_word))

  pub new_base : base_of x n ≡ 22
  new_base = base_child x n (λ z. omega (arith, new_word))

  pub new_file : file_of x n ≡ f
  new_file = file_child x n (λ z. omega (arith, new_word)) (λ z. omega (arith, new_word)) ∙ new_parent

  pub new_start : start_of x n 0 ≡ q.start.0
  new_start = rw new_base (pointer_start (child_bytes x f) 22 q (child_length x f) (omega arith))

  pub new_count : count_of x n 0 ≡ q.count
  new_count = rw new_base (pointer_count (child_bytes x f) 22 q (child_length x f) (omega arith))

  pub no_start : (j : ℕ) → 0 < j → start_of x n j ≡ 0
  no_start j l = rw new_base (u32_kept (22 + 6 * j) kept (inr (omega arith)) ∙ child_zero32 x f (22 + 6 * j) (omega arith))

  pub no_count : (j : ℕ) → 0 < j → count_of x n j ≡ 0
  no_count j l = rw new_base (u16_kept (22 + 6 * j + 4) kept (inr (omega arith)) ∙ child_zero16 x f (22 + 6 * j + 4) (omega arith))

  pub new_over : (s : ℕ) → claims_of x n s ≡ cov q.start.0 q.count s
  unfolding claims_of over_of
  new_over s =
      let pointers : sum_to 17 (λ j. cov (start_of x n j) (count_of x n j) s) ≡ cov q.start.0 q.count s
      = sum_first 17 _ (omega arith) (λ j h l. rw (no_count j l) (cov_none _ s)) ∙ ap₂ (λ (a c : ℕ). cov a c s) new_start new_count in
      rw new_slots (omega (arith, header_other x n s (λ z. omega (arith, new_word))))

  pub new_sectors : sectors_of x n ≡ q.count
  unfolding sectors_of
  new_sectors = rw new_slots (sum_first 17 _ (omega arith) (λ j h l. no_count j l) ∙ new_count)

-- ---- the step

module _ (v v' : View) (f : ℕ) (q : Pointer) (c : Cursor) (w : Extended v v' f c.table.0 q) (few : v.indexes ≤ 4096)
    (sized : (j : ℕ) → 1 ≤ j → j ≤ v.indexes → length (v.table j) ≡ 128) (e : Ends v f c) (room : c.tail.capacity ≤ c.tail.slot) (free : Free v v.head)
    (run : Run v q.start.0 q.count) where
  abbrev x : ℕ
  x = v.head

  abbrev i : ℕ
  i = c.table.0

  small : v.head ≤ 4096
  small = omega (arith, free.high)

  i_begins : (u : ℕ) × Begins v i u × (u ≢ 0)
  i_begins = end_begins v few f c e

  i_file : file_of i (v.table i) ≡ f
  i_file = end_file v few f c e

  f_not : f ≢ x
  f_not = used_not v f x f free e.parent (λ z. omega (arith, e.parent.low))

  -- the last table is full
  full : Full v i
  full l h = e.used l (omega (arith, e.capacity))

  change : Changed v v' f x
  change = record {
    ground = w.ground;
    indexes = w.indexes;
    few = few;
    file = e.parent.low;
    low = free.low;
    high = free.high;
    kept = λ j lo hi ne. elim (ℕ_discrete j i) [ yes g ↦ rw (g, w.last') (kept_put_u32 (v.table i) 124 x) | no nl ↦ rw (w.there j lo hi ne nl) (kept_refl (v.table j) 124 4) ];
    there = λ j lo hi ne nf. w.there j lo hi ne (λ g. nf (rw g i_file));
    was = inr (free_file v x free);
    now = rw w.new (new_file x f q free.low small);
    word = inr (rw w.new (new_word x f q free.low small));
  }

  -- ---- f's chain is one longer

  not_last : (k : ℕ) → k < e.long → walk (next v) f k ≢ i
  not_last k l g =
      walk_once (next v) f (suc e.long) e.chain.ends (λ n h. (member_begins v few f e.long e.parent e.chain n h).1.low) e.long (omega arith) k l (g ∙ sym e.table)

  walk_here : (k : ℕ) → k ≤ e.long → walk (next v') f k ≡ walk (next v) f k
  walk_here =
      walk_same (next v) (next v') f e.long (λ k l. (let b = member_begins v few f e.long e.parent e.chain k (omega arith) in
      ap link_of (w.there _ b.1.low b.1.high (used_not v _ x _ free b.1 b.2) (not_last k l))))

  walk_new : walk (next v') f (suc e.long) ≡ x
  unfolding walk
  walk_new =
      ap (next v') (walk_here e.long (omega arith) ∙ e.table)
      ∙ ap link_of w.last' ∙ u32_put_same (v.table i) 124 x (omega (arith, sized i i_begins.1.low i_begins.1.high))

  walk_end : walk (next v') f (suc (suc e.long)) ≡ 0
  unfolding walk
  walk_end = ap (next v') walk_new ∙ ap link_of w.new ∙ new_link x f q free.low small

  child : Child v' x
  child = record { low = free.low; high = rw w.indexes free.high; word = rw w.new (new_word x f q free.low small) }

  parent : Parent v' f
  parent = begins_there v v' f x change f e.parent.low e.parent.high f_not f e.parent

  chain : FileChain v' f (suc e.long)
  chain = record {
    ends = walk_end;
    each = λ k l. elim (ℕ_discrete k e.long) [
      | yes g ↦ rw (g, walk_new) child
      | no ne ↦ (let b = e.chain.each k (omega arith) in rw (walk_here (suc k) (omega arith)) (begins_there v v' f x change _ b.low b.high (child_not _ b) _ b))
    ];
    names = λ k l. elim (ℕ_discrete k e.long) [
      | yes g ↦ rw (g, walk_new, w.new) (new_parent x f q free.low small)
      | no ne ↦ (let b = e.chain.each k (omega arith) in rw (walk_here (suc k) (omega arith)) (parent_there v v' f x change _ b.low b.high (child_not _ b) ∙ e.chain.names k (omega arith)))
    ];
    full = λ k l. (let b = member_begins v few f e.long e.parent e.chain k l in
        rw (walk_here k (omega arith)) (full_there v v' f x change _ b.1.low b.1.high (used_not v _ x _ free b.1 b.2)
        (elim (ℕ_discrete k e.long) [ yes g ↦ rw (g, e.table) full | no ne ↦ e.chain.full k (omega arith) ])));
  }
    where
      child_not : (k : ℕ) → Child v k → k ≢ x
      child_not k b = used_not v k x _ free b (λ z. omega (arith, b.high))

  stands : (r : R5 v) (k : ℕ) → Child v' k → parent_of (v'.table k) ≡ f → Stands v' f (suc e.long) k
  stands r k h names = elim (ℕ_discrete k x) [ yes g ↦ record { parent = parent; place = e.long; below = omega arith; here = walk_new ∙ sym g } | no ne ↦ old ne ]
    where
      old : k ≢ x → Stands v' f (suc e.long) k
      old ne =
          let hi : k ≤ v.indexes = rw w.indexes at h.high in
          let p : parent_of (v.table k) ≡ f = sym (parent_there v v' f x change k h.low hi ne) ∙ names in
          let o = rw p at (r.stands k (begins_was v v' f x change k h.low hi ne (minus k) h)) in
          let m = chain_one v f (r.long f) e.long (r.chain f e.parent) e.chain in
          record { parent = parent; place = o.place; below = omega (arith, o.below); here = walk_here (suc o.place) (omega (arith, o.below)) ∙ o.here }

  -- ---- the rules

  abbrev t' : List ℕ
  t' = v'.table v.head

  used_first : Used x t' 0
  used_first = rw w.new (omega (arith, new_count x f q free.low small, run.some))

  unused_next : (l : ℕ) → 0 < l → Used x t' l → ⊥
  unused_next l h u =
      let z = rw w.new at u in
      omega (arith, no_start x f q free.low small l h, no_count x f q free.low small l h)

  shape_but : ShapeBut v' f x t'
  shape_but = record {
    first = λ l h u. absurd (unused_next (suc l) (omega arith) u);
    used = λ l h u. elim (ℕ_discrete l 0) [
      | yes g ↦ rw (g, w.new, new_start x f q free.low small, new_count x f q free.low small) (ground_run v v' w.ground _ _ run)
      | no ne ↦ absurd (unused_next l (omega arith) u)
    ];
    one = λ g nf. used_first;
    header = λ g. absurd (omega (arith, child.word, free.low, small));
  }

  child_held : (d d' : ℕ → ℕ) → ((s : ℕ) → cov q.start.0 q.count s + d' s ≡ d s) → Held v f d → (k : ℕ)
      → Longer v v' f q.start.0 q.count d' (record { tail = record { last = q; slot = 1; capacity = 17; tables = k }; table = record { 0 = v.head } })
  child_held d d' less h k = record {
    held = record {
      r2 = ground_R2 v v' w.ground h.r2;
      r3 = ground_R3 v v' w.ground h.r3;
      r4 = pop_R4 v v' f x change refl w.head h.r4;
      r5 = changed_R5 v v' f x change h.r5 (suc e.long) chain (stands h.r5) (λ b. (0, rw slots (omega arith), used_first));
      r6 = changed_R6 v v' f x change shape_but h.r6;
      r7 = record {
        count = λ s l lo. (let l' : s < 1024 * (v.zones - 1) = rw w.ground.zones at l in
            omega (arith, pointers_at v v' f x change s, over_none x (v.table x) s free.low free.word, over s, less s, h.r7.count s l' lo, w.ground.bit s (omega arith)));
      };
      r8 = changed_R8 v v' f x change h.r6 h.r8;
      r9 = changed_R9 v v' f x change 0 0 (free_one x (v.table x)) 0 0 0 0 (free_one x t') 0 0 (ones_other x (v.table x) (λ g. omega (arith, free.low, free.word)))
          (ones_other x t' (λ g. omega (arith, child.word, free.low, small)))
          (omega (arith, w.counts.active)) (omega (arith, w.counts.deleted)) (free_less v v' f x change free w.free h.r9)
          (omega (arith, w.counts.system)) (omega (arith, w.counts.directory)) w.counts.flag h.r9;
    };
    ends = record {
      parent = parent;
      long = suc e.long;
      chain = chain;
      table = walk_new;
      capacity = sym slots;
      within = omega arith;
      used = λ l g. (let z : l ≡ 0 = omega arith in rw z used_first);
      unused = λ l g o. unused_next l (omega arith);
      pointer = λ g. rw w.new (pointer_read (child_bytes x f) 22 q (child_length x f) (omega arith));
      none = λ g. absurd (omega arith);
    };
    sectors = omega (arith, sectors_at v v' f x change, only_ne (file_of x (v.table x)) f (sectors_of x (v.table x)) (λ g. omega (arith, free_file v x free, e.parent.low)), sectors);
    front = λ o l. (change.kept f e.parent.low e.parent.high f_not).out o (inl (omega arith));
    types = λ y all part. changed_types v v' f x change h.r6 y all (λ l s u. type y part l s u);
  }
    where
      slots : slots_of x t' ≡ 17
      slots = rw w.new (new_slots x f q free.low small)

      base : base_of x t' ≡ 22
      base = rw w.new (new_base x f q free.low small)

      over : (s : ℕ) → claims_of x t' s ≡ cov q.start.0 q.count s
      over s = rw w.new (new_over x f q free.low small s)

      sectors : sectors_of x t' ≡ q.count
      sectors = rw w.new (new_sectors x f q free.low small)

      type : (y : ℕ) → ((s : ℕ) → q.start.0 ≤ s → s < q.start.0 + q.count → (v.zone (zone_of s)).ztype ≡ y) → (l s : ℕ) → Under v' x l s → (v'.zone (zone_of s)).ztype ≡ y
      type y part l s u = elim (ℕ_discrete l 0) [
        | yes g ↦ (let lo : q.start.0 ≤ s = rw (g, w.new, new_start x f q free.low small) at u.from in
            let hi : s < q.start.0 + q.count = rw (g, w.new, new_start x f q free.low small, new_count x f q free.low small) at u.to in
            rw (ground_zone v v' w.ground s (omega (arith, run.high))) (part s lo hi))
        | no ne ↦ absurd (unused_next l (omega arith) (omega (arith, u.from, u.to)))
      ]

pub extended_held : (v v' : View) (f : ℕ) (c : Cursor) → v.indexes ≤ 4096 → ((j : ℕ) → 1 ≤ j → j ≤ v.indexes → length (v.table j) ≡ 128) → Ends v f c
    → (d d' : ℕ → ℕ) → Held v f d → (k : ℕ) (q : Pointer) → Extended v v' f c.table.0 q → c.tail.capacity ≤ c.tail.slot → v.head ≢ 0 → Run v q.start.0 q.count
    → ((s : ℕ) → cov q.start.0 q.count s + d' s ≡ d s)
    → Longer v v' f q.start.0 q.count d' (record { tail = record { last = q; slot = 1; capacity = 17; tables = k }; table = record { 0 = v.head } })
extended_held v v' f c few sized e d d' h k q w room head run less = child_held v v' f q c w few sized e room (head_free v h.r4 head) run d d' less h k
