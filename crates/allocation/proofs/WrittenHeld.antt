-- A pointer is written in a file's last table: the last one longer, or one beside it. The rules hold as before.
use mathlib.Core.Path.{◌≡◌, refl, sym, ap, ap₂, ◌∙◌}
use mathlib.Core.Logic.{◌≢◌, ◌⊎◌, inl, inr, ⊎_elim}
use mathlib.Core.List.{List}
use Prim.Native.Nat.{ℕ, suc, ◌+◌, ◌-◌, ◌*◌, ◌≤◌, ◌<◌}
use native.Mathlib.Decide.{ℕ_discrete, dec_lt}
use native.Mathlib.Omega.{arith}
use lib.ListN.{get_or, length}
use Rattle.field.specs.Kept.{Kept}
use Rattle.field.proofs.Frames.{kept_refl}
use Rattle.field.proofs.Sums.{sum_at}
use Rattle.field.proofs.NumberLaws.{u16_kept, u32_kept}
use Rattle.tables.specs.declared.index.Pointer.{Pointer}
use Rattle.tables.specs.Kinds.{zone_of}
use Rattle.tables.specs.Indexes.{word_of, parent_of, minus, slots_of, base_of, start_of, count_of, Used, sectors_of, file_of, pointer_place}
use Rattle.tables.specs.Views.{View, Begins, Parent, Child, walk, next, cov, header_over, claims_of, over_of, Under}
use Rattle.tables.specs.Rules.R5.{FileChain, Stands, R5}
use Rattle.tables.specs.Rules.R6.{Run}
use Rattle.tables.specs.Rules.R8.{InType}
use Rattle.tables.proofs.ChainLaws.{chain_one}
use Rattle.tables.proofs.FrameLaws.{header_kept, header_over_kept}
use Rattle.tables.proofs.IndexLaws.{slots_in, base_parent, base_low}
use Rattle.tables.proofs.PointerLaws.{cov_cases, cov_in, cov_none, cov_join, header_other}
use Rattle.tables.proofs.Sector1CountLaws.{only_eq}
use Rattle.tables.proofs.SameLaws.{ground_R2, ground_R3}
use Rattle.allocation.specs.declared.growth.Cursor.{Cursor}
use Rattle.allocation.specs.NextPointer.{place_of}
use Rattle.allocation.specs.Steps.{Written}
use Rattle.allocation.specs.Held.{ShapeBut, Held, Ends}
use Rattle.allocation.proofs.LastLaws.{slots_end}
use Rattle.allocation.proofs.EndsLaws.{end_begins, end_file, end_more, next_place, last_place, last_start, last_count}
use Rattle.allocation.proofs.PointerBytes.{word_kept, parent_kept, slots_kept, file_kept, kept_pointer, pointer_read, start_others, count_others, start_slot, count_slot}
use Rattle.allocation.proofs.ChangeLaws.{Changed, Longer, Stays, stays_same, member_begins, member_word, ground_zone, ground_run, ground_header, walk_stays, chain_stays, stay_R4, changed_R5, changed_R6, pointers_at, sectors_at, under_zone, changed_types, changed_R8, stay_R9}

-- slot j of file f's last table reads q, which lies over what it lay over before and the n sectors from a on
module _ (v v' : View) (f at : ℕ) (q : Pointer) (c : Cursor) (w : Written v v' c.table.0 at q) (few : v.indexes ≤ 4096)
    (sized : (j : ℕ) → 1 ≤ j → j ≤ v.indexes → length (v.table j) ≡ 128) (e : Ends v f c) (run : Run v q.start.0 q.count)
    (j a n : ℕ) (slot : j < slots_of c.table.0 (v.table c.table.0)) (place : at ≡ base_of c.table.0 (v.table c.table.0) + 6 * j)
    (before : (l : ℕ) → l < j → Used c.table.0 (v.table c.table.0) l)
    (after : (l : ℕ) → l < slots_of c.table.0 (v.table c.table.0) → j < l → Used c.table.0 (v.table c.table.0) l → ⊥)
    (lies : (s : ℕ) → cov q.start.0 q.count s ≡ cov (start_of c.table.0 (v.table c.table.0) j) (count_of c.table.0 (v.table c.table.0) j) s + cov a n s)
    (longer : q.count ≡ count_of c.table.0 (v.table c.table.0) j + n) where
  abbrev i : ℕ
  i = c.table.0

  abbrev t : List ℕ
  t = v.table c.table.0

  abbrev t' : List ℕ
  t' = v'.table c.table.0

  i_begins : (x : ℕ) × Begins v i x × (x ≢ 0)
  i_begins = end_begins v few f c e

  i_low : 1 ≤ i
  i_low = i_begins.1.low

  i_high : i ≤ v.indexes
  i_high = i_begins.1.high

  i_file : file_of i t ≡ f
  i_file = end_file v few f c e

  i_word : (word_of t ≡ i) ⊎ (word_of t ≡ minus i)
  i_word = rw e.table at (member_word v few f e.long e.parent e.chain e.long (omega arith))

  behind : 8 ≤ at
  behind = omega (arith, base_low i t)

  fits : at + 6 ≤ 124
  fits = omega (arith, slots_in i t)

  kept : Kept t t' at 6
  kept = rw w.here (kept_pointer t at q)

  change : Changed v v' f i
  change = record {
    ground = w.ground;
    indexes = w.indexes;
    few = few;
    file = e.parent.low;
    low = i_low;
    high = i_high;
    kept = λ k lo hi ne. rw (w.there k lo hi ne) (kept_refl (v.table k) 124 4);
    there = λ k lo hi ne nf. w.there k lo hi ne;
    was = inl i_file;
    now = file_kept i kept behind ∙ i_file;
    word = rw (word_kept i kept behind) i_word;
  }

  -- ---- the table's pointers

  same_slots : slots_of i t' ≡ slots_of i t
  same_slots = slots_kept i kept behind

  other_start : (l : ℕ) → l ≢ j → start_of i t' l ≡ start_of i t l
  other_start = start_others i at j t t' q w.here place

  other_count : (l : ℕ) → l ≢ j → count_of i t' l ≡ count_of i t l
  other_count = count_others i at j t t' q w.here place

  new_start : start_of i t' j ≡ q.start.0
  new_start = start_slot i at j t t' q w.here place (sized i i_low i_high) slot

  new_count : count_of i t' j ≡ q.count
  new_count = count_slot i at j t t' q w.here place (sized i i_low i_high) slot

  used_to : (l : ℕ) → l < suc j → Used i t' l
  used_to l h = elim (ℕ_discrete l j) [
    | yes q ↦ rw q (omega (arith, new_count, run.some))
    | no ne ↦ omega (arith, before l (omega arith), other_start l ne, other_count l ne)
  ]

  unused_from : (l : ℕ) → l < slots_of i t → j < l → Used i t' l → ⊥
  unused_from l h g u = let ne : l ≢ j = λ q. omega arith in after l h g (rw (other_start l ne, other_count l ne) at u)

  -- a parent's pointers stand behind its header pointer, and a child has none
  same_header : (s : ℕ) → header_over i t' s ≡ header_over i t s
  same_header s = elim (ℕ_discrete (word_of t) i) [
    | yes g ↦ header_over_kept i s kept (inl (omega (arith, base_parent i t g))) (word_kept i kept behind)
    | no ne ↦ header_other i t' s (λ g. ne (sym (word_kept i kept behind) ∙ g)) ∙ sym (header_other i t s ne)
  ]

  new_over : (s : ℕ) → claims_of i t' s ≡ claims_of i t s + cov a n s
  unfolding claims_of over_of
  new_over s =
      let m = sum_at (slots_of i t) j (λ l. cov (start_of i t' l) (count_of i t' l) s) (λ l. cov (start_of i t l) (count_of i t l) s) slot
      (λ l h ne. ap₂ (λ (x y : ℕ). cov x y s) (other_start l ne) (other_count l ne)) in
      let g : cov (start_of i t' j) (count_of i t' j) s ≡ cov q.start.0 q.count s = ap₂ (λ (x y : ℕ). cov x y s) new_start new_count in
      rw same_slots (omega (arith, lies s, same_header s))

  new_sectors : sectors_of i t' ≡ sectors_of i t + n
  unfolding sectors_of
  new_sectors =
      let m = sum_at (slots_of i t) j (λ l. count_of i t' l) (λ l. count_of i t l) slot (λ l h ne. other_count l ne) in
      rw same_slots (omega (arith, new_count, longer))

  -- ---- chains

  stays : (k : ℕ) → 1 ≤ k → k ≤ v.indexes → Stays v v' k
  stays k lo hi = elim (ℕ_discrete k i) [ yes q ↦ rw q here | no ne ↦ stays_same v v' k (w.there k lo hi ne) ]
    where
      here : Stays v v' i
      here = record {
        link = u32_kept 124 kept (inr (omega (arith, fits)));
        word = word_kept i kept behind;
        parent = parent_kept i kept behind;
        full = λ full l h. elim (dec_lt l (suc j)) [
          | yes g ↦ used_to l g
          | no g ↦ absurd (after l (rw same_slots at h) (omega arith) (full l (rw same_slots at h)))
        ];
      }

  member_stays : (k : ℕ) → k < suc e.long → Stays v v' (walk (next v) f k)
  member_stays k l = let b = (member_begins v few f e.long e.parent e.chain k l).1 in stays _ b.low b.high

  walk_here : (k : ℕ) → k ≤ suc e.long → walk (next v') f k ≡ walk (next v) f k
  walk_here = walk_stays v v' w.indexes f e.long e.chain member_stays

  chain : FileChain v' f e.long
  chain = chain_stays v v' w.indexes f e.long e.chain member_stays

  parent : Parent v' f
  parent = record { low = e.parent.low; high = rw w.indexes e.parent.high; word = (stays f e.parent.low e.parent.high).word ∙ e.parent.word }

  stands : (r : R5 v) (k : ℕ) → Child v' k → parent_of (v'.table k) ≡ f → Stands v' f e.long k
  stands r k h names =
      let hi : k ≤ v.indexes = rw w.indexes at h.high in
      let s = stays k h.low hi in
      let p : parent_of (v.table k) ≡ f = sym s.parent ∙ names in
      let o = rw p at (r.stands k (record { low = h.low; high = hi; word = sym s.word ∙ h.word })) in
      let m = chain_one v f (r.long f) e.long (r.chain f e.parent) e.chain in
      record { parent = parent; place = o.place; below = omega (arith, o.below); here = walk_here (suc o.place) (omega (arith, o.below)) ∙ o.here }

  -- ---- the rules

  shape_but : ShapeBut v f i t → ShapeBut v' f i t'
  shape_but o = record {
    first = λ l h u. elim (dec_lt j (suc l)) [ yes g ↦ absurd (unused_from (suc l) (rw same_slots at h) g u) | no g ↦ used_to l (omega arith) ];
    used = λ l h u. elim (ℕ_discrete l j) [
      | yes g ↦ rw (g, new_start, new_count) (ground_run v v' w.ground _ _ run)
      | no ne ↦ rw (other_start l ne, other_count l ne) (ground_run v v' w.ground _ _ (o.used l (rw same_slots at h) (rw (other_start l ne, other_count l ne) at u)))
    ];
    one = λ g nf. used_to 0 (omega arith);
    header = λ g. (let p : word_of t ≡ i = sym (word_kept i kept behind) ∙ g in header_kept kept (inl (omega (arith, base_parent i t p))) (ground_header v v' w.ground t (o.header p)));
  }

  pub slot_held : (d d' : ℕ → ℕ) → ((s : ℕ) → cov a n s + d' s ≡ d s) → Held v f d → (k m : ℕ) → m ≡ suc j
      → Longer v v' f a n d' (record { tail = record { last = q; slot = m; capacity = c.tail.capacity; tables = k }; table = c.table })
  slot_held d d' less h k m em = record {
    held = record {
      r2 = ground_R2 v v' w.ground h.r2;
      r3 = ground_R3 v v' w.ground h.r3;
      r4 = stay_R4 v v' f i change w.head (λ z. i_begins.2 (sym i_begins.1.word ∙ z)) h.r4;
      r5 = changed_R5 v v' f i change h.r5 e.long chain (stands h.r5) (λ b. (j, rw same_slots slot, used_to j (omega arith)));
      r6 = changed_R6 v v' f i change (shape_but (h.r6 i (omega (arith, i_high)) i_low)) h.r6;
      r7 = record {
        count = λ s l lo. (let l' : s < 1024 * (v.zones - 1) = rw w.ground.zones at l in
            omega (arith, pointers_at v v' f i change s, new_over s, less s, h.r7.count s l' lo, w.ground.bit s (omega arith)));
      };
      r8 = changed_R8 v v' f i change h.r6 h.r8;
      r9 = stay_R9 v v' f i change (word_kept i kept behind) (λ g. u16_kept 44 kept (inl (omega (arith, base_parent i t g)))) w.counts w.free h.r9;
    };
    ends = record {
      parent = parent;
      long = e.long;
      chain = chain;
      table = walk_here e.long (omega arith) ∙ e.table;
      capacity = e.capacity ∙ sym same_slots;
      within = omega (arith, e.capacity);
      used = λ l g. used_to l (omega arith);
      unused = λ l h g. unused_from l (rw same_slots at h) (omega arith);
      pointer = λ g. rw (at_place, w.here) (pointer_read t at q (sized i i_low i_high) (omega (arith, fits)));
      none = λ g. absurd (omega arith);
    };
    sectors = omega (arith, sectors_at v v' f i change, only_eq (file_of i t) f (sectors_of i t) i_file, new_sectors);
    front = front;
    types = λ y all part. changed_types v v' f i change h.r6 y all (λ l s u. type y all part l s u);
  }
    where
      at_place : pointer_place c.tail.capacity m ≡ at
      at_place = omega (arith, e.capacity, slots_end i t (λ z. i_begins.2 (sym i_begins.1.word ∙ z)), base_low i t)

      front : (o : ℕ) → o < 64 → get_or (v'.table f) o 0 ≡ get_or (v.table f) o 0
      front o l = elim (ℕ_discrete f i) [
        | yes g ↦ rw g (kept.out o (inl (omega (arith, base_parent i t (rw g at e.parent.word)))))
        | no ne ↦ ap (λ (y : List ℕ). get_or y o 0) (w.there f e.parent.low e.parent.high ne)
      ]

      under : (l s : ℕ) → l < slots_of i t → start_of i t l ≤ s → s < start_of i t l + count_of i t l → Under v i l s
      under l s h lo hi = record { low = i_low; high = i_high; slot = h; from = lo; to = hi }

      old_type : (y : ℕ) → InType v f y → (l s : ℕ) → Under v i l s → (v'.zone (zone_of s)).ztype ≡ y
      old_type y all l s u = rw (under_zone v v' f i change h.r6 i l s u) (all i l s i_file u)

      type : (y : ℕ) → InType v f y → ((s : ℕ) → a ≤ s → s < a + n → (v.zone (zone_of s)).ztype ≡ y) → (l s : ℕ) → Under v' i l s → (v'.zone (zone_of s)).ztype ≡ y
      type y all part l s u = elim (ℕ_discrete l j) [
        | yes g ↦ (let lo : q.start.0 ≤ s = rw (g, new_start) at u.from in let hi : s < q.start.0 + q.count = rw (g, new_start, new_count) at u.to in
            ⊎_elim (λ b. old_type y all j s (under j s slot b.low b.high))
            (λ z. ⊎_elim (λ b. rw (ground_zone v v' w.ground s (omega (arith, run.high))) (part s b.low b.high)) (λ y. absurd (omega (arith, lies s, cov_in q.start.0 q.count s lo hi)))
            (cov_cases a n s))
            (cov_cases (start_of i t j) (count_of i t j) s))
        | no ne ↦ old_type y all l s (under l s (rw same_slots at u.slot) (rw (other_start l ne) at u.from) (rw (other_start l ne, other_count l ne) at u.to))
      ]

module _ (v v' : View) (f : ℕ) (c : Cursor) (few : v.indexes ≤ 4096) (sized : (j : ℕ) → 1 ≤ j → j ≤ v.indexes → length (v.table j) ≡ 128) (e : Ends v f c)
    (d d' : ℕ → ℕ) (h : Held v f d) (k : ℕ) where
  -- the last pointer has n sectors more
  pub joined_held : (n : ℕ) → 1 ≤ c.tail.slot → Written v v' c.table.0 (place_of c.tail) (record { start = c.tail.last.start; count = c.tail.last.count + n })
      → Run v c.tail.last.start.0 (c.tail.last.count + n) → ((s : ℕ) → cov (c.tail.last.start.0 + c.tail.last.count) n s + d' s ≡ d s)
      → Longer v v' f (c.tail.last.start.0 + c.tail.last.count) n d'
      (record { tail = record { last = record { start = c.tail.last.start; count = c.tail.last.count + n }; slot = c.tail.slot; capacity = c.tail.capacity; tables = k }; table = c.table })
  joined_held n some w run less =
      slot_held v v' f (place_of c.tail) (record { start = c.tail.last.start; count = c.tail.last.count + n }) c w few sized e run
      (c.tail.slot - 1) (c.tail.last.start.0 + c.tail.last.count) n (omega (arith, e.within, e.capacity)) (last_place v f c e some) (λ l g. e.used l (omega arith)) (λ l g o. e.unused l g (omega arith))
      (λ s. rw (last_start v f c e some, last_count v f c e some) (cov_join c.tail.last.start.0 c.tail.last.count n s)) (rw (last_count v f c e some) refl) d d' less h k
      c.tail.slot (omega arith)

  -- a pointer of its own stands after it
  pub beside_held : (q : Pointer) → Written v v' c.table.0 (pointer_place c.tail.capacity (c.tail.slot + 1)) q → c.tail.slot < c.tail.capacity → Run v q.start.0 q.count
      → ((s : ℕ) → cov q.start.0 q.count s + d' s ≡ d s)
      → Longer v v' f q.start.0 q.count d' (record { tail = record { last = q; slot = c.tail.slot + 1; capacity = c.tail.capacity; tables = k }; table = c.table })
  beside_held q w room run less =
      slot_held v v' f (pointer_place c.tail.capacity (c.tail.slot + 1)) q c w few sized e run c.tail.slot q.start.0 q.count slot (next_place v f c e room)
      (λ l g. e.used l g) (λ l g o. e.unused l g (omega arith)) (λ s. rw (start, count) (omega (arith, cov_none 0 s))) (omega (arith, count)) d d' less h k
      (c.tail.slot + 1) (omega arith)
    where
      slot : c.tail.slot < slots_of c.table.0 (v.table c.table.0)
      slot = end_more v f c e room

      none : start_of c.table.0 (v.table c.table.0) c.tail.slot + count_of c.table.0 (v.table c.table.0) c.tail.slot ≡ 0
      none = elim (ℕ_discrete (start_of c.table.0 (v.table c.table.0) c.tail.slot + count_of c.table.0 (v.table c.table.0) c.tail.slot) 0) [
        | yes z ↦ z
        | no ne ↦ absurd (e.unused c.tail.slot slot (omega arith) (omega arith))
      ]

      start : start_of c.table.0 (v.table c.table.0) c.tail.slot ≡ 0
      start = omega (arith, none)

      count : count_of c.table.0 (v.table c.table.0) c.tail.slot ≡ 0
      count = omega (arith, none)
