-- The free chain's head becomes the parent of a new file that has no pointer yet: the rules hold but for what a file without pointers breaks.
use mathlib.Core.Path.{◌≡◌, refl, sym, ap, ◌∙◌}
use mathlib.Core.Logic.{◌≢◌, inl, inr, ⊎_elim}
use mathlib.Core.List.{List}
use Prim.Native.Nat.{ℕ, suc, ◌+◌, ◌-◌, ◌*◌, ◌%◌, ◌≤◌, ◌<◌}
use native.Mathlib.Nat.{not-suc-le-zero}
use native.Mathlib.Decide.{ℕ_discrete}
use native.Mathlib.Omega.{arith}
use lib.ListN.{length}
use Rattle.field.proofs.Frames.{kept_refl}
use Rattle.field.proofs.Sums.{sum_zero}
use Rattle.tables.specs.Indexes.{word_of, parent_of, attribute_of, minus, slots_of, base_of, start_of, count_of, Used, sectors_of, file_of, system_bit, directory_bit, header_start, header_count}
use Rattle.tables.specs.Views.{View, Free, Parent, Child, walk, next, cov, tally, claims_of, over_of, Under}
use Rattle.tables.specs.Rules.R2.{R2}
use Rattle.tables.specs.Rules.R3.{R3}
use Rattle.tables.specs.Rules.R4.{R4}
use Rattle.tables.specs.Rules.R5.{FileChain, R5}
use Rattle.tables.specs.Rules.R6.{R6}
use Rattle.tables.specs.Rules.R7.{Owned}
use Rattle.tables.specs.Rules.R8.{file_sectors, InType, R8}
use Rattle.tables.specs.Rules.R9.{free_one, R9}
use Rattle.tables.proofs.ChainLaws.{walk_none}
use Rattle.tables.proofs.IndexLaws.{slots_parent, base_parent, file_parent}
use Rattle.tables.proofs.PointerLaws.{cov_none, header_over_lem, over_none}
use Rattle.tables.proofs.Sector1CountLaws.{Ones, only_ne, ones_other, ones_active}
use Rattle.tables.proofs.SameLaws.{ground_R2, ground_R3}
use Rattle.allocation.specs.NewTables.{New}
use Rattle.allocation.specs.NextPointer.{no_pointer}
use Rattle.allocation.specs.Steps.{parent_bytes, Made}
use Rattle.allocation.specs.Held.{ShapeBut, Held, Ends}
use Rattle.allocation.proofs.PointerBytes.{parent_word, parent_attribute, parent_zero32, parent_zero16}
use Rattle.allocation.proofs.ChainedLaws.{head_free}
use Rattle.allocation.proofs.ChangeLaws.{Changed, free_file, parent_file, child_file, begins_was, file_there, parent_there, pop_R4, changed_R5, changed_R6, pointers_at, sectors_at, changed_R8, free_less, changed_R9}

-- books that keep the rules are held, whatever file is to grow
pub lawful_held : (v : View) (f : ℕ) {extra : ℕ → ℕ} → R2 v → R3 v → R4 v → R5 v → R6 v → Owned v extra → R8 v → R9 v → Held v f extra
lawful_held v f r2 r3 r4 r5 r6 r7 r8 r9 = record {
  r2 = r2;
  r3 = r3;
  r4 = r4;
  r5 = r5;
  r6 = λ i l lo. (let o = r6 i l lo in record { first = o.first; used = o.used; one = λ w ne. o.one w; header = o.header });
  r7 = r7;
  r8 = λ p l lo ne. r8 p l lo;
  r9 = r9;
}

-- a new file
pub record Begun (extra : ℕ → ℕ) (v : View) (f : ℕ) : Type 0 where
  pub held : Held v f extra
  pub ends : Ends v f (record { tail = no_pointer; table = record { 0 = f } })
  pub sectors : file_sectors v f ≡ 0
  pub types : (t : ℕ) → InType v f t

-- ---- the new parent's bytes

module _ (x : ℕ) (n : New) (lo : 1 ≤ x) (name : length n.name ≤ 24) (date : length n.date ≡ 6) where
  abbrev t : List ℕ
  t = parent_bytes x n

  nz : word_of t ≢ 0
  nz z = omega (arith, parent_word x n name date)

  new_slots : slots_of x t ≡ 10
  new_slots = slots_parent x t nz (parent_word x n name date)

  new_base : base_of x t ≡ 64
  new_base = base_parent x t (parent_word x n name date)

  new_file : file_of x t ≡ x
  new_file = file_parent x t nz (parent_word x n name date)

  no_start : (j : ℕ) → start_of x t j ≡ 0
  no_start j = rw new_base (parent_zero32 x n name date (64 + 6 * j) (omega arith))

  no_count : (j : ℕ) → count_of x t j ≡ 0
  no_count j = rw new_base (parent_zero16 x n name date (64 + 6 * j + 4) (omega arith))

  no_header : (header_start t ≡ 0) × (header_count t ≡ 0)
  no_header = (parent_zero32 x n name date 58 (omega arith), parent_zero16 x n name date 62 (omega arith))

  new_over : (s : ℕ) → claims_of x t s ≡ 0
  unfolding claims_of over_of
  new_over s =
      let pointers = sum_zero (slots_of x t) (λ j. cov (start_of x t j) (count_of x t j) s) (λ j l. rw (no_count j) (cov_none _ s)) in
      let header = header_over_lem x t s (parent_word x n name date) in
      let none = rw no_header.1 at header in
      omega (arith, cov_none (header_start t) s)

  new_sectors : sectors_of x t ≡ 0
  unfolding sectors_of
  new_sectors = sum_zero (slots_of x t) _ (λ j l. no_count j)

-- ---- no table is of a free one

module _ (v : View) (few : v.indexes ≤ 4096) (x : ℕ) (free : Free v x) (r4 : R4 v) (r5 : R5 v) where
  not_parent : Parent v x → ⊥
  not_parent b = omega (arith, b.word, free.word, free.low)

  none_of : (j : ℕ) → 1 ≤ j → j ≤ v.indexes → file_of j (v.table j) ≢ x
  none_of j lo hi e =
      ⊎_elim (λ z. omega (arith, free_file v j (record { low = lo; high = hi; word = z }), free.low))
      (λ o. ⊎_elim (λ z. (let b : Parent v j = record { low = lo; high = hi; word = z } in not_parent (rw (sym (parent_file v j b) ∙ e) at b)))
      (λ z. (let b : Child v j = record { low = lo; high = hi; word = z } in not_parent (rw (sym (child_file v j few b) ∙ e) at (r5.stands j b).parent))) o)
      (r4.own j (omega arith) lo).word

  no_sectors : file_sectors v x ≡ 0
  unfolding file_sectors tally
  no_sectors = sum_zero v.indexes _ (λ k l. only_ne (file_of (k + 1) (v.table (k + 1))) x _ (none_of (k + 1) (omega arith) (omega arith)))

-- ---- the step

module _ (v v' : View) (n : New) (s d : ℕ) (w : Made v v' n s d) (few : v.indexes ≤ 4096) (free : Free v v.head) (name : length n.name ≤ 24) (date : length n.date ≡ 6)
    (active : n.attribute % 2 ≡ 0) (system : s ≡ system_bit n.attribute) (directory : d ≡ directory_bit n.attribute) {extra : ℕ → ℕ} (h : Held v v.head extra) where
  abbrev x : ℕ
  x = v.head

  abbrev t' : List ℕ
  t' = v'.table v.head

  change : Changed v v' x x
  change = record {
    ground = w.ground;
    indexes = w.indexes;
    few = few;
    file = free.low;
    low = free.low;
    high = free.high;
    kept = λ j lo hi ne. rw (w.there j lo hi ne) (kept_refl (v.table j) 124 4);
    there = λ j lo hi ne nf. w.there j lo hi ne;
    was = inr (free_file v x free);
    now = rw w.new (new_file x n free.low name date);
    word = inl (rw w.new (parent_word x n name date));
  }

  parent : Parent v' x
  parent = record { low = free.low; high = rw w.indexes free.high; word = rw w.new (parent_word x n name date) }

  chain : FileChain v' x 0
  unfolding walk
  chain = record {
    ends = rw w.new (parent_zero32 x n name date 124 (omega arith));
    each = λ k l. absurd (not-suc-le-zero l);
    names = λ k l. absurd (not-suc-le-zero l);
    full = λ k l. absurd (not-suc-le-zero l);
  }

  -- the new parent has no child
  no_child : (c : ℕ) → Child v' c → parent_of (v'.table c) ≢ x
  no_child c b e =
      let hi : c ≤ v.indexes = rw w.indexes at b.high in
      let ne : c ≢ x = λ g. (let z : minus c ≡ c = sym b.word ∙ ap (λ (i : ℕ). word_of (v'.table i)) g ∙ parent.word ∙ sym g in omega arith) in
      let p : parent_of (v.table c) ≡ x = sym (parent_there v v' x x change c b.low hi ne) ∙ e in
      not_parent v few x free h.r4 h.r5 (rw p at (h.r5.stands c (begins_was v v' x x change c b.low hi ne (minus c) b)).parent)

  unused : (j : ℕ) → Used x t' j → ⊥
  unused j u =
      let z = rw w.new at u in
      omega (arith, no_start x n free.low name date j, no_count x n free.low name date j)

  shape_but : ShapeBut v' x x t'
  shape_but = record {
    first = λ j l u. absurd (unused (suc j) u);
    used = λ j l u. absurd (unused j u);
    one = λ e ne. absurd (ne refl);
    header = λ e. rw w.new (record { run = λ u. absurd (omega (arith, no_header x n free.low name date)) });
  }

  ones : Ones x t' 1 0 (free_one x t') (system_bit n.attribute) (directory_bit n.attribute)
  ones =
      let a : attribute_of t' ≡ n.attribute = rw w.new (parent_attribute x n name date) in
      let o = rw a at (ones_active x t' (λ z. omega (arith, parent.word, parent.low)) parent.word (λ z. omega (arith, rw a at z))) in
      record { active = o.active; deleted = o.deleted; free = refl; system = o.system; directory = o.directory }

  new_held : Begun extra v' x
  new_held = record {
    held = record {
      r2 = ground_R2 v v' w.ground h.r2;
      r3 = ground_R3 v v' w.ground h.r3;
      r4 = pop_R4 v v' x x change refl w.head h.r4;
      r5 = changed_R5 v v' x x change h.r5 0 chain (λ c b e. absurd (no_child c b e)) (λ b. absurd (omega (arith, b.word, parent.word, b.high, w.indexes)));
      r6 = changed_R6 v v' x x change shape_but h.r6;
      r7 = record {
        count = λ m l lo. (let l' : m < 1024 * (v.zones - 1) = rw w.ground.zones at l in
            omega (arith, pointers_at v v' x x change m, over_none x (v.table x) m free.low free.word, over m, h.r7.count m l' lo, w.ground.bit m (omega arith)));
      };
      r8 = changed_R8 v v' x x change h.r6 h.r8;
      r9 = changed_R9 v v' x x change 0 0 (free_one x (v.table x)) 0 0 1 0 (free_one x t') (system_bit n.attribute) (directory_bit n.attribute)
          (ones_other x (v.table x) (λ g. omega (arith, free.low, free.word))) ones
          (omega (arith, w.active)) (omega (arith, w.deleted)) (free_less v v' x x change free w.free h.r9) (omega (arith, w.system)) (omega (arith, w.directory)) w.flag h.r9;
    };
    ends = record {
      parent = parent;
      long = 0;
      chain = chain;
      table = walk_none (next v') x;
      capacity = sym slots;
      within = omega arith;
      used = λ j l. absurd (not-suc-le-zero l);
      unused = λ j l o. unused j;
      pointer = λ l. absurd (not-suc-le-zero l);
      none = λ e. (refl, refl);
    };
    sectors = omega (arith, sectors_at v v' x x change, no_sectors v few x free h.r4 h.r5, sectors);
    types = λ y i j m e u. absurd (none i j m e u);
  }
    where
      slots : slots_of x t' ≡ 10
      slots = rw w.new (new_slots x n free.low name date)

      over : (m : ℕ) → claims_of x t' m ≡ 0
      over m = rw w.new (new_over x n free.low name date m)

      sectors : sectors_of x t' ≡ 0
      sectors = rw w.new (new_sectors x n free.low name date)

      none : (i j m : ℕ) → file_of i (v'.table i) ≡ x → Under v' i j m → ⊥
      none i j m e u = elim (ℕ_discrete i x) [
        | yes g ↦ unused j (rw g at (let z : Used i (v'.table i) j = omega (arith, u.from, u.to) in z))
        | no ne ↦ (let hi : i ≤ v.indexes = rw w.indexes at u.high in
            none_of v few x free h.r4 h.r5 i u.low hi (sym (file_there v v' x x change i u.low hi ne) ∙ e))
      ]

pub made_held : (v v' : View) (n : New) (s d : ℕ) {extra : ℕ → ℕ} → v.indexes ≤ 4096 → Made v v' n s d → v.head ≢ 0 → R2 v → R3 v → R4 v → R5 v → R6 v → Owned v extra → R8 v → R9 v
    → n.attribute % 2 ≡ 0 → s ≡ system_bit n.attribute → d ≡ directory_bit n.attribute → length n.name ≤ 24 → length n.date ≡ 6 → Begun extra v' v.head
made_held v v' n s d few w head r2 r3 r4 r5 r6 r7 r8 r9 active system directory name date =
    new_held v v' n s d w few (head_free v r4 head) name date active system directory (lawful_held v v.head r2 r3 r4 r5 r6 r7 r8 r9)
