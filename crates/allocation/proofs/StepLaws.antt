-- The steps of a growing file on its index tables, as changes of the view: from the bytes that their writers leave.
use mathlib.Core.Path.{◌≡◌, refl, sym, ap, ◌∙◌}
use mathlib.Core.Logic.{inl, inr, ⊎_elim, ◌≢◌}
use mathlib.Core.List.{List}
use Prim.Native.Nat.{ℕ, ◌+◌, ◌-◌, ◌≤◌, ◌<◌}
use native.Mathlib.Nat.{add_assoc, add-zero}
use native.Mathlib.Omega.{arith}
use lib.ListN.{get_or, length, replicate, length-replicate}
use Rattle.field.specs.Numbers.{u16_at, u32_at, put_u16, put_u32}
use Rattle.field.specs.Parts.{over}
use Rattle.field.specs.Kept.{Kept, Apart}
use Rattle.field.proofs.Frames.{kept_trans, kept_wider}
use Rattle.field.proofs.NumberLaws.{u16_kept, u32_kept, kept_put_u16, kept_put_u32, u16_put_same, u32_put_same}
use Rattle.field.proofs.PartLaws.{kept_over, over_part}
use Rattle.field.proofs.BitLaws.{bit_kept}
use Rattle.tables.specs.declared.places.Places.{Places}
use Rattle.tables.specs.declared.index.Pointer.{Pointer}
use Rattle.tables.specs.Places.{Layout}
use Rattle.tables.specs.Sector1.{first_free_of, free_of, active_of, deleted_of, system_of, directory_of, flag_of}
use Rattle.tables.specs.Indexes.{table_place, put_pointer, table_at, link_of, minus}
use Rattle.tables.specs.Same.{Ground}
use Rattle.tables.specs.Views.{View, view_of}
use Rattle.tables.specs.Rules.R1.{Stand, Tails}
use Rattle.tables.proofs.FrameLaws.{table_kept}
use Rattle.tables.proofs.ZoneEntryLaws.{zone_kept}
use Rattle.allocation.specs.NewTables.{take_table, put_child, New, put_named, put_dates, put_size, put_new_parent, count_file}
use Rattle.allocation.specs.Ready.{Head}
use Rattle.allocation.specs.Steps.{SameCounts, with_pointer, child_bytes, parent_bytes, Written, Extended, Made}
use Rattle.allocation.proofs.TableLaws.{table_put16, table_put32, table_over, table_other, counts_past}

-- ---- frames

-- sector 0, N, the zone and the sector table stay
pub record Calm (p : Places) (b b' : List ℕ) : Type 0 where
  pub len : length b' ≡ length b
  pub low : (j : ℕ) → j < 1028 → get_or b' j 0 ≡ get_or b j 0
  pub ground : Ground (view_of p b) (view_of p b')
  pub tails : Stand p (length b) → Tails p b → Tails p b'

calm_trans : {p : Places} {a b c : List ℕ} → Calm p a b → Calm p b c → Calm p a c
calm_trans f g = record {
  len = g.len ∙ f.len;
  low = λ j l. g.low j l ∙ f.low j l;
  ground = record { zones = refl; zone = λ z lo hi. g.ground.zone z lo hi ∙ f.ground.zone z lo hi; bit = λ s l. g.ground.bit s l ∙ f.ground.bit s l };
  tails = λ s t. g.tails (rw f.len s) (f.tails s t);
}

-- nor does sector 1 change
pub record Still (p : Places) (b b' : List ℕ) : Type 0 where
  pub calm : Calm p b b'
  pub head : first_free_of b' ≡ first_free_of b
  pub free : free_of b' ≡ free_of b
  pub counts : SameCounts (view_of p b) (view_of p b')

counts_trans : {u v w : View} → SameCounts u v → SameCounts v w → SameCounts u w
counts_trans f g = record {
  active = g.active ∙ f.active;
  deleted = g.deleted ∙ f.deleted;
  system = g.system ∙ f.system;
  directory = g.directory ∙ f.directory;
  flag = g.flag ∙ f.flag;
}

still_trans : {p : Places} {a b c : List ℕ} → Still p a b → Still p b c → Still p a c
still_trans f g = record {
  calm = calm_trans f.calm g.calm;
  head = g.head ∙ f.head;
  free = g.free ∙ f.free;
  counts = counts_trans f.counts g.counts;
}

module _ {p : Places} {len : ℕ} (lay : Layout p len) {b b' : List ℕ} where
  -- a write into sector 1 after N
  calm_status : Kept b b' 1028 1020 → Calm p b b'
  calm_status k = record {
    len = k.len;
    low = λ j l. k.out j (inl (omega arith));
    ground = record { zones = refl; zone = λ z lo hi. zone_kept p z k (inr (omega arith)); bit = λ s l. bit_kept p.sectortable s k (inr (omega arith)) };
    tails = λ s t. record { zone = λ j l. k.out _ (inr (omega arith)) ∙ t.zone j l; sector = λ j l. k.out _ (inr (omega arith)) ∙ t.sector j l };
  }

  module _ (i : ℕ) (lo : 1 ≤ i) (k : Kept b b' (table_place p i) 128) where
    calm_table : Calm p b b'
    calm_table = record {
      len = k.len;
      low = λ j l. k.out j (inl (omega arith));
      ground = record { zones = refl; zone = λ z low high. zone_kept p z k (inl (omega arith)); bit = λ s l. bit_kept p.sectortable s k (inl (omega arith)) };
      tails = λ s t. record { zone = λ j l. k.out _ (inl (omega arith)) ∙ t.zone j l; sector = λ j l. k.out _ (inl (omega arith)) ∙ t.sector j l };
    }

    pub still_table : Still p b b'
    still_table = record {
      calm = calm_table;
      head = u32_kept 1050 k (inl (omega arith));
      free = u32_kept 1036 k (inl (omega arith));
      counts = counts_past p k (omega arith);
    }

-- ---- a pointer

pub kept_pointer : (p : Places) (b : List ℕ) (i at : ℕ) (q : Pointer) → at + 6 ≤ 128 → Kept b (put_pointer p b i at q) (table_place p i) 128
unfolding put_pointer
kept_pointer p b i at q h =
    let b₁ = put_u32 b (table_place p i + at) q.start.0 in
    kept_trans (kept_wider (kept_put_u32 b (table_place p i + at) q.start.0) (omega arith) (omega arith))
    (kept_wider (kept_put_u16 b₁ (table_place p i + at + 4) q.count) (omega arith) (omega arith))

table_pointer : (p : Places) (b : List ℕ) (i at : ℕ) (q : Pointer) → at + 6 ≤ 128 → table_at p (put_pointer p b i at q) i ≡ with_pointer (table_at p b i) at q
unfolding put_pointer
table_pointer p b i at q h =
    let b₁ = put_u32 b (table_place p i + at) q.start.0 in
    ap (λ (o : ℕ). table_at p (put_u16 b₁ o q.count) i) (add_assoc (table_place p i) at 4)
    ∙ table_put16 p b₁ i (at + 4) q.count (omega arith)
    ∙ ap (λ (t : List ℕ). put_u16 t (at + 4) q.count) (table_put32 p b i at q.start.0 (omega arith))

module _ (p : Places) (b : List ℕ) (i at : ℕ) (q : Pointer) (lay : Layout p (length b)) (lo : 1 ≤ i) (hi : i ≤ p.indexes) (h : at + 6 ≤ 128) where
  pub pointer_still : Still p b (put_pointer p b i at q)
  pointer_still = still_table lay i lo (kept_pointer p b i at q h)

  pub length_put_pointer : length (put_pointer p b i at q) ≡ length b
  length_put_pointer = pointer_still.calm.len

  pub pointer_written : Written (view_of p b) (view_of p (put_pointer p b i at q)) i at q
  pointer_written = record {
    ground = pointer_still.calm.ground;
    indexes = refl;
    head = pointer_still.head;
    free = pointer_still.free;
    counts = pointer_still.counts;
    here = table_pointer p b i at q h;
    there = λ j low high ne. table_other p i j (kept_pointer p b i at q h) lo low ne;
  }

-- ---- a table off the free chain

-- the free chain has lost its head; the counts of files stay
pub record Popped (p : Places) (b b' : List ℕ) : Type 0 where
  pub calm : Calm p b b'
  pub head : first_free_of b' ≡ link_of (table_at p b (first_free_of b))
  pub free : free_of b' ≡ free_of b - 1
  pub counts : SameCounts (view_of p b) (view_of p b')

popped_still : {p : Places} {a b c : List ℕ} → Popped p a b → Still p b c → Popped p a c
popped_still f g = record {
  calm = calm_trans f.calm g.calm;
  head = g.head ∙ f.head;
  free = g.free ∙ f.free;
  counts = counts_trans f.counts g.counts;
}

module _ (p : Places) (b : List ℕ) (lay : Layout p (length b)) (head : Head p b) where
  module _ (x y z : List ℕ) (n m : ℕ) (ex : x ≡ put_u32 b 1050 n) (ey : y ≡ put_u32 x 1036 m) (ez : z ≡ over y (table_place p (first_free_of b)) (replicate 128 0)) where
    head_kept : Kept b x 1050 4
    head_kept = rw ex (kept_put_u32 b 1050 n)

    free_kept : Kept x y 1036 4
    free_kept = rw ey (kept_put_u32 x 1036 m)

    fits : table_place p (first_free_of b) + length {A = ℕ} (replicate 128 0) ≤ length y
    fits = omega (arith, length-replicate {A = ℕ} 128 0, head_kept.len, free_kept.len, head.low, head.high)

    zeros_kept : Kept y z (table_place p (first_free_of b)) 128
    zeros_kept = rw (length-replicate {A = ℕ} 128 0, ← ez) at (kept_over y (table_place p (first_free_of b)) (replicate 128 0) fits)

    pop_there : (j : ℕ) → 1 ≤ j → j ≢ first_free_of b → table_at p z j ≡ table_at p b j
    pop_there j low ne =
        table_other p (first_free_of b) j zeros_kept head.low low ne ∙ table_kept p j free_kept (inr (omega arith)) ∙ table_kept p j head_kept (inr (omega arith))

    pop_new : table_at p z (first_free_of b) ≡ replicate 128 0
    unfolding table_at
    pop_new = rw (length-replicate {A = ℕ} 128 0, ← ez) at (over_part y (table_place p (first_free_of b)) (replicate 128 0) fits)

    word : (o : ℕ) → o + 4 ≤ 1036 → u32_at z o ≡ u32_at b o
    word o h = u32_kept o zeros_kept (inl (omega arith)) ∙ u32_kept o free_kept (inl h) ∙ u32_kept o head_kept (inl (omega arith))

    half : (o : ℕ) → 1040 ≤ o → Apart o 2 1050 4 → o + 2 ≤ 2048 → u16_at z o ≡ u16_at b o
    half o h a g = u16_kept o zeros_kept (inl (omega arith)) ∙ u16_kept o free_kept (inr h) ∙ u16_kept o head_kept a

    pop : n ≡ link_of (table_at p b (first_free_of b)) → m ≡ free_of b - 1 → Popped p b z
    pop en em = record {
      calm = calm_trans (calm_trans (calm_status lay (kept_wider head_kept (omega arith) (omega arith))) (calm_status lay (kept_wider free_kept (omega arith) (omega arith))))
          (calm_table lay (first_free_of b) head.low zeros_kept);
      head = u32_kept 1050 zeros_kept (inl (omega arith)) ∙ u32_kept 1050 free_kept (inr (omega arith)) ∙ rw ex (u32_put_same b 1050 n (omega arith)) ∙ en;
      free = u32_kept 1036 zeros_kept (inl (omega arith)) ∙ rw ey (u32_put_same x 1036 m (omega (arith, head_kept.len))) ∙ em;
      counts = record {
        active = word 1028 (omega arith);
        deleted = word 1032 (omega arith);
        system = half 1040 (omega arith) (inl (omega arith)) (omega arith);
        directory = half 1042 (omega arith) (inl (omega arith)) (omega arith);
        flag = half 1054 (omega arith) (inr (omega arith)) (omega arith);
      };
    }

  taken_popped : Popped p b (take_table p b)
  unfolding take_table
  taken_popped = pop _ _ _ _ _ refl refl refl refl refl

  taken_new : table_at p (take_table p b) (first_free_of b) ≡ replicate 128 0
  unfolding take_table
  taken_new = pop_new _ _ _ _ _ refl refl refl

  taken_there : (j : ℕ) → 1 ≤ j → j ≢ first_free_of b → table_at p (take_table p b) j ≡ table_at p b j
  unfolding take_table
  taken_there = pop_there _ _ _ _ _ refl refl refl

-- ---- a child

module _ (p : Places) (b : List ℕ) (f last : ℕ) (lay : Layout p (length b)) (head : Head p b) (lo : 1 ≤ last) (hi : last ≤ p.indexes) where
  module _ (x y z : List ℕ) (ex : x ≡ put_u32 (take_table p b) (table_place p (first_free_of b)) (minus (first_free_of b))) (ey : y ≡ put_u32 x (table_place p (first_free_of b) + 4) f)
      (ez : z ≡ put_u32 y (table_place p last + 124) (first_free_of b)) where
    own : Kept (take_table p b) y (table_place p (first_free_of b)) 128
    own = kept_trans {b = x} (rw ex (kept_wider (kept_put_u32 (take_table p b) (table_place p (first_free_of b)) (minus (first_free_of b))) (omega arith) (omega arith)))
        (rw ey (kept_wider (kept_put_u32 x (table_place p (first_free_of b) + 4) f) (omega arith) (omega arith)))

    behind : Kept y z (table_place p last) 128
    behind = rw ez (kept_wider (kept_put_u32 y (table_place p last + 124) (first_free_of b)) (omega arith) (omega arith))

    add_popped : Popped p b z
    add_popped = popped_still (taken_popped p b lay head) (still_trans (still_table lay (first_free_of b) head.low own) (still_table lay last lo behind))

    add_there : (j : ℕ) → 1 ≤ j → j ≢ first_free_of b → j ≢ last → table_at p z j ≡ table_at p b j
    add_there j low ne nl =
        table_other p last j behind lo low nl ∙ table_other p (first_free_of b) j own head.low low ne ∙ taken_there p b lay head j low ne

    add_last : last ≢ first_free_of b → table_at p z last ≡ put_u32 (table_at p b last) 124 (first_free_of b)
    add_last ne =
        ap (λ (w : List ℕ). table_at p w last) ez ∙ table_put32 p y last 124 (first_free_of b) (omega arith)
        ∙ ap (λ (t : List ℕ). put_u32 t 124 (first_free_of b)) (table_other p (first_free_of b) last own head.low lo ne ∙ taken_there p b lay head last lo ne)

    add_new : last ≢ first_free_of b → table_at p z (first_free_of b) ≡ child_bytes (first_free_of b) f
    add_new ne =
        table_other p last (first_free_of b) behind lo head.low (λ e. ne (sym e))
        ∙ ap (λ (w : List ℕ). table_at p w (first_free_of b)) ey ∙ table_put32 p x (first_free_of b) 4 f (omega arith)
        ∙ ap (λ (t : List ℕ). put_u32 t 4 f) (ap (λ (w : List ℕ). table_at p w (first_free_of b)) ex
        ∙ ap (λ (o : ℕ). table_at p (put_u32 (take_table p b) o (minus (first_free_of b))) (first_free_of b)) (sym (add-zero (table_place p (first_free_of b))))
        ∙ table_put32 p (take_table p b) (first_free_of b) 0 (minus (first_free_of b)) (omega arith)
        ∙ ap (λ (t : List ℕ). put_u32 t 0 (minus (first_free_of b))) (taken_new p b lay head))

  pub child_popped : Popped p b (put_child p b f last)
  unfolding put_child
  child_popped = add_popped _ _ _ refl refl refl

  child_there : (j : ℕ) → 1 ≤ j → j ≢ first_free_of b → j ≢ last → table_at p (put_child p b f last) j ≡ table_at p b j
  unfolding put_child
  child_there = add_there _ _ _ refl refl refl

  child_last : last ≢ first_free_of b → table_at p (put_child p b f last) last ≡ put_u32 (table_at p b last) 124 (first_free_of b)
  unfolding put_child
  child_last = add_last _ _ _ refl refl refl

  child_new : last ≢ first_free_of b → table_at p (put_child p b f last) (first_free_of b) ≡ child_bytes (first_free_of b) f
  unfolding put_child
  child_new = add_new _ _ _ refl refl refl

  pub length_put_child : length (put_child p b f last) ≡ length b
  length_put_child = child_popped.calm.len

  extended : (q : Pointer) → last ≢ first_free_of b → Extended (view_of p b) (view_of p (put_pointer p (put_child p b f last) (first_free_of b) 22 q)) f last q
  extended q ne =
      let x = first_free_of b in
      let c = put_child p b f last in
      let k = kept_pointer p c x 22 q (omega arith) in
      let s = popped_still child_popped (still_table lay x head.low k) in
      record {
        ground = s.calm.ground;
        indexes = refl;
        head = s.head;
        free = s.free;
        counts = s.counts;
        new = table_pointer p c x 22 q (omega arith) ∙ ap (λ (t : List ℕ). with_pointer t 22 q) (child_new ne);
        last' = table_other p x last k head.low lo ne ∙ child_last ne;
        there = λ j low high nh nl. table_other p x j k head.low low nh ∙ child_there j low nh nl;
      }

pub child_extended : (p : Places) (b : List ℕ) (f last : ℕ) (q : Pointer) → Layout p (length b) → Head p b → 1 ≤ last → last ≤ p.indexes → last ≢ first_free_of b
    → Extended (view_of p b) (view_of p (put_pointer p (put_child p b f last) (first_free_of b) 22 q)) f last q
child_extended p b f last q lay head lo hi ne = extended p b f last lay head lo hi q ne

-- ---- a parent

module _ (p : Places) (c : List ℕ) (i : ℕ) (lay : Layout p (length c)) (lo : 1 ≤ i) (hi : i ≤ p.indexes) where
  kept_name : (name : List ℕ) → length name ≤ 24 → Kept c (put_named p c i name) (table_place p i) 128
  unfolding put_named
  kept_name name h =
      let k = kept_put_u32 c (table_place p i) i in
      kept_trans (kept_wider k (omega arith) (omega arith))
      (kept_wider (kept_over (put_u32 c (table_place p i) i) (table_place p i + 4) name (omega (arith, k.len))) (omega arith) (omega arith))

  table_name : (name : List ℕ) → length name ≤ 24 → table_at p (put_named p c i name) i ≡ over (put_u32 (table_at p c i) 0 i) 4 name
  unfolding put_named
  table_name name h =
      table_over p (put_u32 c (table_place p i) i) i 4 name (rw (kept_put_u32 c (table_place p i) i).len lay) lo hi (omega arith)
      ∙ ap (λ (t : List ℕ). over t 4 name) (ap (λ (o : ℕ). table_at p (put_u32 c o i) i) (sym (add-zero (table_place p i))) ∙ table_put32 p c i 0 i (omega arith))

  kept_dates : (date : List ℕ) → length date ≡ 6 → Kept c (put_dates p c i date) (table_place p i) 128
  unfolding put_dates
  kept_dates date h =
      let k = kept_over c (table_place p i + 28) date (omega arith) in
      kept_trans (kept_wider k (omega arith) (omega arith))
      (kept_wider (kept_over (over c (table_place p i + 28) date) (table_place p i + 34) date (omega (arith, k.len))) (omega arith) (omega arith))

  table_dates : (date : List ℕ) → length date ≡ 6 → table_at p (put_dates p c i date) i ≡ over (over (table_at p c i) 28 date) 34 date
  unfolding put_dates
  table_dates date h =
      table_over p (over c (table_place p i + 28) date) i 34 date (rw (kept_over c (table_place p i + 28) date (omega arith)).len lay) lo hi (omega arith)
      ∙ ap (λ (t : List ℕ). over t 34 date) (table_over p c i 28 date lay lo hi (omega arith))

  kept_size : (long attribute : ℕ) → Kept c (put_size p c i long attribute) (table_place p i) 128
  unfolding put_size
  kept_size long attribute =
      kept_trans (kept_wider (kept_put_u32 c (table_place p i + 40) long) (omega arith) (omega arith))
      (kept_wider (kept_put_u16 (put_u32 c (table_place p i + 40) long) (table_place p i + 44) attribute) (omega arith) (omega arith))

  table_size : (long attribute : ℕ) → table_at p (put_size p c i long attribute) i ≡ put_u16 (put_u32 (table_at p c i) 40 long) 44 attribute
  unfolding put_size
  table_size long attribute =
      table_put16 p (put_u32 c (table_place p i + 40) long) i 44 attribute (omega arith)
      ∙ ap (λ (t : List ℕ). put_u16 t 44 attribute) (table_put32 p c i 40 long (omega arith))

module _ (p : Places) (b : List ℕ) (n : New) (lay : Layout p (length b)) (head : Head p b) (name : length n.name ≤ 24) (date : length n.date ≡ 6) where
  module _ (x y z : List ℕ) (ex : x ≡ put_named p (take_table p b) (first_free_of b) n.name) (ey : y ≡ put_dates p x (first_free_of b) n.date)
      (ez : z ≡ put_size p y (first_free_of b) n.length n.attribute) where
    lay₀ : Layout p (length (take_table p b))
    lay₀ = rw (taken_popped p b lay head).calm.len lay

    named : Kept (take_table p b) x (table_place p (first_free_of b)) 128
    named = rw ex (kept_name p (take_table p b) (first_free_of b) lay₀ head.low head.high n.name name)

    lay₁ : Layout p (length x)
    lay₁ = rw named.len lay₀

    dated : Kept x y (table_place p (first_free_of b)) 128
    dated = rw ey (kept_dates p x (first_free_of b) lay₁ head.low head.high n.date date)

    lay₂ : Layout p (length y)
    lay₂ = rw dated.len lay₁

    make_kept : Kept (take_table p b) z (table_place p (first_free_of b)) 128
    make_kept = kept_trans named (kept_trans dated (rw ez (kept_size p y (first_free_of b) lay₂ head.low head.high n.length n.attribute)))

    make_new : table_at p z (first_free_of b) ≡ parent_bytes (first_free_of b) n
    make_new =
        let at : List ℕ → List ℕ = λ w. table_at p w (first_free_of b) in
        ap at ez ∙ table_size p y (first_free_of b) lay₂ head.low head.high n.length n.attribute
        ∙ ap (λ (t : List ℕ). put_u16 (put_u32 t 40 n.length) 44 n.attribute) (ap at ey ∙ table_dates p x (first_free_of b) lay₁ head.low head.high n.date date
        ∙ ap (λ (t : List ℕ). over (over t 28 n.date) 34 n.date) (ap at ex ∙ table_name p (take_table p b) (first_free_of b) lay₀ head.low head.high n.name name
        ∙ ap (λ (t : List ℕ). over (put_u32 t 0 (first_free_of b)) 4 n.name) (taken_new p b lay head)))

  parent_kept : Kept (take_table p b) (put_new_parent p b n) (table_place p (first_free_of b)) 128
  unfolding put_new_parent
  parent_kept = make_kept _ _ _ refl refl refl

  parent_new : table_at p (put_new_parent p b n) (first_free_of b) ≡ parent_bytes (first_free_of b) n
  unfolding put_new_parent
  parent_new = make_new _ _ _ refl refl refl

  pub parent_popped : Popped p b (put_new_parent p b n)
  parent_popped = popped_still (taken_popped p b lay head) (still_table lay (first_free_of b) head.low parent_kept)

  pub length_put_new_parent : length (put_new_parent p b n) ≡ length b
  length_put_new_parent = parent_popped.calm.len

  parent_there : (j : ℕ) → 1 ≤ j → j ≢ first_free_of b → table_at p (put_new_parent p b n) j ≡ table_at p b j
  parent_there j low ne = table_other p (first_free_of b) j parent_kept head.low low ne ∙ taken_there p b lay head j low ne

-- ---- a file counted

-- sector 1 has a file more
pub record Counting (p : Places) (b b' : List ℕ) (s d : ℕ) : Type 0 where
  pub calm : Calm p b b'
  pub head : first_free_of b' ≡ first_free_of b
  pub free : free_of b' ≡ free_of b
  pub active : active_of b' ≡ active_of b + 1
  pub deleted : deleted_of b' ≡ deleted_of b
  pub system : system_of b' ≡ system_of b + s
  pub directory : directory_of b' ≡ directory_of b + d
  pub flag : flag_of b' ≡ flag_of b
  pub table : (j : ℕ) → table_at p b' j ≡ table_at p b j

module _ (p : Places) (b : List ℕ) (s d : ℕ) (date : List ℕ) (lay : Layout p (length b)) (six : length date ≡ 6) where
  module _ (x y z w : List ℕ) (ex : x ≡ put_u32 b 1028 (active_of b + 1)) (ey : y ≡ put_u16 x 1040 (system_of b + s)) (ez : z ≡ put_u16 y 1042 (directory_of b + d)) (ew : w ≡ over z 1044 date) where
    active_kept : Kept b x 1028 4
    active_kept = rw ex (kept_put_u32 b 1028 (active_of b + 1))

    system_kept : Kept x y 1040 2
    system_kept = rw ey (kept_put_u16 x 1040 (system_of b + s))

    directory_kept : Kept y z 1042 2
    directory_kept = rw ez (kept_put_u16 y 1042 (directory_of b + d))

    date_kept : Kept z w 1044 6
    date_kept = rw (six, ← ew) at (kept_over z 1044 date (omega (arith, active_kept.len, system_kept.len, directory_kept.len)))

    status_kept : Kept b w 1028 1020
    status_kept = kept_trans (kept_wider active_kept (omega arith) (omega arith)) (kept_trans (kept_wider system_kept (omega arith) (omega arith))
        (kept_trans (kept_wider directory_kept (omega arith) (omega arith)) (kept_wider date_kept (omega arith) (omega arith))))

    apart_kept : (o : ℕ) → Apart o 4 1040 10 → u32_at w o ≡ u32_at x o
    apart_kept o a =
        u32_kept o date_kept (⊎_elim (λ h. inl (omega arith)) (λ h. inr (omega arith)) a)
        ∙ u32_kept o directory_kept (⊎_elim (λ h. inl (omega arith)) (λ h. inr (omega arith)) a)
        ∙ u32_kept o system_kept (⊎_elim (λ h. inl (omega arith)) (λ h. inr (omega arith)) a)

    count : Counting p b w s d
    count = record {
      calm = calm_status lay status_kept;
      head = apart_kept 1050 (inr (omega arith)) ∙ u32_kept 1050 active_kept (inr (omega arith));
      free = apart_kept 1036 (inl (omega arith)) ∙ u32_kept 1036 active_kept (inr (omega arith));
      active = apart_kept 1028 (inl (omega arith)) ∙ rw ex (u32_put_same b 1028 (active_of b + 1) (omega arith));
      deleted = apart_kept 1032 (inl (omega arith)) ∙ u32_kept 1032 active_kept (inr (omega arith));
      system = u16_kept 1040 date_kept (inl (omega arith)) ∙ u16_kept 1040 directory_kept (inl (omega arith)) ∙ rw ey (u16_put_same x 1040 (system_of b + s) (omega (arith, active_kept.len)));
      directory = u16_kept 1042 date_kept (inl (omega arith)) ∙ rw ez (u16_put_same y 1042 (directory_of b + d) (omega (arith, active_kept.len, system_kept.len)));
      flag = u16_kept 1054 date_kept (inr (omega arith)) ∙ u16_kept 1054 directory_kept (inr (omega arith))
          ∙ u16_kept 1054 system_kept (inr (omega arith)) ∙ u16_kept 1054 active_kept (inr (omega arith));
      table = λ j. table_kept p j status_kept (inr (omega arith));
    }

  pub file_counted : Counting p b (count_file b s d date) s d
  unfolding count_file
  file_counted = count _ _ _ _ refl refl refl refl

  pub length_count_file : length (count_file b s d date) ≡ length b
  length_count_file = file_counted.calm.len

pub parent_made : (p : Places) (b : List ℕ) (n : New) (s d : ℕ) → Layout p (length b) → Head p b → length n.name ≤ 24 → length n.date ≡ 6
    → Made (view_of p b) (view_of p (count_file (put_new_parent p b n) s d n.date)) n s d
parent_made p b n s d lay head name date =
    let f = parent_popped p b n lay head name date in
    let g = file_counted p (put_new_parent p b n) s d n.date (rw f.calm.len lay) date in
    record {
      ground = (calm_trans f.calm g.calm).ground;
      indexes = refl;
      head = g.head ∙ f.head;
      free = g.free ∙ f.free;
      active = g.active ∙ ap (λ (k : ℕ). k + 1) f.counts.active;
      deleted = g.deleted ∙ f.counts.deleted;
      system = g.system ∙ ap (λ (k : ℕ). k + s) f.counts.system;
      directory = g.directory ∙ ap (λ (k : ℕ). k + d) f.counts.directory;
      flag = g.flag ∙ f.counts.flag;
      new = g.table (first_free_of b) ∙ parent_new p b n lay head name date;
      there = λ j low high ne. g.table j ∙ parent_there p b n lay head name date j low ne;
    }
