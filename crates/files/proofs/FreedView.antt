-- The bytes of a file given back, as the rules see them.
use mathlib.Core.Path.{◌≡◌, refl, sym, ap, ◌∙◌}
use mathlib.Core.Logic.{◌≢◌, inl, inr}
use mathlib.Core.List.{List}
use Prim.Native.Nat.{ℕ, suc, ◌+◌, ◌-◌, ◌*◌, ◌≤◌, ◌<◌}
use native.Mathlib.Decide.{ℕ_discrete, dec_lt}
use native.Mathlib.Omega.{arith}
use lib.Dec.{eqb}
use lib.ListN.{get_or, length}
use Rattle.field.specs.Kept.{Kept}
use Rattle.field.specs.Numbers.{u16_at, u32_at, put_u32}
use Rattle.field.specs.Parts.{over, AllBytes}
use Rattle.field.specs.Sum.{sum_to}
use Rattle.field.proofs.BitLaws.{bit_kept}
use Rattle.field.proofs.Frames.{kept_refl, kept_trans, kept_wider}
use Rattle.field.proofs.NumberLaws.{u16_kept, u32_kept, kept_put_u32, u32_put_same}
use Rattle.field.proofs.PartLaws.{kept_over}
use Rattle.tables.specs.declared.places.Places.{Places}
use Rattle.tables.specs.Indexes.{table_place, table_at, link_of, put_link, file_of}
use Rattle.tables.specs.Places.{Layout}
use Rattle.tables.specs.Lawful.{LawfulWith}
use Rattle.tables.specs.Sector1.{active_of, deleted_of, free_of, system_of, directory_of, first_free_of, flag_of}
use Rattle.tables.specs.Sectors.{sector_at}
use Rattle.tables.specs.Views.{View, view_of, Parent, walk, next, tally, claims_of, claims_over}
use Rattle.tables.specs.Rules.R5.{FileChain}
use Rattle.tables.proofs.ChoiceLaws.{sum_mono}
use Rattle.tables.proofs.Sector1CountLaws.{only_le}
use Rattle.tables.proofs.FrameLaws.{sector1_zone, sector1_bit, sector1_table, sector1_tails}
use Rattle.tables.proofs.IndexLaws.{length_table}
use Rattle.tables.proofs.PointerLaws.{claimed_inside}
use Rattle.tables.proofs.ZoneEntryLaws.{zone_kept}
use Rattle.allocation.specs.Last.{last_table}
use Rattle.allocation.specs.Lengthened.{Quiet}
use Rattle.allocation.proofs.ChangeLaws.{member_file}
use Rattle.allocation.proofs.HeldLawful.{quiet_trans}
use Rattle.allocation.proofs.LastLaws.{last_table_lem}
use Rattle.allocation.proofs.TableLaws.{table_put32, table_other}
use Rattle.files.specs.Release.{chain_of, file_tables, free_tables, put_freed, freed_file, gone}
use Rattle.files.specs.Freed.{Freed}
use Rattle.files.proofs.FileTables.{tables_in, file_member, file_tally}
use Rattle.files.proofs.FreedBytes.{free_first, Spared, spared_trans, spared_quiet, spared_table, blank_zeros, blank_link, Blanked, tables_blanked, tables_bits, free_all}

-- ---- sector 1

-- sector 1 has n free tables more, f the first of them, and a temporarily deleted file fewer
record Status (b b' : List ℕ) (f n : ℕ) : Type 0 where
  pub kept : Kept b b' 1028 1020
  pub head : first_free_of b' ≡ f
  pub active : active_of b' ≡ active_of b
  pub deleted : deleted_of b' ≡ deleted_of b - 1
  pub free : free_of b' ≡ free_of b + n
  pub system : system_of b' ≡ system_of b
  pub directory : directory_of b' ≡ directory_of b
  pub flag : flag_of b' ≡ flag_of b

module _ (b : List ℕ) (f n : ℕ) (date : List ℕ) (six : length date ≡ 6) (long : 2048 ≤ length b) where
  module _ (x y z w : List ℕ) (ex : x ≡ put_u32 b 1032 (deleted_of b - 1)) (ey : y ≡ put_u32 x 1036 (free_of b + n)) (ez : z ≡ put_u32 y 1050 f) (ew : w ≡ over z 1044 date) where
    deleted_kept : Kept b x 1032 4
    deleted_kept = rw ex (kept_put_u32 b 1032 (deleted_of b - 1))

    free_kept : Kept x y 1036 4
    free_kept = rw ey (kept_put_u32 x 1036 (free_of b + n))

    head_kept : Kept y z 1050 4
    head_kept = rw ez (kept_put_u32 y 1050 f)

    date_kept : Kept z w 1044 6
    date_kept = rw (six, ← ew) at (kept_over z 1044 date (omega (arith, deleted_kept.len, free_kept.len, head_kept.len)))

    half : (o : ℕ) → 1040 ≤ o → o + 2 ≤ 1044 → u16_at w o ≡ u16_at b o
    half o lo hi = u16_kept o date_kept (inl (omega arith)) ∙ u16_kept o head_kept (inl (omega arith)) ∙ u16_kept o free_kept (inr (omega arith)) ∙ u16_kept o deleted_kept (inr (omega arith))

    status : Status b w f n
    status = record {
      kept = kept_trans (kept_wider deleted_kept (omega arith) (omega arith)) (kept_trans (kept_wider free_kept (omega arith) (omega arith))
          (kept_trans (kept_wider head_kept (omega arith) (omega arith)) (kept_wider date_kept (omega arith) (omega arith))));
      head = u32_kept 1050 date_kept (inr (omega arith)) ∙ rw ez (u32_put_same y 1050 f (omega (arith, deleted_kept.len, free_kept.len)));
      active = u32_kept 1028 date_kept (inl (omega arith)) ∙ u32_kept 1028 head_kept (inl (omega arith)) ∙ u32_kept 1028 free_kept (inl (omega arith)) ∙ u32_kept 1028 deleted_kept (inl (omega arith));
      deleted = u32_kept 1032 date_kept (inl (omega arith)) ∙ u32_kept 1032 head_kept (inl (omega arith)) ∙ u32_kept 1032 free_kept (inl (omega arith))
          ∙ rw ex (u32_put_same b 1032 (deleted_of b - 1) (omega arith));
      free = u32_kept 1036 date_kept (inl (omega arith)) ∙ u32_kept 1036 head_kept (inl (omega arith)) ∙ rw ey (u32_put_same x 1036 (free_of b + n) (omega (arith, deleted_kept.len)));
      system = half 1040 (omega arith) (omega arith);
      directory = half 1042 (omega arith) (omega arith);
      flag = u16_kept 1054 date_kept (inr (omega arith)) ∙ u16_kept 1054 head_kept (inr (omega arith)) ∙ u16_kept 1054 free_kept (inr (omega arith)) ∙ u16_kept 1054 deleted_kept (inr (omega arith));
    }

  freed_status : Status b (put_freed b f n date) f n
  unfolding put_freed
  freed_status = status _ _ _ _ refl refl refl refl

-- ---- the file's tables

module _ (p : Places) (b : List ℕ) (lay : Layout p (length b)) {extra : ℕ → ℕ} (lawful : LawfulWith extra p b) (f : ℕ) (parent : Parent (view_of p b) f) where
  abbrev v : View
  v = view_of p b

  abbrev m : ℕ
  m = lawful.r5.long f

  abbrev table : ℕ → ℕ
  table k = walk (next v) f k

  chain : FileChain v f m
  chain = lawful.r5.chain f parent

  inside : (k : ℕ) → k < suc m → (1 ≤ table k) × (table k ≤ p.indexes)
  inside = tables_in v f m parent chain

  -- R7: what its tables claim is set, and claimed once
  pub gone_is : (s : ℕ) → gone v f s ≡ sum_to (suc m) (λ k. claims_of (table k) (table_at p b (table k)) s)
  unfolding gone
  gone_is s = file_tally v lawful.r4 lawful.r5 lay.few f parent (λ i t. claims_of i t s)

  gone_le : (s : ℕ) → gone v f s ≤ claims_over v s
  unfolding gone claims_over tally
  gone_le s = sum_mono p.indexes _ _ (λ k l. only_le (eqb (file_of (k + 1) (table_at p b (k + 1))) f) (claims_of (k + 1) (table_at p b (k + 1)) s))

  gone_set : (s : ℕ) → gone v f s ≤ sector_at p b s
  gone_set s =
      elim (dec_lt 0 (gone v f s)) [
        | yes some ↦
            let w = claimed_inside v lawful.r6 s (omega (arith, gone_le s)) in
            omega (arith, gone_le s, lawful.r7.count s w.1 w.0)
        | no none ↦ omega arith
      ]

  all : free_tables p b (chain_of v f) ≡ free_first p b f (suc m)
  all = free_all p b lay lawful.r6 f m parent chain

  pub all_freed : Blanked p b f (suc m) (free_tables p b (chain_of v f))
  all_freed = rw all (tables_blanked p b lay lawful.r6 f m parent chain (suc m) (omega arith))

  all_bits : (s : ℕ) → s < 1024 * p.zones → sector_at p (free_tables p b (chain_of v f)) s + gone v f s ≡ sector_at p b s
  all_bits s l = rw (all, gone_is s) (tables_bits p b lay lawful.r6 f m parent chain s l (suc m) (omega arith) (omega (arith, gone_is s, gone_set s)))

  -- ---- then the last link

  abbrev last : ℕ
  last = last_table v f

  last_is : table m ≡ last
  last_is = last_table_lem v f m parent chain

  last_in : (1 ≤ last) × (last ≤ p.indexes)
  last_in = rw last_is at (inside m (omega arith))

  module _ (c d : List ℕ) (h : Blanked p b f (suc m) c) (ed : d ≡ put_link p c last (first_free_of b)) where
    link_kept : Kept c d (table_place p last) 128
    link_kept = rw ed (kept_wider (kept_put_u32 c (table_place p last + 124) (first_free_of b)) (omega arith) (omega arith))

    pub linked_last : table_at p d last ≡ put_u32 (table_at p c last) 124 (first_free_of b)
    linked_last = ap (λ (x : List ℕ). table_at p x last) ed ∙ table_put32 p c last 124 (first_free_of b) (omega arith)

    -- its tables keep all but that link
    linked_kept : (j : ℕ) → 1 ≤ j → Kept (table_at p c j) (table_at p d j) 124 4
    linked_kept j lo =
        elim (ℕ_discrete j last) [
          | yes e ↦ rw (e, linked_last) (kept_put_u32 (table_at p c last) 124 (first_free_of b))
          | no ne ↦ rw (table_other p last j link_kept last_in.0 lo ne) (kept_refl (table_at p c j) 124 4)
        ]

    pub linked_spared : Spared p b d
    linked_spared = spared_trans h.spared (spared_table p c d last (rw h.spared.kept.len lay) last_in.0 last_in.1 link_kept)

    long_table : (k : ℕ) → k < suc m → length (table_at p b (table k)) ≡ 128
    long_table k l = length_table p b (table k) lay (inside k l).0 (inside k l).1

    linked_bit : (s : ℕ) → s < 1024 * p.zones → sector_at p d s ≡ sector_at p c s
    linked_bit s l = bit_kept p.sectortable s link_kept (inl (omega arith))

    linked_there : (j : ℕ) → 1 ≤ j → file_of j (table_at p b j) ≢ f → table_at p d j ≡ table_at p b j
    linked_there j lo ne =
        table_other p last j link_kept last_in.0 lo (λ e. other m (omega arith) (last_is ∙ sym e)) ∙ h.there j lo other
      where
        other : (k : ℕ) → k < suc m → table k ≢ j
        other k l e = ne (rw e at (member_file v lay.few f m parent chain k l))

    linked_blank : (k : ℕ) → k < suc m → AllBytes (table_at p d (table k)) 0 124 0
    linked_blank k l n ln =
        (linked_kept (table k) (inside k l).0).out (0 + n) (inl (omega arith))
        ∙ ap (λ (t : List ℕ). get_or t (0 + n) 0) (h.here k l) ∙ blank_zeros (table_at p b (table k)) (long_table k l) n ln

    linked_link : (k : ℕ) → k < suc m → table k ≢ last → link_of (table_at p d (table k)) ≡ link_of (table_at p b (table k))
    linked_link k l ne =
        ap link_of (table_other p last (table k) link_kept last_in.0 (inside k l).0 ne ∙ h.here k l) ∙ blank_link (table_at p b (table k)) (long_table k l)

    linked_end : link_of (table_at p d last) ≡ first_free_of b
    linked_end =
        ap link_of linked_last
        ∙ u32_put_same (table_at p c last) 124 (first_free_of b) (omega (arith, length_table p c last (rw h.spared.kept.len lay) last_in.0 last_in.1))

    -- ---- and sector 1

    module _ (date : List ℕ) (six : length date ≡ 6) (w : List ℕ) (ew : w ≡ put_freed d f (file_tables v f) date) where
      pub lay' : Layout p (length d)
      lay' = rw linked_spared.kept.len lay

      st : Status d w f (file_tables v f)
      st = rw ew (freed_status d f (file_tables v f) date six (omega (arith, lay'.zone, lay'.sector, lay'.index, lay'.end)))

      pub inner : Kept d w 1024 1024
      inner = kept_wider st.kept (omega arith) (omega arith)

      word : (o : ℕ) → o + 4 ≤ 2048 → u32_at d o ≡ u32_at b o
      word o l = u32_kept o linked_spared.kept (inl (omega arith))

      half_word : (o : ℕ) → o + 2 ≤ 2048 → u16_at d o ≡ u16_at b o
      half_word o l = u16_kept o linked_spared.kept (inl (omega arith))

      member : (j : ℕ) → 1 ≤ j → j ≤ p.indexes → file_of j (table_at p b j) ≡ f → (k : ℕ) × (k < suc m) × (table k ≡ j)
      member = file_member v lawful.r4 lawful.r5 lay.few f parent

      view : ((s : ℕ) → s < 1024 * p.zones → sector_at p c s + gone v f s ≡ sector_at p b s) → Freed v (view_of p w) f
      view bits = record {
        zones = refl;
        indexes = refl;
        zone = λ z lo hi. sector1_zone d w inner p lay' z ∙ zone_kept p z linked_spared.kept (inl (omega arith));
        bit = λ s l. ap (λ (x : ℕ). x + gone v f s) (sector1_bit d w inner p lay' s ∙ linked_bit s l) ∙ bits s l;
        head = st.head;
        there = λ j lo hi ne. sector1_table d w inner p lay' j ∙ linked_there j lo ne;
        blank = λ j lo hi e. (let k = member j lo hi e in rw (sector1_table d w inner p lay' j) (rw k.2 at (linked_blank k.0 k.1)));
        link = λ j lo hi e ne. (let k = member j lo hi e in ap link_of (sector1_table d w inner p lay' j) ∙ rw k.2 at (linked_link k.0 k.1) ne);
        last = ap link_of (sector1_table d w inner p lay' last) ∙ linked_end;
        active = st.active ∙ word 1028 (omega arith);
        deleted = st.deleted ∙ ap (λ (x : ℕ). x - 1) (word 1032 (omega arith));
        free = st.free ∙ ap (λ (x : ℕ). x + file_tables v f) (word 1036 (omega arith));
        system = st.system ∙ half_word 1040 (omega arith);
        directory = st.directory ∙ half_word 1042 (omega arith);
        flag = st.flag ∙ half_word 1054 (omega arith);
      }

      quiet : Quiet p b w
      quiet = quiet_trans (spared_quiet lay linked_spared) (record {
        len = st.kept.len;
        low = λ j l. st.kept.out j (inl (omega arith));
        tails = λ s t. sector1_tails d w inner p lay' t;
      })

  -- ---- the whole

  module _ (date : List ℕ) (six : length date ≡ 6) where
    pub freed_view : Freed (view_of p b) (view_of p (freed_file p b f date)) f
    unfolding freed_file
    freed_view = view _ _ all_freed refl date six _ refl all_bits

    pub freed_quiet : Quiet p b (freed_file p b f date)
    unfolding freed_file
    freed_quiet = quiet _ _ all_freed refl date six _ refl
