-- A block that is taken and not yet under a pointer leaves the rules of files: types and runs of sectors in use stay, index tables are the
-- same, and the block itself is a lawful run.
use mathlib.Core.Path.{◌≡◌, refl, sym, ap, ◌∙◌}
use mathlib.Core.Logic.{◌≢◌, ◌⊎◌, inl, inr, ⊎_elim}
use mathlib.Core.List.{List}
use Prim.Native.Nat.{ℕ, ◌+◌, ◌-◌, ◌*◌, ◌%◌, ◌≤◌, ◌<◌}
use native.Mathlib.Decide.{ℕ_discrete, dec_lt}
use native.Mathlib.Omega.{arith}
use Rattle.tables.specs.declared.zone.ZoneEntry.{ZoneEntry}
use Rattle.tables.specs.Kinds.{zone_of, first_of}
use Rattle.tables.specs.Blocks.{Block, block_of, Whole}
use Rattle.tables.specs.Indexes.{link_of, header_start}
use Rattle.tables.specs.Views.{View, Begins, Parent, walk, next, cov, tally, claims_of, claims_over, Under, UnderHeader}
use Rattle.tables.specs.Same.{Same}
use Rattle.tables.specs.Withheld.{KeepsTypes}
use Rattle.tables.specs.Rules.R2.{R2, ZoneBits}
use Rattle.tables.specs.Rules.R3.{R3}
use Rattle.tables.specs.Rules.R4.{R4}
use Rattle.tables.specs.Rules.R5.{FileChain, R5}
use Rattle.tables.specs.Rules.R6.{Run, HeaderRun, HeaderLaw}
use Rattle.tables.specs.Rules.R7.{Owned}
use Rattle.tables.specs.Rules.R8.{file_sectors, InType, File}
use Rattle.tables.specs.Rules.R9.{free_one, active_one, deleted_one, system_one, directory_one, R9}
use Rattle.tables.proofs.BlockLaws.{block_of_lem, data_block, block_end, block_in}
use Rattle.tables.proofs.ChainLaws.{walk_same}
use Rattle.tables.proofs.PointerLaws.{cov_in, cov_before, cov_after, cov_cases, under_claims, header_claims}
use Rattle.tables.proofs.SameLaws.{same_begins, same_R4, same_R5, same_chain, same_tally, under_same}
use Rattle.allocation.specs.declared.choice.Found.{Found}
use Rattle.allocation.specs.declared.growth.Cursor.{Cursor}
use Rattle.allocation.specs.Choice.{block_start}
use Rattle.allocation.specs.Steps.{Choosable, Taken, SameFiles}
use Rattle.allocation.specs.Held.{ShapeBut, Held, Ends}
use Rattle.allocation.proofs.LastLaws.{chain_begins}
use Rattle.allocation.proofs.FileSame.{file_same}
use Rattle.allocation.proofs.ChangeLaws.{under_run, other_under}

-- ---- runs

-- a run that misses a zone is whole there
whole_none : (a c from size : ℕ) → Block size → ((x : ℕ) → x < 1024 → cov a c (from + x) ≡ 0) → Whole (cov a c) from size
whole_none a c from size b none n l j lj =
    let q = block_in n size b l in
    let e : from + n * size + j ≡ from + (n * size + j) = omega arith in
    ap (cov a c) e ∙ none _ (omega arith) ∙ sym (none (n * size) (omega (arith, b.some)))

-- block m is whole in its own zone
whole_own : (from size m : ℕ) → 0 < size → Whole (cov (from + m * size) size) from size
whole_own from size m some n l j lj =
    elim (ℕ_discrete n m) [
      | yes e ↦ rw e (cov_in (from + m * size) size _ (omega arith) (omega arith) ∙ sym (cov_in (from + m * size) size _ (omega arith) (omega arith)))
      | no ne ↦ elim (dec_lt n m) [
        | yes h ↦ (let q = block_end n m size h in cov_before _ size _ (omega arith) ∙ sym (cov_before _ size _ (omega arith)))
        | no h ↦ (let q = block_end m n size (omega arith) in cov_after _ size _ (omega arith) ∙ sym (cov_after _ size _ (omega arith)))
      ]
    ]

-- only a clear zone gets another type
module _ (v v' : View) (zones : v'.zones ≡ v.zones) (either : (z : ℕ) → 2 ≤ z → z < v.zones → ((v'.zone z).ztype ≡ (v.zone z).ztype) ⊎ ZoneBits v z 0) where
  pub type_kept : (s : ℕ) → s < 1024 * (v.zones - 1) → 1024 ≤ s → v.bit s ≡ 1 → (v'.zone (zone_of s)).ztype ≡ (v.zone (zone_of s)).ztype
  type_kept s l lo set =
      let e : first_of (zone_of s) + s % 1024 ≡ s = omega arith in
      ⊎_elim (λ h. h) (λ c. absurd (omega (arith, set, ap v.bit e, c (s % 1024) (omega arith)))) (either (zone_of s) (omega arith) (omega arith))

  -- a zone with a sector that is set besides is not clear
  pub clear_keeps : {extra : ℕ → ℕ} → ((s : ℕ) → v.bit s < 2) → Owned v extra → KeepsTypes extra v v'
  clear_keeps bits r7 s l lo some = type_kept s l lo (omega (arith, r7.count s l lo, bits s))

  pub run_kept : (a c : ℕ) → Run v a c → ((s : ℕ) → a ≤ s → s < a + c → v.bit s ≡ 1) → Run v' a c
  run_kept a c r set = record {
    some = r.some;
    few = r.few;
    low = r.low;
    high = rw zones r.high;
    typed = λ s h l. rw (type_kept s (omega (arith, r.high)) (omega (arith, r.low)) (set s l h)) (r.typed s h l);
    whole = λ z l lo ty. (let l' : z < v.zones = rw zones at l in
        ⊎_elim (λ e. rw e (r.whole z l' lo (rw e at ty))) (λ clear. whole_none a c (first_of z) _ (block_of_lem _ ty) (none z clear)) (either z lo l'));
  }
    where
      none : (z : ℕ) → ZoneBits v z 0 → (x : ℕ) → x < 1024 → cov a c (first_of z + x) ≡ 0
      none z clear x l = ⊎_elim (λ h. absurd (omega (arith, set (first_of z + x) h.low h.high, clear x l))) (λ e. e) (cov_cases a c (first_of z + x))

  -- a header's run, of which one sector is set
  pub header_run_kept : (a c : ℕ) → HeaderRun v a c → v.bit a ≡ 1 → HeaderRun v' a c
  header_run_kept a c r set = record {
    some = r.some;
    few = r.few;
    low = r.low;
    high = rw zones r.high;
    one = r.one;
    typed = type_kept a (omega (arith, r.high, r.some)) r.low set ∙ r.typed;
  }

module _ {v v' : View} {t : ℕ} {k : Found} (can : Choosable v t k) (took : Taken v v' t k) where
  type_or_clear : (z : ℕ) → 2 ≤ z → z < v.zones → ((v'.zone z).ztype ≡ (v.zone z).ztype) ⊎ ZoneBits v z 0
  type_or_clear z lo hi =
      elim (ℕ_discrete z k.zone.0) [
        | yes e ↦ rw e (⊎_elim (λ h. inl (ap (λ (x : ZoneEntry). x.ztype) took.here ∙ sym h)) (λ h. inr h) can.kept)
        | no ne ↦ inl (ap (λ (x : ZoneEntry). x.ztype) (took.there z (omega arith) (omega arith) ne))
      ]

  -- the block lies in its zone
  inside : (block_start t k ≡ first_of k.zone.0 + k.number * block_of t) × (k.number * block_of t + block_of t ≤ 1024)
  unfolding block_start
  inside = (refl, block_in k.number (block_of t) (data_block t can.proper.typed) can.proper.within)

  pub new_run : Run v' (block_start t k) (block_of t)
  new_run =
      let p = can.proper in
      let b = data_block t p.typed in
      record {
        some = omega (arith, b.some);
        few = omega (arith, inside);
        low = omega (arith, inside, p.low);
        high = omega (arith, inside, p.low, p.high, took.zones);
        typed = λ s h l. (let e : zone_of s ≡ k.zone.0 = omega (arith, inside, p.low) in rw (e, took.here) p.typed);
        whole = λ z l lo ty. elim (ℕ_discrete z k.zone.0) [
          | yes e ↦ rw (e, took.here, inside.0) (whole_own (first_of k.zone.0) (block_of t) k.number b.some)
          | no ne ↦ whole_none _ _ (first_of z) _ (block_of_lem _ ty) (away z lo ne)
        ];
      }
    where
      away : (z : ℕ) → 2 ≤ z → z ≢ k.zone.0 → (x : ℕ) → x < 1024 → cov (block_start t k) (block_of t) (first_of z + x) ≡ 0
      away z lo ne x l =
          elim (dec_lt z k.zone.0) [ yes h ↦ cov_before _ _ _ (omega (arith, inside)) | no h ↦ cov_after _ _ _ (omega (arith, inside, can.proper.low)) ]

-- ---- index tables

-- v with the zones and sectors of v': the rules of index tables cannot tell it from v
abbrev grounded : View → View → View
grounded v v' = record {
  zones = v'.zones;
  indexes = v.indexes;
  zone = v'.zone;
  bit = v'.bit;
  table = v.table;
  active = v.active;
  deleted = v.deleted;
  free = v.free;
  system = v.system;
  directory = v.directory;
  head = v.head;
  flag = v.flag;
}

module _ {v : View} (v' : View) where
  to : {i w : ℕ} → Begins v i w → Begins (grounded v v') i w
  to h = record { low = h.low; high = h.high; word = h.word }

  of : {i w : ℕ} → Begins (grounded v v') i w → Begins v i w
  of h = record { low = h.low; high = h.high; word = h.word }

  to_chain : {p m : ℕ} → FileChain v p m → FileChain (grounded v v') p m
  to_chain c = record { ends = c.ends; each = λ k l. to (c.each k l); names = c.names; full = c.full }

  to_R4 : R4 v → R4 (grounded v v')
  to_R4 r = record {
    own = λ i l lo. (let o = r.own i l lo in record { word = o.word; blank = o.blank });
    long = r.long;
    chain = record { ends = r.chain.ends; each = λ k l. to (r.chain.each k l); every = λ i h. r.chain.every i (of h) };
  }

  to_R5 : R5 v → R5 (grounded v v')
  to_R5 r = record {
    long = r.long;
    chain = λ p h. to_chain (r.chain p (of h));
    stands = λ c h. (let s = r.stands c (of h) in record { parent = to s.parent; place = s.place; below = s.below; here = s.here });
    one = λ c h. r.one c (of h);
  }

module _ {v v' : View} (files : SameFiles v v') where
  same : Same (grounded v v') v'
  same = record { zones = refl; indexes = files.indexes; zone = λ z lo hi. refl; bit = λ s l. refl; table = files.table; head = files.head }

  pub files_R4 : R4 v → R4 v'
  files_R4 r = same_R4 (grounded v v') v' same (to_R4 v' r)

  pub files_R5 : R5 v → R5 v'
  files_R5 r = same_R5 (grounded v v') v' same (to_R5 v' r)

  pub files_tally : (f : ℕ → List ℕ → ℕ) → tally v' f ≡ tally v f
  unfolding tally
  files_tally = same_tally (grounded v v') v' same

  files_over : (s : ℕ) → claims_over v' s ≡ claims_over v s
  unfolding claims_over
  files_over s = files_tally (λ i t. claims_of i t s)

  pub files_sectors : (q : ℕ) → file_sectors v' q ≡ file_sectors v q
  unfolding file_sectors
  files_sectors q = files_tally _

  pub files_R9 : R9 v → R9 v'
  files_R9 r = record {
    active = files.counts.active ∙ r.active ∙ sym (files_tally active_one);
    deleted = files.counts.deleted ∙ r.deleted ∙ sym (files_tally deleted_one);
    free = files.free ∙ r.free ∙ sym (files_tally free_one);
    system = files.counts.system ∙ r.system ∙ sym (files_tally system_one);
    directory = files.counts.directory ∙ r.directory ∙ sym (files_tally directory_one);
    flag = omega (arith, files.counts.flag, r.flag);
  }

  pub files_under : (i j s : ℕ) → Under v' i j s → Under v i j s
  files_under i j s u = let w = under_same (grounded v v') v' same i j s u in record { low = w.low; high = w.high; slot = w.slot; from = w.from; to = w.to }

  -- ---- the end of a file

  pub taken_ends : {f : ℕ} {c : Cursor} → Ends v f c → Ends v' f c
  taken_ends {f} {c} e = record {
    parent = same_begins (grounded v v') v' same f f (to v' e.parent);
    long = e.long;
    chain = same_chain (grounded v v') v' same f e.long (to v' e.parent) (to_chain v' e.chain);
    table = walk_same (next v) (next v') f e.long (λ n l. ap link_of (table_at_lem n (omega arith))) e.long (omega arith) ∙ e.table;
    capacity = rw here e.capacity;
    within = e.within;
    used = rw here e.used;
    unused = rw here e.unused;
    pointer = rw here e.pointer;
    none = e.none;
  }
    where
      table_at_lem : (n : ℕ) → n ≤ e.long → v'.table (walk (next v) f n) ≡ v.table (walk (next v) f n)
      table_at_lem n l = let h = (chain_begins v f e.long e.parent e.chain n (omega arith)).1 in files.table _ h.low h.high

      here : v'.table c.table.0 ≡ v.table c.table.0
      here = rw e.table at (table_at_lem e.long (omega arith))

-- ---- the rules

module _ {v : View} {f : ℕ} {d : ℕ → ℕ} (held : Held v f d) where
  -- what lies under a pointer is in use
  pub held_set : ((s : ℕ) → v.bit s < 2) → (i j s : ℕ) → Under v i j s → v.bit s ≡ 1
  held_set bits i j s u =
      let r = under_run v f held.r6 i j s u in
      omega (arith, held.r7.count s (omega (arith, r.high, u.to)) (omega (arith, r.low, u.from)), bits s, under_claims v s i j u)

  -- and what lies under a header pointer
  pub held_headed : ((s : ℕ) → v.bit s < 2) → (i s : ℕ) → UnderHeader v i s → v.bit s ≡ 1
  held_headed bits i s u =
      let r = ((held.r6 i (omega (arith, u.parent.high)) u.parent.low).header u.parent.word).run (omega (arith, u.from, u.to)) in
      omega (arith, held.r7.count s (omega (arith, r.high, u.to)) (omega (arith, r.low, u.from)), bits s, header_claims v s i u)

-- clear sectors are set and are not yet under a pointer, and only a clear zone gets another type
module _ {v v' : View} (zones : v'.zones ≡ v.zones) (either : (z : ℕ) → 2 ≤ z → z < v.zones → ((v'.zone z).ztype ≡ (v.zone z).ztype) ⊎ ZoneBits v z 0) (files : SameFiles v v')
    (bits : (s : ℕ) → v.bit s < 2) {f : ℕ} {d : ℕ → ℕ} (held : Held v f d) where
  under_type : (i j s : ℕ) → Under v i j s → (v'.zone (zone_of s)).ztype ≡ (v.zone (zone_of s)).ztype
  under_type i j s u =
      let r = under_run v f held.r6 i j s u in
      type_kept v v' zones either s (omega (arith, r.high, u.to)) (omega (arith, r.low, u.from)) (held_set held bits i j s u)

  pub filled_types : (q ty : ℕ) → InType v q ty → InType v' q ty
  filled_types q ty h i j s e u =
      let w = files_under files i j s u in
      under_type i j s w ∙ h i j s (rw (files.table i w.low w.high) at e) w

  filled_file : (p : ℕ) → Parent v p → p ≢ f → File v p (v.table p) → File v' p (v'.table p)
  filled_file p h ne = file_same v v' under_type p (other_under v f held.r6 p h ne) (files.table p h.low h.high)
      (λ i j s e u. let w = files_under files i j s u in (rw (files.table i w.low w.high) at e, w)) (files_sectors files p)

  -- a parent's header
  filled_header : (i : ℕ) → Parent v i → HeaderLaw v (v.table i) → HeaderLaw v' (v.table i)
  filled_header i h law = record {
    run = λ u. (let r = law.run u in
        header_run_kept v v' zones either _ _ r (held_headed held bits i (header_start (v.table i)) (record { parent = h; from = omega arith; to = omega (arith, r.some) })));
  }

  filled_shape : (i : ℕ) → 1 ≤ i → i ≤ v.indexes → ShapeBut v f i (v.table i) → ShapeBut v' f i (v.table i)
  filled_shape i lo hi h = record {
    first = h.first;
    used = λ j l u. run_kept v v' zones either _ _ (h.used j l u) (λ s a b. held_set held bits i j s (record { low = lo; high = hi; slot = l; from = a; to = b }));
    one = h.one;
    header = λ e. filled_header i (record { low = lo; high = hi; word = e }) (h.header e);
  }

  pub filled_keeps : KeepsTypes d v v'
  filled_keeps = clear_keeps v v' zones either bits held.r7

  -- e counts the sectors that are set
  pub filled_held : (e : ℕ → ℕ) → ((s : ℕ) → s < 1024 * v.zones → v'.bit s ≡ v.bit s + e s) → R2 v' → R3 v' → Held v' f (λ s. d s + e s)
  filled_held e bit r2 r3 = record {
    r2 = r2;
    r3 = r3;
    r4 = files_R4 files held.r4;
    r5 = files_R5 files held.r5;
    r6 = λ i l lo. (let hi : i ≤ v.indexes = omega (arith, files.indexes) in
        rw (files.table i lo hi) (filled_shape i lo hi (held.r6 i (omega arith) lo)));
    r7 = record { count = λ s l lo. (let l' : s < 1024 * (v.zones - 1) = rw zones at l in omega (arith, files_over files s, held.r7.count s l' lo, bit s (omega arith))) };
    r8 = λ p l lo ne. (let hi : p ≤ v.indexes = omega (arith, files.indexes) in
        λ w. (let word = rw (files.table p lo hi) at w in filled_file p (record { low = lo; high = hi; word = word }) ne (held.r8 p (omega arith) lo ne word)));
    r9 = files_R9 files held.r9;
  }

-- a block is taken
module _ {v v' : View} {t : ℕ} {k : Found} (can : Choosable v t k) (took : Taken v v' t k) (files : SameFiles v v') (bits : (s : ℕ) → v.bit s < 2)
    {f : ℕ} {d : ℕ → ℕ} (held : Held v f d) where
  pub taken_types : (q ty : ℕ) → InType v q ty → InType v' q ty
  taken_types = filled_types took.zones (type_or_clear can took) files bits held

  pub taken_keeps : KeepsTypes d v v'
  taken_keeps = filled_keeps took.zones (type_or_clear can took) files bits held

  pub taken_held : R2 v' → R3 v' → Held v' f (λ s. d s + cov (block_start t k) (block_of t) s)
  taken_held = filled_held took.zones (type_or_clear can took) files bits held (cov (block_start t k) (block_of t)) took.bit
