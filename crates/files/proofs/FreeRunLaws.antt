-- A header's run given back: its sectors are clear, and counted in their zone's entry. The code's ways out, and that the rules hold.
use mathlib.Core.Path.{◌≡◌, refl, sym, ap, ◌∙◌}
use mathlib.Core.Logic.{◌≢◌, inl, inr, ⊎_elim}
use mathlib.Core.List.{List}
use Prim.Native.Nat.{ℕ, ◌+◌, ◌-◌, ◌*◌, ◌%◌, ◌≤◌, ◌<◌}
use native.Mathlib.Decide.{ℕ_discrete}
use native.Mathlib.Omega.{arith}
use lib.ListN.{get_or, length}
use borrow.Author.Tests.{lt-ltb}
use Rattle.field.specs.Kept.{Kept}
use Rattle.field.specs.Runs.{set_bits}
use Rattle.field.proofs.BitLaws.{bit_at_lt}
use Rattle.field.proofs.Frames.{kept_wider}
use Rattle.field.proofs.RunLaws.{kept_set_bits}
use Rattle.field.proofs.Sums.{sum_le}
use Rattle.tables.specs.declared.places.Places.{Places}
use Rattle.tables.specs.declared.zone.ZoneEntry.{ZoneEntry}
use Rattle.tables.specs.Kinds.{zone_of, first_of}
use Rattle.tables.specs.Blocks.{ZoneType}
use Rattle.tables.specs.Places.{Layout}
use Rattle.tables.specs.Sectors.{put_sectors}
use Rattle.tables.specs.Views.{View, view_of, Parent, cov, claims_of, claims_over, Under}
use Rattle.tables.specs.Withheld.{KeepsTypes}
use Rattle.tables.specs.Zones.{zone_at, put_zone}
use Rattle.tables.specs.Rules.R2.{InUse}
use Rattle.tables.specs.Rules.R6.{R6, HeaderRun}
use Rattle.tables.specs.Rules.R7.{Owned}
use Rattle.tables.specs.Rules.R8.{R8}
use Rattle.tables.proofs.BlockLaws.{header_block}
use Rattle.tables.proofs.PointerLaws.{cov_in, cov_cases}
use Rattle.tables.proofs.Sector1CountLaws.{only_eq, only_ne}
use Rattle.tables.proofs.WithheldLaws.{keeps_same, keeps_trans}
use Rattle.tables.proofs.ZoneEntryLaws.{zone_kept}
use Rattle.allocation.specs.Held.{Held}
use Rattle.allocation.specs.Lengthened.{Quiet}
use Rattle.allocation.specs.Steps.{SameFiles}
use Rattle.allocation.proofs.ChangeLaws.{run_zones, header_zones, parent_under, under_run}
use Rattle.allocation.proofs.FileSame.{file_same}
use Rattle.allocation.proofs.HeldLawful.{all_R6, all_R8, quiet_trans}
use Rattle.allocation.proofs.OneZoneLaws.{cov_away, one_R2, other_blocks}
use Rattle.allocation.proofs.RunTakenLaws.{clear_sectors, one_blocks, header_clear, run_fewer}
use Rattle.allocation.proofs.TableLaws.{files_between}
use Rattle.allocation.proofs.TakenHeld.{files_R4, files_R5, files_tally, files_sectors, files_R9, files_under}
use Rattle.files.specs.Asked.{Recountable}
use Rattle.files.specs.Freed.{Short, AllShort, Uncounted, Recounted}
use Rattle.files.specs.Headers.{free_run}
use Rattle.files.specs.Release.{recounted, recount_zone}
use Rattle.files.proofs.FreedBytes.{run_cleared}
use Rattle.files.proofs.RecountRules.{Rules, recounted_rules, recounted_keeps}
use Rattle.files.proofs.RecountView.{only_in, kept_one, zone_recounted, zone_quiet}

-- ---- the code's ways out

module _ (p : Places) (b : List ℕ) (a c : ℕ) where
  -- no sectors, no change
  pub run_none : c ≡ 0 → b ≡ free_run p b a c
  unfolding free_run recount_zone set_bits
  run_none e = rw e

  module _ (lay : Layout p (length b)) (x : List ℕ) (is : x ≡ put_sectors p b a c 0) (within : a + c ≤ 1024 * p.zones) where
    kept_run : Kept b x p.sectortable (128 * p.zones)
    kept_run = rw is (kept_wider (kept_set_bits b p.sectortable a c 0) (omega arith) (omega (arith, lay.least)))

    pub zone_run : (z : ℕ) → 1 ≤ z → z ≤ p.zones → zone_at p x z ≡ zone_at p b z
    zone_run z lo hi = zone_kept p z kept_run (inl (omega arith))

    -- what is asked of the entry that is read then
    module _ (h : Recountable (view_of p b) a c) (z : ℕ) (at : z ≡ zone_of a) (e : ZoneEntry) (read : e ≡ zone_at p x z) where
      entry_same : e ≡ zone_at p b (zone_of a)
      entry_same = read ∙ ap (zone_at p x) at ∙ zone_run (zone_of a) (omega arith) (omega (arith, h.high))

      pub entry_typed : ZoneType e.ztype
      entry_typed = rw entry_same h.typed

      pub entry_few : e.free + c ≤ 1024
      entry_few = rw entry_same h.few

    pub run_put : 0 < c → (z : ℕ) → z ≡ zone_of a → (e : ZoneEntry) → e ≡ zone_at p x z → (r : ZoneEntry) → r ≡ recounted e c → (y : List ℕ) → y ≡ put_zone p x z r.ztype r.free r.third
        → y ≡ free_run p b a c
    unfolding free_run recount_zone
    run_put some z at e read r of y put = rw (← is, ← at, ← read, ← of, lt-ltb 0 c some) put

-- ---- the sectors are clear, and not yet counted

module _ (p : Places) (b : List ℕ) (lay : Layout p (length b)) (a c : ℕ) (extra : ℕ → ℕ) (held : Held (view_of p b) 0 (λ s. extra s + cov a c s)) (run : HeaderRun (view_of p b) a c) where
  abbrev v : View
  v = view_of p b

  abbrev cleared : List ℕ
  cleared = put_sectors p b a c 0

  abbrev w : View
  w = view_of p (put_sectors p b a c 0)

  -- their zone, and the first one's number in it
  abbrev z : ℕ
  z = zone_of a

  abbrev k : ℕ
  k = a % 1024

  first : first_of z + k ≡ a
  first = omega arith

  within : k + c ≤ 1024
  within = omega (arith, run.one, run.some)

  low : 2 ≤ z
  low = omega (arith, run.low)

  high : z < p.zones
  high = omega (arith, run.high, run.some)

  kept_cleared : Kept b cleared p.sectortable (128 * p.zones)
  kept_cleared = kept_run p b a c lay cleared refl (omega (arith, run.high))

  bits : (s : ℕ) → w.bit s + cov a c s ≡ v.bit s
  bits s = run_cleared b p.sectortable a c s (record { most = omega (arith, run.high); within = omega (arith, run.high) }) (⊎_elim
      (λ h. omega (arith, held.r7.count s (omega (arith, run.high, h.high)) (omega (arith, run.low, h.low)))) (λ e. omega arith) (cov_cases a c s))

  entry : (y : ℕ) → 1 ≤ y → y ≤ p.zones → w.zone y ≡ v.zone y
  entry = zone_run p b a c lay cleared refl (omega (arith, run.high))

  bits_there : (y : ℕ) → 1 ≤ y → y ≤ p.zones → y ≢ z → (x : ℕ) → x < 1024 → w.bit (first_of y + x) ≡ v.bit (first_of y + x)
  bits_there y lo hi ne x l = omega (arith, bits (first_of y + x), rw first at (cov_away z k c y x low within lo ne l))

  files : SameFiles v w
  files = files_between p kept_cleared (omega arith) (omega arith)

  -- ---- the zone

  -- c sectors more are clear
  more_clear : clear_sectors v.bit (first_of z) + c ≡ clear_sectors w.bit (first_of z)
  more_clear = run_fewer w.bit v.bit (first_of z) k c within
      (λ j l. (let e : first_of z + k + j ≡ a + j = omega (arith, first) in ap w.bit e ∙ clear j l)) (λ j l. omega (arith, bits (first_of z + j), ap (λ (x : ℕ). cov x c (first_of z + j)) first))
    where
      clear : (j : ℕ) → j < c → w.bit (a + j) ≡ 0
      clear j l = omega (arith, bits (a + j), cov_in a c (a + j) (omega arith) (omega arith), bit_at_lt b p.sectortable (a + j))

  counted : clear_sectors v.bit (first_of z) ≡ (v.zone z).free
  counted = header_clear v held.r3 z low high run.typed

  typed : ZoneType (v.zone z).ztype
  typed = record { low = omega (arith, run.typed); high = omega (arith, run.typed) }

  pub run_countable : Recountable (view_of p b) a c
  run_countable = record {
    low = run.low;
    high = run.high;
    typed = typed;
    few = omega (arith, more_clear, counted, sum_le 1024 (λ j. 1 - w.bit (first_of z + j)) (λ j l. omega arith));
  }

  same_entry : w.zone z ≡ v.zone z
  same_entry = entry z (omega (arith, low)) (omega (arith, high))

  in_use : InUse w z
  in_use =
      ⊎_elim (λ u. absurd (omega (arith, u.reads.ztype, run.typed))) (λ u. record { typed = rw same_entry u.typed; third = rw same_entry u.third })
      ((held.r2 z (omega (arith, high)) (omega (arith, low))).other low high)

  own_short : Short w z c
  own_short = record {
    typed = λ t. rw (same_entry, sym (header_block (v.zone z).ztype run.typed).0) (one_blocks w.bit (first_of z) ((v.zone z).free + c) (omega (arith, more_clear, counted)));
    other = λ out. absurd (out (rw same_entry typed));
  }

  other_short : (y : ℕ) → 2 ≤ y → y < p.zones → y ≢ z → Short w y 0
  other_short y lo hi ne = record {
    typed = λ t. (let e : (w.zone y).free + 0 ≡ (w.zone y).free = omega arith in
        rw e (other_blocks v w z low high refl (λ y lo hi ne. entry y lo hi) bits_there y lo hi ne held.r3 t));
    other = λ out. refl;
  }

  short : AllShort w (only_in z c)
  short y l lo = elim (ℕ_discrete y z) [ yes q ↦ rw (only_eq y z c q, q) own_short | no ne ↦ rw (only_ne y z c ne) (other_short y lo l ne) ]

  -- ---- index tables and files

  now_R6 : R6 w
  now_R6 i l lo =
      let s = all_R6 v held i l lo in
      rw (files.table i lo (omega arith)) (record {
        first = s.first;
        used = λ j lj u. run_zones v w refl entry _ _ (s.used j lj u);
        one = s.one;
        header = λ e. record { run = λ u. header_zones v w refl entry _ _ ((s.header e).run u) };
      })

  now_owned : Owned w extra
  unfolding claims_over
  now_owned = record { count = λ s l lo. omega (arith, files_tally files (λ i t. claims_of i t s), held.r7.count s l lo, bits s) }

  under_type : (i j s : ℕ) → Under v i j s → (w.zone (zone_of s)).ztype ≡ (v.zone (zone_of s)).ztype
  under_type i j s u =
      let r = under_run v 0 held.r6 i j s u in
      ap (λ (e : ZoneEntry). e.ztype) (entry (zone_of s) (omega arith) (omega (arith, r.high, u.to)))

  now_R8 : R8 w
  now_R8 i l lo word =
      let e = files.table i lo (omega arith) in
      let o : Parent v i = record { low = lo; high = omega arith; word = rw e at word } in
      file_same v w under_type i (parent_under v (all_R6 v held) i o) e
      (λ i j s of u. (let y = files_under files i j s u in (rw (files.table i y.low y.high) at of, y)))
      (files_sectors files i) (all_R8 v held i l lo o.word)

  uncounted : Uncounted extra w (only_in z c)
  uncounted = record {
    r2 = one_R2 v w z low high refl (λ y lo hi ne. entry y lo hi) bits_there in_use held.r2;
    short = short;
    r4 = files_R4 files held.r4;
    r5 = files_R5 files held.r5;
    r6 = now_R6;
    r7 = now_owned;
    r8 = now_R8;
    r9 = files_R9 files held.r9;
  }

  -- ---- and counted

  lay' : Layout p (length cleared)
  lay' = rw kept_cleared.len lay

  counts : Recounted w (view_of p (free_run p b a c)) (only_in z c)
  unfolding free_run
  counts = zone_recounted p cleared lay' z c low high

  pub run_rules : Rules extra (view_of p (free_run p b a c))
  run_rules = recounted_rules w (view_of p (free_run p b a c)) (only_in z c) (bit_at_lt cleared p.sectortable) uncounted counts

  pub run_types : KeepsTypes extra (view_of p b) (view_of p (free_run p b a c))
  run_types =
      keeps_trans extra v w (view_of p (free_run p b a c)) refl (keeps_same extra v w entry)
      (recounted_keeps w (view_of p (free_run p b a c)) (only_in z c) (bit_at_lt cleared p.sectortable) uncounted counts)

  pub run_table : (j : ℕ) → 1 ≤ j → j ≤ p.indexes → (view_of p (free_run p b a c)).table j ≡ (view_of p b).table j
  run_table j lo hi = counts.files.table j lo hi ∙ files.table j lo hi

  pub run_low : (j : ℕ) → j < 2048 → get_or (free_run p b a c) j 0 ≡ get_or b j 0
  unfolding free_run
  run_low j l = (kept_one p cleared lay' z c low high).out j (inl (omega arith)) ∙ kept_cleared.out j (inl (omega arith))

  pub run_still : Quiet p b (free_run p b a c)
  unfolding free_run
  run_still = quiet_trans (record {
    len = kept_cleared.len;
    low = λ j l. kept_cleared.out j (inl (omega arith));
    tails = λ s h. record { zone = λ j l. kept_cleared.out _ (inl (omega (arith, s.sector))) ∙ h.zone j l; sector = λ j l. kept_cleared.out _ (inr (omega arith)) ∙ h.sector j l };
  }) (zone_quiet p cleared lay' z c low high)
