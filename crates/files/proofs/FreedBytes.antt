-- Index tables given back, one and then those of a file: their bytes, the bits of their sectors, and what stays of the books.
use mathlib.Core.Path.{◌≡◌, refl, sym, ap, ◌∙◌}
use mathlib.Core.Logic.{◌≢◌, inl, inr}
use mathlib.Core.List.{List}
use Prim.Native.Nat.{ℕ, zero, suc, ◌+◌, ◌-◌, ◌*◌, ◌≤◌, ◌<◌}
use native.Mathlib.Nat.{add-zero, not-suc-le-zero}
use native.Mathlib.Decide.{ℕ_discrete, dec_lt}
use native.Mathlib.Omega.{arith}
use borrow.Author.Tests.{eq-eqb, ne_eqb}
use lib.ListN.{get_or, length, replicate, length-replicate}
use Rattle.field.specs.Bits.{bit_at}
use Rattle.field.specs.Kept.{Kept}
use Rattle.field.specs.Parts.{over, AllBytes}
use Rattle.field.specs.Runs.{Room, set_bits}
use Rattle.field.specs.Sum.{sum_to}
use Rattle.field.proofs.BitLaws.{bit_at_lt, bit_kept}
use Rattle.field.proofs.Frames.{kept_refl, kept_trans, kept_wider}
use Rattle.field.proofs.NumberLaws.{u32_kept, get_d_zeros}
use Rattle.field.proofs.PartLaws.{kept_over, over_part, same_at}
use Rattle.field.proofs.RunLaws.{kept_set_bits, set_in, set_out}
use Rattle.tables.specs.declared.places.Places.{Places}
use Rattle.tables.specs.Indexes.{table_place, table_at, word_of, link_of, slots_of, start_of, count_of, header_start, header_count}
use Rattle.tables.specs.Places.{Layout}
use Rattle.tables.specs.Sectors.{sector_at}
use Rattle.tables.specs.Views.{view_of, Parent, walk, next, cov, header_over, claims_of, over_of}
use Rattle.tables.specs.Rules.R5.{FileChain}
use Rattle.tables.specs.Rules.R6.{R6}
use Rattle.tables.proofs.FrameLaws.{table_kept}
use Rattle.tables.proofs.IndexLaws.{length_table}
use Rattle.tables.proofs.PointerLaws.{cov_in, cov_before, cov_after, header_over_lem, header_other}
use Rattle.allocation.specs.Lengthened.{Quiet}
use Rattle.allocation.proofs.TableLaws.{table_over, table_other}
use Rattle.files.specs.Release.{chain_of, clear_runs, clear_header, free_table, free_tables}
use Rattle.files.specs.Asked.{RunsWithin}
use Rattle.files.proofs.FileTables.{tables_from, tables_in, tables_once, chain_tables}

-- ---- runs of sectors

-- a run of set sectors is cleared
pub run_cleared : (b : List ℕ) (base from count s : ℕ) → Room (length b) base from count → cov from count s ≤ bit_at b base s
    → bit_at (set_bits b base from count 0) base s + cov from count s ≡ bit_at b base s
run_cleared b base from count s room set =
    elim (dec_lt s from) [
      | yes l ↦ omega (arith, set_out b base from 0 (omega arith) count s room (inl l), cov_before from count s l)
      | no l ↦ elim (dec_lt s (from + count)) [
        | yes h ↦
            let e : from + (s - from) ≡ s = omega arith in
            let z = rw e at (set_in b base from 0 (omega arith) count (s - from) room (omega arith)) in
            omega (arith, z, cov_in from count s (omega arith) h, bit_at_lt b base s)
        | no h ↦ omega (arith, set_out b base from 0 (omega arith) count s room (inr (omega arith)), cov_after from count s (omega arith))
      ]
    ]

-- R6: the sectors under a table's pointers and its header pointer are sectors of the volume; an unused pointer has none
runs_within : (p : Places) (b : List ℕ) (i : ℕ) → R6 (view_of p b) → 1 ≤ i → i ≤ p.indexes → RunsWithin p i (table_at p b i)
runs_within p b i r lo hi =
    let t = table_at p b i in
    let shape = r i (omega arith) lo in
    record {
      runs = λ j l. elim (ℕ_discrete (start_of i t j + count_of i t j) 0) [ yes e ↦ omega arith | no ne ↦ omega (arith, (shape.used j l (omega arith)).high) ];
      header = λ w. elim (ℕ_discrete (header_start t + header_count t) 0) [ yes e ↦ omega arith | no ne ↦ omega (arith, ((shape.header w).run (omega arith)).high) ];
    }

-- the sectors under the first n pointers of a table
module _ (p : Places) (b : List ℕ) (i : ℕ) (t : List ℕ) (within : RunsWithin p i t) where
  -- to clear them changes only the sector table
  pub kept_clear : (n : ℕ) → n ≤ slots_of i t → Kept b (clear_runs p b i t n) p.sectortable (128 * p.zones)
  unfolding clear_runs
  kept_clear zero l = kept_refl b _ _
  kept_clear (suc n) l =
      kept_trans (kept_clear n (omega arith))
      (kept_wider (kept_set_bits (clear_runs p b i t n) p.sectortable (start_of i t n) (count_of i t n) 0) (omega arith) (omega (arith, within.runs n l)))

  -- they are cleared, if they are set and none is under two
  clear_bits : Layout p (length b) → (s n : ℕ) → n ≤ slots_of i t → sum_to n (λ j. cov (start_of i t j) (count_of i t j) s) ≤ bit_at b p.sectortable s
      → bit_at (clear_runs p b i t n) p.sectortable s + sum_to n (λ j. cov (start_of i t j) (count_of i t j) s) ≡ bit_at b p.sectortable s
  unfolding clear_runs sum_to
  clear_bits lay s zero l h = omega arith
  clear_bits lay s (suc n) l h =
      let o = clear_bits lay s n (omega arith) (omega arith) in
      let k = kept_clear n (omega arith) in
      let room : Room (length (clear_runs p b i t n)) p.sectortable (start_of i t n) (count_of i t n)
      = record { most = omega (arith, within.runs n l); within = omega (arith, k.len, within.runs n l) } in
      omega (arith, run_cleared (clear_runs p b i t n) p.sectortable (start_of i t n) (count_of i t n) s room (omega arith))

-- the sectors under a parent's header pointer
module _ (p : Places) (b : List ℕ) (i : ℕ) (t : List ℕ) (within : RunsWithin p i t) where
  -- to clear them changes only the sector table
  kept_header : Kept b (clear_header p b i t) p.sectortable (128 * p.zones)
  unfolding clear_header
  kept_header = elim (ℕ_discrete (word_of t) i) [
    | yes e ↦ rw (eq-eqb (word_of t) i e) (kept_wider (kept_set_bits b p.sectortable (header_start t) (header_count t) 0) (omega arith) (omega (arith, within.header e)))
    | no ne ↦ rw (ne_eqb (word_of t) i ne) (kept_refl b _ _)
  ]

  -- they are cleared, if they are set
  header_bits : Layout p (length b) → (s : ℕ) → header_over i t s ≤ bit_at b p.sectortable s
      → bit_at (clear_header p b i t) p.sectortable s + header_over i t s ≡ bit_at b p.sectortable s
  unfolding clear_header
  header_bits lay s h = elim (ℕ_discrete (word_of t) i) [
    | yes e ↦
        let room : Room (length b) p.sectortable (header_start t) (header_count t) = record { most = omega (arith, within.header e); within = omega (arith, within.header e) } in
        rw (eq-eqb (word_of t) i e, header_over_lem i t s e) (run_cleared b p.sectortable (header_start t) (header_count t) s room (omega (arith, header_over_lem i t s e)))
    | no ne ↦ rw (ne_eqb (word_of t) i ne) (omega (arith, header_other i t s ne))
  ]

-- ---- what stays: all in front of the sector table, and what stands between it and the index tables

pub record Spared (p : Places) (b b' : List ℕ) : Type 0 where
  pub kept : Kept b b' p.sectortable (p.indextable + 128 * p.indexes - p.sectortable)
  pub gap : (j : ℕ) → p.sectortable + 128 * p.zones ≤ j → j < p.indextable → get_or b' j 0 ≡ get_or b j 0

spared_refl : (p : Places) (b : List ℕ) → Spared p b b
spared_refl p b = record { kept = kept_refl b _ _; gap = λ j l h. refl }

pub spared_trans : {p : Places} {a b c : List ℕ} → Spared p a b → Spared p b c → Spared p a c
spared_trans f g = record { kept = kept_trans f.kept g.kept; gap = λ j l h. g.gap j l h ∙ f.gap j l h }

pub spared_quiet : {p : Places} {b b' : List ℕ} → Layout p (length b) → Spared p b b' → Quiet p b b'
spared_quiet lay s = record {
  len = s.kept.len;
  low = λ j l. s.kept.out j (inl (omega arith));
  tails = λ st t. record {
    zone = λ j l. s.kept.out _ (inl (omega (arith, st.sector))) ∙ t.zone j l;
    sector = λ j l. s.gap _ (omega arith) (omega (arith, st.index)) ∙ t.sector j l;
  };
}

-- a write within table i
pub spared_table : (p : Places) (b b' : List ℕ) (i : ℕ) → Layout p (length b) → 1 ≤ i → i ≤ p.indexes → Kept b b' (table_place p i) 128 → Spared p b b'
spared_table p b b' i lay lo hi k = record { kept = kept_wider k (omega arith) (omega arith); gap = λ j l h. k.out j (inl (omega arith)) }

-- ---- a table

-- its bytes then: all zeros but its link, which stays
abbrev blank_of : List ℕ → List ℕ
blank_of t = over t 0 (replicate 124 0)

module _ (t : List ℕ) (long : length t ≡ 128) where
  fits : 0 + length {A = ℕ} (replicate 124 0) ≤ length t
  fits = omega (arith, length-replicate {A = ℕ} 124 0)

  pub blank_zeros : AllBytes (blank_of t) 0 124 0
  blank_zeros n l = same_at (blank_of t) (replicate 124 0) 0 (over_part t 0 (replicate 124 0) fits) n (omega (arith, length-replicate {A = ℕ} 124 0)) ∙ get_d_zeros 124 n

  pub blank_link : link_of (blank_of t) ≡ link_of t
  blank_link = u32_kept 124 (kept_over t 0 (replicate 124 0) fits) (inr (omega (arith, length-replicate {A = ℕ} 124 0)))

module _ (p : Places) (b : List ℕ) (i : ℕ) (lay : Layout p (length b)) (lo : 1 ≤ i) (hi : i ≤ p.indexes) (within : RunsWithin p i (table_at p b i)) where
  -- the books with the sectors under its pointers clear
  abbrev runless : List ℕ
  runless = clear_runs p b i (table_at p b i) (slots_of i (table_at p b i))

  kept_runless : Kept b runless p.sectortable (128 * p.zones)
  kept_runless = kept_clear p b i (table_at p b i) within (slots_of i (table_at p b i)) (omega arith)

  -- the table itself is then as it was
  pub table_runless : table_at p runless i ≡ table_at p b i
  table_runless = table_kept p i kept_runless (inr (omega arith))

  -- and with its header's clear too
  abbrev cleared : List ℕ
  cleared = clear_header p runless i (table_at p b i)

  kept_cleared : Kept b cleared p.sectortable (128 * p.zones)
  kept_cleared = kept_trans kept_runless (kept_header p runless i (table_at p b i) within)

  kept_zeros : Kept cleared (free_table p b i) (table_place p i) 124
  unfolding free_table
  kept_zeros = rw (length-replicate {A = ℕ} 124 0) at (kept_over cleared (table_place p i) (replicate 124 0) (omega (arith, length-replicate {A = ℕ} 124 0, kept_cleared.len)))

  pub table_spared : Spared p b (free_table p b i)
  table_spared = record {
    kept = kept_trans (kept_wider kept_cleared (omega arith) (omega arith)) (kept_wider kept_zeros (omega arith) (omega arith));
    gap = λ j l h. kept_zeros.out j (inl (omega arith)) ∙ kept_cleared.out j (inr (omega arith));
  }

  table_there : (j : ℕ) → 1 ≤ j → j ≢ i → table_at p (free_table p b i) j ≡ table_at p b j
  table_there j low ne = table_other p i j (kept_wider kept_zeros (omega arith) (omega arith)) lo low ne ∙ table_kept p j kept_cleared (inr (omega arith))

  table_here : table_at p (free_table p b i) i ≡ blank_of (table_at p b i)
  unfolding free_table
  table_here =
      ap (λ (o : ℕ). table_at p (over cleared o (replicate 124 0)) i) (sym (add-zero (table_place p i)))
      ∙ table_over p cleared i 0 (replicate 124 0) (rw kept_cleared.len lay) lo hi (omega (arith, length-replicate {A = ℕ} 124 0))
      ∙ ap blank_of (table_kept p i kept_cleared (inr (omega arith)))

  pub table_link : link_of (table_at p (free_table p b i) i) ≡ link_of (table_at p b i)
  table_link = ap link_of table_here ∙ blank_link (table_at p b i) (length_table p b i lay lo hi)

  table_bits : (s : ℕ) → s < 1024 * p.zones → claims_of i (table_at p b i) s ≤ sector_at p b s → sector_at p (free_table p b i) s + claims_of i (table_at p b i) s ≡ sector_at p b s
  unfolding claims_of over_of
  table_bits s l h =
      let t = table_at p b i in
      let runs = clear_bits p b i t within lay s (slots_of i t) (omega arith) (omega arith) in
      omega (arith, runs, header_bits p runless i t within (rw kept_runless.len lay) s (omega (arith, runs)), bit_kept p.sectortable s kept_zeros (inl (omega arith)))

-- ---- the first n tables of a file that has m + 1

unfoldable pub free_first : Places → List ℕ → ℕ → ℕ → List ℕ
free_first p b f zero = b
free_first p b f (suc n) = free_table p (free_first p b f n) (walk (next (view_of p b)) f n)

-- they are free in the books x, and no other table is changed
pub record Blanked (p : Places) (b : List ℕ) (f n : ℕ) (x : List ℕ) : Type 0 where
  pub spared : Spared p b x
  pub there : (j : ℕ) → 1 ≤ j → ((k : ℕ) → k < n → walk (next (view_of p b)) f k ≢ j) → table_at p x j ≡ table_at p b j
  pub here : (k : ℕ) → k < n → table_at p x (walk (next (view_of p b)) f k) ≡ blank_of (table_at p b (walk (next (view_of p b)) f k))

module _ (p : Places) (b : List ℕ) (lay : Layout p (length b)) (r6 : R6 (view_of p b)) (f m : ℕ) (parent : Parent (view_of p b) f) (ch : FileChain (view_of p b) f m) where
  -- the n-th table of the file
  abbrev nth : ℕ → ℕ
  nth n = walk (next (view_of p b)) f n

  inside : (n : ℕ) → n < suc m → (1 ≤ nth n) × (nth n ≤ p.indexes)
  inside = tables_in (view_of p b) f m parent ch

  once : (n : ℕ) → n < suc m → (k : ℕ) → k < n → nth k ≢ nth n
  once = tables_once (view_of p b) f m parent ch

  module _ (n : ℕ) (l : n < suc m) (x : List ℕ) (h : Blanked p b f n x) where
    lay' : Layout p (length x)
    lay' = rw h.spared.kept.len lay

    -- the next table is still as it was
    pub blanked_table : table_at p x (nth n) ≡ table_at p b (nth n)
    blanked_table = h.there (nth n) (inside n l).0 (once n l)

    pub blanked_within : RunsWithin p (nth n) (table_at p x (nth n))
    blanked_within = rw blanked_table (runs_within p b (nth n) r6 (inside n l).0 (inside n l).1)

    -- it is given back too
    blanked_more : Blanked p b f (suc n) (free_table p x (nth n))
    blanked_more =
        let lo = (inside n l).0 in
        let hi = (inside n l).1 in
        let w = blanked_within in
        record {
          spared = spared_trans h.spared (table_spared p x (nth n) lay' lo hi w);
          there = λ j lj ne. table_there p x (nth n) lay' lo hi w j lj (λ e. ne n (omega arith) (sym e)) ∙ h.there j lj (λ k lk. ne k (omega arith));
          here = λ k lk. elim (ℕ_discrete k n) [
            | yes e ↦ rw e (table_here p x (nth n) lay' lo hi w ∙ ap blank_of blanked_table)
            | no ne ↦ table_there p x (nth n) lay' lo hi w (nth k) (inside k (omega arith)).0 (once n l k (omega arith)) ∙ h.here k (omega arith)
          ];
        }

  pub tables_blanked : (n : ℕ) → n ≤ suc m → Blanked p b f n (free_first p b f n)
  unfolding free_first
  tables_blanked zero l = record { spared = spared_refl p b; there = λ j lj ne. refl; here = λ k lk. absurd (not-suc-le-zero lk) }
  tables_blanked (suc n) l = blanked_more n l (free_first p b f n) (tables_blanked n (omega arith))

  -- their sectors are cleared, if they are set and none is claimed twice
  pub tables_bits : (s : ℕ) → s < 1024 * p.zones → (n : ℕ) → n ≤ suc m → sum_to n (λ k. claims_of (nth k) (table_at p b (nth k)) s) ≤ sector_at p b s
      → sector_at p (free_first p b f n) s + sum_to n (λ k. claims_of (nth k) (table_at p b (nth k)) s) ≡ sector_at p b s
  unfolding free_first sum_to
  tables_bits s ls zero l set = omega arith
  tables_bits s ls (suc n) l set =
      let x = free_first p b f n in
      let h = tables_blanked n (omega arith) in
      let o = tables_bits s ls n (omega arith) (omega arith) in
      let e : claims_of (nth n) (table_at p x (nth n)) s ≡ claims_of (nth n) (table_at p b (nth n)) s = ap (λ (t : List ℕ). claims_of (nth n) t s) (blanked_table n l x h) in
      omega (arith, table_bits p x (nth n) (lay' n l x h) (inside n l).0 (inside n l).1 (blanked_within n l x h) s ls (omega (arith, e, o)))

  -- all of them
  free_rest : (d k : ℕ) → free_tables p (free_first p b f k) (tables_from (next (view_of p b)) f k d) ≡ free_first p b f (k + d)
  unfolding free_tables free_first tables_from
  free_rest zero k = rw (add-zero k)
  free_rest (suc d) k = free_rest d (suc k) ∙ ap (free_first p b f) (let e : suc k + d ≡ k + suc d = omega arith in e)

  pub free_all : free_tables p b (chain_of (view_of p b) f) ≡ free_first p b f (suc m)
  unfolding free_first
  free_all = ap (free_tables p b) (chain_tables (view_of p b) f m parent ch) ∙ free_rest (suc m) 0 ∙ ap (free_first p b f) (let e : 0 + suc m ≡ suc m = omega arith in e)
