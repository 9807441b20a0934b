-- A file of one index table given back, followed on views: what `released` does to the books, done to functions that compute at once.
use mathlib.Core.Path.{◌≡◌, refl, sym, ap, ◌∙◌}
use mathlib.Core.Bool.{cond}
use mathlib.Core.Logic.{◌≢◌}
use mathlib.Core.List.{List}
use Prim.Native.Nat.{ℕ, zero, suc, ◌+◌, ◌-◌, ◌*◌, ◌≤◌, ◌<◌}
use native.Mathlib.Decide.{ℕ_discrete, dec_lt}
use native.Mathlib.Omega.{arith}
use borrow.Author.Tests.{lt-ltb}
use lib.Dec.{eqb, ltb}
use lib.ListN.{length, replicate}
use Rattle.field.specs.Numbers.{put_u32}
use Rattle.field.specs.Parts.{over}
use Rattle.field.specs.Sum.{sum_to}
use Rattle.field.proofs.Sums.{sum_same, sum_part}
use Rattle.tables.specs.declared.places.Places.{Places}
use Rattle.tables.specs.declared.zone.ZoneEntry.{ZoneEntry}
use Rattle.tables.specs.Blocks.{block_of, per_zone}
use Rattle.tables.specs.Indexes.{table_at, word_of, link_of, put_link, slots_of, start_of, count_of, header_start, header_count, file_of}
use Rattle.tables.specs.Kinds.{first_of}
use Rattle.tables.specs.Lawful.{LawfulWith}
use Rattle.tables.specs.Places.{Layout}
use Rattle.tables.specs.Same.{Same}
use Rattle.tables.specs.Sector1.{free_of, first_free_of, flag_of}
use Rattle.tables.specs.Views.{View, view_of, Parent, walk, next, cov, over_of, header_over, claims_of}
use Rattle.tables.specs.Rules.R5.{FileChain}
use Rattle.tables.proofs.ChainLaws.{walk_none}
use Rattle.tables.proofs.PointerLaws.{cov_none, header_over_lem}
use Rattle.tables.proofs.FrameLaws.{sector1_table}
use Rattle.allocation.specs.Last.{last_table}
use Rattle.allocation.proofs.LastLaws.{last_table_lem}
use Rattle.allocation.proofs.ViewGrowth.{at_here, at_other}
use Rattle.files.specs.Freed.{Freed, Recounted}
use Rattle.files.specs.Release.{chain_of, free_tables, freed_file, gone, freed_blocks, recounted, released}
use Rattle.files.proofs.FileTables.{tables_long, file_member}
use Rattle.files.proofs.FreedView.{gone_is, all_freed, linked_last, lay', inner, freed_view, freed_quiet}
use Rattle.files.proofs.RecountView.{recount_view}

-- ---- the view

-- the blocks of zone z over whose first sectors the file has a claim, where `own` counts its claims
unfoldable pub freed_in : View → (ℕ → ℕ) → ℕ → ℕ
freed_in w own z = sum_to (per_zone (w.zone z).ztype) (λ k. own (first_of z + k * block_of (w.zone z).ztype))

-- a table's bytes once it is free and x the next free one
abbrev free_bytes : List ℕ → ℕ → List ℕ
free_bytes t x = put_u32 (over t 0 (replicate 124 0)) 124 x

-- without file f, `freed` blocks of each zone being freed
unfoldable pub released_view : View → ℕ → (ℕ → ℕ) → (ℕ → ℕ) → View
unfolding recounted over put_u32
released_view w f own freed = record {
  zones = w.zones;
  indexes = w.indexes;
  zone = λ z. cond (ltb 0 (freed z)) (recounted (w.zone z) (freed z)) (w.zone z);
  bit = λ s. w.bit s - own s;
  table = λ j. cond (eqb j f) (free_bytes (w.table f) w.head) (w.table j);
  active = w.active;
  deleted = w.deleted - 1;
  free = w.free + 1;
  system = w.system;
  directory = w.directory;
  head = f;
  flag = w.flag;
}

-- ---- it shows the books

one_sum : (g : ℕ → ℕ) → sum_to 1 g ≡ g 0
unfolding sum_to
one_sum g = omega arith

-- the file has no child, own counts its claims, and freed its blocks
pub record Alone (w : View) (f : ℕ) (own freed : ℕ → ℕ) : Type 0 where
  pub last : link_of (w.table f) ≡ 0
  pub claims : (s : ℕ) → claims_of f (w.table f) s ≡ own s
  pub blocks : (z : ℕ) → z < w.zones → 2 ≤ z → freed_in w own z ≡ freed z
  pub system : (freed 1 ≡ 0) × (freed w.zones ≡ 0)

module _ (p : Places) (b : List ℕ) (w : View) (f : ℕ) (own freed : ℕ → ℕ) (date : List ℕ) (lay : Layout p (length b)) {extra : ℕ → ℕ} (lawful : LawfulWith extra p b) (parent : Parent (view_of p b) f)
    (a : Same (view_of p b) w) (alone : Alone w f own freed) (six : length date ≡ 6) where
  abbrev v : View
  v = view_of p b

  abbrev m : ℕ
  m = lawful.r5.long f

  abbrev chain : FileChain v f m
  chain = lawful.r5.chain f parent

  table_is : w.table f ≡ table_at p b f
  table_is = a.table f parent.low parent.high

  one : m ≡ 0
  unfolding walk
  one = elim (ℕ_discrete m 0) [
    | yes e ↦ e
    | no ne ↦ absurd (omega (arith, (chain.each 0 (omega arith)).low, ap link_of (sym table_is) ∙ alone.last))
  ]

  -- ---- what is gone

  gone_own : (s : ℕ) → gone v f s ≡ own s
  gone_own s =
      gone_is p b lay lawful f parent s ∙ ap (λ (n : ℕ). sum_to (suc n) (λ k. claims_of (walk (next v) f k) (table_at p b (walk (next v) f k)) s)) one
      ∙ one_sum (λ k. claims_of (walk (next v) f k) (table_at p b (walk (next v) f k)) s)
      ∙ ap (λ (i : ℕ). claims_of i (table_at p b i) s) (walk_none (next v) f) ∙ ap (λ (t : List ℕ). claims_of f t s) (sym table_is) ∙ alone.claims s

  freed_own : (z : ℕ) → z < p.zones → 2 ≤ z → freed_blocks v f z ≡ freed z
  unfolding freed_blocks freed_in
  freed_own z hi lo =
      let same : freed_in w own z ≡ freed_blocks v f z = rw (a.zone z (omega arith) (omega arith)) (sum_same _ _ _ (λ k l. sym (gone_own _))) in
      sym same ∙ alone.blocks z (rw a.zones hi) lo

  -- ---- the two steps

  abbrev x : List ℕ
  x = freed_file p b f date

  abbrev y : List ℕ
  y = released p b f date

  cleared : Freed v (view_of p x) f
  cleared = freed_view p b lay lawful f parent date six

  lay_x : Layout p (length x)
  lay_x = rw (freed_quiet p b lay lawful f parent date six).len lay

  counted : Recounted (view_of p x) (view_of p y) (freed_blocks v f)
  unfolding released
  counted = recount_view p x lay_x (freed_blocks v f)

  -- ---- zones

  zone_none : (z : ℕ) → 1 ≤ z → z ≤ p.zones → freed z ≡ 0 → (view_of p y).zone z ≡ (view_of p x).zone z
  zone_none z lo hi e = elim (ℕ_discrete z 1) [
    | yes q ↦ rw q counted.first
    | no nf ↦ elim (ℕ_discrete z p.zones) [
      | yes q ↦ rw q counted.last
      | no nl ↦ counted.none z (omega arith) (omega arith) (freed_own z (omega arith) (omega arith) ∙ e)
    ]
  ]

  zone_some : (z : ℕ) → 1 ≤ z → z ≤ p.zones → 0 < freed z → (view_of p y).zone z ≡ recounted ((view_of p x).zone z) (freed z)
  zone_some z lo hi l =
      let nf : z ≢ 1 = λ q. omega (arith, ap freed q ∙ alone.system.0) in
      let nl : z ≢ p.zones = λ q. omega (arith, ap freed (q ∙ sym a.zones) ∙ alone.system.1) in
      let e = freed_own z (omega (arith, nl)) (omega (arith, nf)) in
      counted.some z (omega (arith, nl)) (omega (arith, nf)) (rw e l) ∙ ap (recounted ((view_of p x).zone z)) e

  zone_is : (z : ℕ) → 1 ≤ z → z ≤ p.zones → (released_view w f own freed).zone z ≡ (view_of p y).zone z
  unfolding released_view
  zone_is z lo hi =
      let e : w.zone z ≡ (view_of p x).zone z = a.zone z lo hi ∙ sym (cleared.zone z lo hi) in
      elim (dec_lt 0 (freed z)) [
        | yes l ↦ rw (lt-ltb 0 (freed z) l) (ap (λ (q : ZoneEntry). recounted q (freed z)) e ∙ sym (zone_some z lo hi l))
        | no n ↦ (let none : freed z ≡ 0 = omega arith in rw none (e ∙ sym (zone_none z lo hi none)))
      ]

  -- ---- sectors

  bit_is : (s : ℕ) → s < 1024 * p.zones → (released_view w f own freed).bit s ≡ (view_of p y).bit s
  unfolding released_view
  bit_is s l = omega (arith, cleared.bit s l, counted.bit s l, a.bit s l, gone_own s)

  -- ---- tables

  other : (j : ℕ) → 1 ≤ j → j ≤ p.indexes → j ≢ f → file_of j (table_at p b j) ≢ f
  other j lo hi ne e =
      let k = file_member v lawful.r4 lawful.r5 lay.few f parent j lo hi e in
      let z : k.0 ≡ 0 = omega (arith, k.1, one) in
      ne (sym k.2 ∙ ap (walk (next v) f) z ∙ walk_none (next v) f)

  last_is : last_table v f ≡ f
  last_is = sym (last_table_lem v f m parent chain) ∙ ap (walk (next v) f) one ∙ walk_none (next v) f

  abbrev c : List ℕ
  c = free_tables p b (chain_of v f)

  abbrev d : List ℕ
  d = put_link p c (last_table v f) (first_free_of b)

  erased : table_at p c f ≡ over (table_at p b f) 0 (replicate 124 0)
  erased = rw (walk_none (next v) f) at ((all_freed p b lay lawful f parent).here 0 (omega arith))

  linked : table_at p d f ≡ free_bytes (table_at p b f) (first_free_of b)
  linked =
      ap (table_at p d) (sym last_is) ∙ linked_last p b lay lawful f parent c d (all_freed p b lay lawful f parent) refl
      ∙ ap (λ (i : ℕ). put_u32 (table_at p c i) 124 (first_free_of b)) last_is ∙ ap (λ (t : List ℕ). put_u32 t 124 (first_free_of b)) erased

  own_table : table_at p x f ≡ table_at p d f
  unfolding freed_file
  own_table =
      let h = all_freed p b lay lawful f parent in
      sector1_table d x (inner p b lay lawful f parent c d h refl date six x refl) p (lay' p b lay lawful f parent c d h refl date six x refl) f

  table_at_lem : (j : ℕ) → 1 ≤ j → j ≤ p.indexes → (released_view w f own freed).table j ≡ (view_of p y).table j
  unfolding released_view
  table_at_lem j lo hi =
      let e = counted.files.table j lo hi in
      elim (ℕ_discrete j f) [
        | yes q ↦ at_here j f _ _ q ∙ rw (table_is, a.head) (sym linked) ∙ sym own_table ∙ ap (table_at p x) (sym q) ∙ sym e
        | no ne ↦ at_other j f _ _ ne ∙ a.table j lo hi ∙ sym (e ∙ cleared.there j lo hi (other j lo hi ne))
      ]

  -- ---- all

  pub released_same : Same (view_of p y) (released_view w f own freed)
  unfolding released_view
  released_same = record {
    zones = a.zones;
    indexes = a.indexes;
    zone = zone_is;
    bit = bit_is;
    table = table_at_lem;
    head = sym (counted.files.head ∙ cleared.head);
  }

  pub released_free : w.free ≡ free_of b → (released_view w f own freed).free ≡ free_of y
  unfolding released_view
  released_free e = omega (arith, e, counted.files.free, cleared.free, tables_long v f m parent chain, one)

  pub released_flag : flag_of y ≡ flag_of b
  released_flag = counted.files.counts.flag ∙ cleared.flag

-- ---- what the cards show of a file: two pointers, and the blocks in a zone of a type

two_sum : (n : ℕ) (g : ℕ → ℕ) → ((k : ℕ) → 2 ≤ k → k < suc (suc n) → g k ≡ 0) → sum_to (suc (suc n)) g ≡ g 0 + g 1
unfolding sum_to
two_sum zero g h = omega arith
two_sum (suc n) g h = omega (arith, two_sum n g (λ k lo hi. h k lo (omega arith)), h (suc (suc n)) (omega arith) (omega arith))

-- parent i, whose bytes are t, has pointers to c sectors from a on and to d from e on, and nothing else
pub record TwoRuns (i : ℕ) (t : List ℕ) (a c e d : ℕ) : Type 0 where
  pub word : word_of t ≡ i
  pub slots : slots_of i t ≡ 10
  pub first' : (start_of i t 0 ≡ a) × (count_of i t 0 ≡ c)
  pub second : (start_of i t 1 ≡ e) × (count_of i t 1 ≡ d)
  pub rest : sum_to 8 (λ j. count_of i t (j + 2)) ≡ 0
  pub bare : header_count t ≡ 0

pub two_claims : (i : ℕ) (t : List ℕ) (a c e d s : ℕ) → TwoRuns i t a c e d → claims_of i t s ≡ cov a c s + cov e d s
unfolding claims_of over_of
two_claims i t a c e d s h =
    let over' : sum_to (slots_of i t) (λ j. cov (start_of i t j) (count_of i t j) s) ≡ cov a c s + cov e d s
    = rw h.slots (two_sum 8 (λ j. cov (start_of i t j) (count_of i t j) s) none ∙ rw (h.first'.0, h.first'.1, h.second.0, h.second.1) refl) in
    let header : header_over i t s ≡ 0 = header_over_lem i t s h.word ∙ rw h.bare (cov_none (header_start t) s) in
    omega (arith, over', header)
  where
    none : (k : ℕ) → 2 ≤ k → k < 10 → cov (start_of i t k) (count_of i t k) s ≡ 0
    none k lo hi =
        let q : k - 2 + 2 ≡ k = omega arith in
        let z : count_of i t k ≡ 0 = omega (arith, rw q at (sum_part 8 (k - 2) (λ j. count_of i t (j + 2)) (omega arith)), h.rest) in
        rw z (cov_none (start_of i t k) s)

pub typed_blocks : (w : View) (own : ℕ → ℕ) (z t n : ℕ) → (w.zone z).ztype ≡ t → sum_to (per_zone t) (λ k. own (first_of z + k * block_of t)) ≡ n → freed_in w own z ≡ n
unfolding freed_in
typed_blocks w own z t n e h = rw e h
