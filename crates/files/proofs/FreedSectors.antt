-- A file given back: what its pointers and its header pointer lie over is free, and blocks stay whole. R2, R6 and R7.
use mathlib.Core.Path.{◌≡◌, sym, ap, ap₂, ◌∙◌}
use mathlib.Core.Logic.{◌≢◌, ◌⊎◌, inl, inr, ⊎_elim}
use mathlib.Core.List.{List}
use Prim.Native.Nat.{ℕ, ◌+◌, ◌-◌, ◌*◌, ◌/◌, ◌≤◌, ◌<◌}
use native.Mathlib.Nat.{mul-one}
use native.Mathlib.Decide.{ℕ_discrete, dec_lt}
use native.Mathlib.Omega.{arith}
use lib.Dec.{eqb}
use Rattle.field.specs.Sum.{sum_to}
use Rattle.field.proofs.Sums.{sum_same, sum_add, sum_zero}
use Rattle.tables.specs.Kinds.{zone_of, first_of}
use Rattle.tables.specs.Blocks.{ZoneType, block_of, Whole}
use Rattle.tables.specs.Indexes.{word_of, slots_of, start_of, count_of, header_start, header_count, file_of}
use Rattle.tables.specs.Views.{View, only_if, tally, cov, header_over, claims_of, over_of, claims_over}
use Rattle.tables.specs.Rules.R2.{ZoneBits, Untyped, R2}
use Rattle.tables.specs.Rules.R3.{R3}
use Rattle.tables.specs.Rules.R6.{Shape, R6}
use Rattle.tables.specs.Rules.R7.{Owned}
use Rattle.tables.proofs.BlockLaws.{block_of_lem, header_block, block_in}
use Rattle.tables.proofs.IndexLaws.{slots_free}
use Rattle.tables.proofs.PointerLaws.{cov_none, cov_cases, header_over_lem, header_other, claimed_inside, over_none}
use Rattle.allocation.proofs.ChangeLaws.{run_zones, header_zones}
use Rattle.files.specs.Release.{gone, freed_blocks}
use Rattle.files.specs.Freed.{Freed, Short}
use Rattle.files.proofs.FreedTables.{freed_word, tally_gone}

-- a free table has the right shape
blank_shape : (v : View) (i : ℕ) (t : List ℕ) → 1 ≤ i → word_of t ≡ 0 → Shape v i t
blank_shape v i t lo e = let s = slots_free i t e in record {
  first = λ j l u. absurd (omega arith);
  used = λ j l u. absurd (omega arith);
  one = λ w. absurd (omega arith);
  header = λ w. absurd (omega arith);
}

-- ---- what a table claims is whole blocks

module _ (v : View) (i : ℕ) (shape : Shape v i (v.table i)) (z : ℕ) (l : z < v.zones) (lo : 2 ≤ z) (typed : ZoneType (v.zone z).ztype) where
  abbrev t : List ℕ
  t = v.table i

  -- its pointers lie over whole blocks
  pointers_whole : Whole (over_of i t) (first_of z) (block_of (v.zone z).ztype)
  unfolding over_of
  pointers_whole k lk j lj =
      sum_same (slots_of i t) _ _ (λ n ln. elim (dec_lt 0 (start_of i t n + count_of i t n)) [
        | yes u ↦ (shape.used n ln u).whole z l lo typed k lk j lj
        | no u ↦ (let e : count_of i t n ≡ 0 = omega arith in rw e (cov_none _ _ ∙ sym (cov_none _ _)))
      ])

  -- a parent's header lies in one zone only
  header_missed : (s : ℕ) → word_of t ≡ i → zone_of s ≢ zone_of (header_start t) → header_over i t s ≡ 0
  header_missed s e ne =
      header_over_lem i t s e
      ∙ ⊎_elim (λ h. absurd (ne (let r = (shape.header e).run (omega (arith, h.low, h.high)) in omega (arith, r.one, h.low, h.high)))) (λ n. n) (cov_cases (header_start t) (header_count t) s)

  -- a file without a header has nothing there
  header_none : (s : ℕ) → word_of t ≡ i → header_count t ≡ 0 → header_over i t s ≡ 0
  header_none s e none = header_over_lem i t s e ∙ ap (λ (c : ℕ). cov (header_start t) c s) none ∙ cov_none (header_start t) s

  -- the blocks of a header's zone are of one sector
  header_own : z ≡ zone_of (header_start t) → word_of t ≡ i → 0 < header_count t → 1 ≡ block_of (v.zone z).ztype
  header_own q e some = (header_block _ (ap (λ (x : ℕ). (v.zone x).ztype) q ∙ ((shape.header e).run (omega arith)).typed)).0

  -- so a header lies over whole blocks
  header_whole : Whole (header_over i t) (first_of z) (block_of (v.zone z).ztype)
  header_whole k lk j lj =
      let size = block_of (v.zone z).ztype in
      let fits = block_in k size (block_of_lem _ typed) lk in
      elim (ℕ_discrete (word_of t) i) [
        | no ne ↦ header_other i t _ ne ∙ sym (header_other i t _ ne)
        | yes e ↦ elim (dec_lt 0 (header_count t)) [
          | no n ↦ (let none : header_count t ≡ 0 = omega arith in header_none _ e none ∙ sym (header_none _ e none))
          | yes some ↦ elim (ℕ_discrete z (zone_of (header_start t))) [
            | yes q ↦ ap (header_over i t) (omega (arith, header_own q e some))
            | no ne ↦ header_missed _ e (λ q. ne (omega arith)) ∙ sym (header_missed _ e (λ q. ne (omega arith)))
          ]
        ]
      ]

  -- and so does all that the table claims
  claims_whole : Whole (claims_of i t) (first_of z) (block_of (v.zone z).ztype)
  unfolding claims_of
  claims_whole k lk j lj = ap₂ (λ (x y : ℕ). x + y) (pointers_whole k lk j lj) (header_whole k lk j lj)

module _ (v v' : View) (f : ℕ) (h : Freed v v' f) where
  -- ---- R7

  pointers_gone : (s : ℕ) → claims_over v' s + gone v f s ≡ claims_over v s
  unfolding claims_over gone
  pointers_gone s = tally_gone v v' f h (λ i t. claims_of i t s) (λ j t lo e. over_none j t s lo e)

  pub freed_owned : {extra : ℕ → ℕ} → Owned v extra → Owned v' extra
  freed_owned r = record {
    count = λ s l lo. (let l' : s < 1024 * (v.zones - 1) = rw h.zones at l in omega (arith, pointers_gone s, h.bit s (omega arith), r.count s l' lo));
  }

  -- ---- R6: zone entries stay

  pub freed_R6 : R6 v → R6 v'
  freed_R6 r i l lo =
      let hi : i ≤ v.indexes = omega (arith, h.indexes) in
      elim (ℕ_discrete (file_of i (v.table i)) f) [
        | yes e ↦ blank_shape v' i (v'.table i) lo (freed_word v v' f h i lo hi e)
        | no ne ↦ (let s = r i (omega arith) lo in
            rw (h.there i lo hi ne) (record {
              first = s.first;
              used = λ j lj u. run_zones v v' h.zones h.zone _ _ (s.used j lj u);
              one = s.one;
              header = λ w. record { run = λ u. header_zones v v' h.zones h.zone _ _ ((s.header w).run u) };
            }))
      ]

  module _ (r6 : R6 v) where
    -- ---- blocks stay whole

    gone_whole : (z : ℕ) → z < v.zones → 2 ≤ z → ZoneType (v.zone z).ztype → Whole (gone v f) (first_of z) (block_of (v.zone z).ztype)
    unfolding gone tally
    gone_whole z l lo typed k lk j lj =
        sum_same v.indexes _ _ (λ n ln. ap (only_if (eqb (file_of (n + 1) (v.table (n + 1))) f)) (claims_whole v (n + 1) (r6 (n + 1) (omega arith) (omega arith)) z l lo typed k lk j lj))

    blocks_left : R3 v → (z : ℕ) → z < v'.zones → 2 ≤ z → ZoneType (v'.zone z).ztype → Whole v'.bit (first_of z) (block_of (v'.zone z).ztype)
    blocks_left r z l lo =
        let l' : z < v.zones = rw h.zones at l in
        rw (h.zone z (omega arith) (omega arith)) (λ typed k lk j lj. (let size = block_of (v.zone z).ztype in
        let fits = block_in k size (block_of_lem _ typed) lk in
        omega (arith, h.bit (first_of z + k * size + j) (omega arith), h.bit (first_of z + k * size) (omega arith), gone_whole z l' lo typed k lk j lj, (r z l' lo typed).whole k lk j lj)))

    -- ---- the free counts are short of the blocks that are freed

    module _ (small : (s : ℕ) → v.bit s < 2) (z : ℕ) (l : z < v.zones) (lo : 2 ≤ z) where
      abbrev size : ℕ
      size = block_of (v.zone z).ztype

      blocks_more : R3 v → ZoneType (v.zone z).ztype → sum_to (1024 / size) (λ k. 1 - v'.bit (first_of z + k * size)) ≡ (v.zone z).free + freed_blocks v f z
      unfolding freed_blocks
      blocks_more r typed =
          sum_same (1024 / size) _ _ (λ k lk. (let fits = block_in k size (block_of_lem _ typed) lk in omega (arith, h.bit (first_of z + k * size) (omega arith), small (first_of z + k * size))))
          ∙ sum_add (1024 / size) (λ k. 1 - v.bit (first_of z + k * size)) (λ k. gone v f (first_of z + k * size))
          ∙ ap (λ (n : ℕ). n + sum_to (1024 / size) (λ k. gone v f (first_of z + k * size))) (r z l lo typed).number

      -- a zone of no type has no sector in use
      none_clear : Untyped v z → (k : ℕ) → k < 1024 / size → gone v f (first_of z + k * size) ≡ 0
      unfolding block_of
      none_clear u k lk =
          let one : block_of (v.zone z).ztype ≡ 1 = ap block_of u.reads.ztype in
          let lk' : k < 1024 = rw one at lk in
          let e : k * size ≡ k = ap (λ (x : ℕ). k * x) one ∙ mul-one k in
          omega (arith, u.clear (k * size) (omega arith), h.bit (first_of z + k * size) (omega arith))

      none_freed : R2 v → (ZoneType (v.zone z).ztype → ⊥) → freed_blocks v f z ≡ 0
      unfolding freed_blocks
      none_freed r out = ⊎_elim (λ u. sum_zero (1024 / size) _ (none_clear u)) (λ u. absurd (out u.typed)) ((r z (omega arith) (omega arith)).other lo l)

      pub freed_short : R2 v → R3 v → Short v' z (freed_blocks v f z)
      freed_short r2 r3 =
          let e = h.zone z (omega arith) (omega arith) in record {
            typed = λ t. record { whole = blocks_left r3 z (rw h.zones l) lo t; number = rw e (blocks_more r3 (rw e at t)) };
            other = λ out. none_freed r2 (λ t. out (rw e t));
          }

    -- ---- R2: nothing that is claimed lies in zones 1 and Z

    gone_none : (s : ℕ) → (s < 1024) ⊎ (1024 * (v.zones - 1) ≤ s) → gone v f s ≡ 0
    gone_none s out =
        elim (dec_lt 0 (claims_over v s)) [
          | yes p ↦ (let inside = claimed_inside v r6 s p in absurd (⊎_elim (λ o. omega (arith, inside.0)) (λ o. omega (arith, inside.1)) out))
          | no n ↦ omega (arith, pointers_gone s)
        ]

    system_bits : (z : ℕ) → 1 ≤ z → z ≤ v.zones → (z ≡ 1) ⊎ (z ≡ v.zones) → ZoneBits v z 1 → ZoneBits v' z 1
    system_bits z lo hi at bits k l =
        let out : (first_of z + k < 1024) ⊎ (1024 * (v.zones - 1) ≤ first_of z + k) = ⊎_elim (λ e. inl (omega arith)) (λ e. inr (omega arith)) at in
        omega (arith, bits k l, h.bit (first_of z + k) (omega arith), gone_none (first_of z + k) out)

    clear_bits : (z : ℕ) → 1 ≤ z → z ≤ v.zones → ZoneBits v z 0 → ZoneBits v' z 0
    clear_bits z lo hi bits k l = omega (arith, bits k l, h.bit (first_of z + k) (omega arith))

    pub freed_R2 : R2 v → R2 v'
    freed_R2 r z l lo =
        let hi : z ≤ v.zones = omega (arith, h.zones) in
        let e = h.zone z lo hi in
        let o = r z (omega arith) lo in
        record {
          first = λ q. (rw (e, h.zones) (o.first q).0, system_bits z lo hi (inl q) (o.first q).1);
          last = λ q. (let x = o.last (q ∙ h.zones) in (rw e x.0, system_bits z lo hi (inr (q ∙ h.zones)) x.1));
          other = λ a b. ⊎_elim (λ u. inl (record { reads = rw e u.reads; clear = clear_bits z lo hi u.clear }))
              (λ u. inr (record { typed = rw e u.typed; third = rw e u.third })) (o.other a (rw h.zones at b));
        }
