-- With the freed blocks counted in the zone entries all rules hold.
use mathlib.Core.Path.{◌≡◌, refl, ◌∙◌}
use mathlib.Core.Logic.{◌⊎◌, inl, inr, ⊎_elim}
use Prim.Native.Nat.{ℕ, ◌+◌, ◌-◌, ◌*◌, ◌≤◌, ◌<◌}
use native.Mathlib.Decide.{ℕ_discrete, dec_lt}
use native.Mathlib.Omega.{arith}
use borrow.Author.Tests.{eq-eqb, ne_eqb}
use Rattle.tables.specs.declared.zone.ZoneEntry.{ZoneEntry}
use Rattle.tables.specs.Kinds.{zone_of, first_of}
use Rattle.tables.specs.Blocks.{block_of, per_zone}
use Rattle.tables.specs.Indexes.{header_start}
use Rattle.tables.specs.Views.{View, Parent, claims_of, claims_over, Under}
use Rattle.tables.specs.Withheld.{KeepsTypes}
use Rattle.tables.specs.Rules.R2.{Reads, ZoneBits, Untyped, InUse, R2}
use Rattle.tables.specs.Rules.R3.{R3}
use Rattle.tables.specs.Rules.R4.{R4}
use Rattle.tables.specs.Rules.R5.{R5}
use Rattle.tables.specs.Rules.R6.{HeaderLaw, R6}
use Rattle.tables.specs.Rules.R7.{Owned}
use Rattle.tables.specs.Rules.R8.{R8}
use Rattle.tables.specs.Rules.R9.{R9}
use Rattle.tables.proofs.BlockLaws.{block_of_lem}
use Rattle.tables.proofs.PointerLaws.{under_inside, under_set, header_set}
use Rattle.tables.proofs.RoomLaws.{all_clear}
use Rattle.tables.proofs.SameLaws.{blocks_same}
use Rattle.allocation.proofs.FileSame.{file_same}
use Rattle.allocation.proofs.ChangeLaws.{parent_under}
use Rattle.allocation.proofs.TakenHeld.{type_kept, clear_keeps, run_kept, header_run_kept, files_R4, files_R5, files_tally, files_sectors, files_R9, files_under}
use Rattle.files.specs.Release.{recounted}
use Rattle.files.specs.Freed.{Uncounted, Recounted}

-- rules R2 to R9, with `extra` set besides
pub record Rules (extra : ℕ → ℕ) (v : View) : Type 0 where
  pub r2 : R2 v
  pub r3 : R3 v
  pub r4 : R4 v
  pub r5 : R5 v
  pub r6 : R6 v
  pub r7 : Owned v extra
  pub r8 : R8 v
  pub r9 : R9 v

-- ---- an entry with n blocks freed

-- it keeps its type and has n free blocks more
record Stays (e e' : ZoneEntry) (n : ℕ) : Type 0 where
  ztype : e'.ztype ≡ e.ztype
  free : e'.free ≡ e.free + n
  third : e'.third ≡ e.third

-- it is (0,0,0), where all blocks are free, or stays
recounted_is : (e : ZoneEntry) (n : ℕ) → (Reads (recounted e n) 0 0 0 × (e.free + n ≡ per_zone e.ztype)) ⊎ Stays e (recounted e n) n
unfolding recounted
recounted_is e n =
    elim (ℕ_discrete (e.free + n) (per_zone e.ztype)) [
      | yes q ↦ inl (rw (eq-eqb (e.free + n) (per_zone e.ztype) q) (record { ztype = refl; free = refl; third = refl }), q)
      | no nq ↦ inr (rw (ne_eqb (e.free + n) (per_zone e.ztype) nq) (record { ztype = refl; free = refl; third = refl }))
    ]

module _ (v v' : View) (freed : ℕ → ℕ) (small : (s : ℕ) → v.bit s < 2) {extra : ℕ → ℕ} (u : Uncounted extra v freed) (h : Recounted v v' freed) where
  -- ---- zones

  -- a zone reads (0,0,0) and is clear, or keeps its type
  abbrev Now : ℕ → Type 0
  Now z = (Reads (v'.zone z) 0 0 0 × ZoneBits v z 0) ⊎ (InUse v z × Stays (v.zone z) (v'.zone z) (freed z))

  zone_now : (z : ℕ) → 2 ≤ z → z < v.zones → Now z
  zone_now z lo hi = ⊎_elim untyped typed ((u.r2 z (omega arith) (omega arith)).other lo hi)
    where
      untyped : Untyped v z → Now z
      untyped o = inl (rw (h.none z hi lo ((u.short z hi lo).other (λ t. omega (arith, t.low, o.reads.ztype)))) o.reads, o.clear)

      typed : InUse v z → Now z
      typed o =
          let t = (v.zone z).ztype in
          elim (dec_lt 0 (freed z)) [
            | yes l ↦ rw (h.some z hi lo l) (⊎_elim
                (λ r. inl (r.0, all_clear v.bit (first_of z) (block_of t) (block_of_lem t o.typed) (rw r.1 at ((u.short z hi lo).typed o.typed))))
                (λ s. inr (o, s)) (recounted_is (v.zone z) (freed z)))
            | no l ↦ (let e : freed z ≡ 0 = omega arith in rw (h.none z hi lo e) (inr (o, record { ztype = refl; free = omega arith; third = refl })))
          ]

  bits_now : (z w : ℕ) → 1 ≤ z → z ≤ v.zones → ZoneBits v z w → ZoneBits v' z w
  bits_now z w lo hi all k l = h.bit (first_of z + k) (omega arith) ∙ all k l

  now_R2 : R2 v'
  now_R2 z l lo =
      let hi : z ≤ v.zones = omega (arith, h.zones) in
      let o = u.r2 z (omega arith) lo in
      record {
        first = λ e. (rw (h.zones, e, h.first) (rw e at (o.first e).0), bits_now z 1 lo hi (o.first e).1);
        last = λ e. (let q = e ∙ h.zones in (rw (q, h.last) (rw q at (o.last q).0), bits_now z 1 lo hi (o.last q).1));
        other = λ a c. ⊎_elim (λ r. inl (record { reads = r.0; clear = bits_now z 0 lo hi r.1 }))
            (λ r. inr (record { typed = rw r.1.ztype r.0.typed; third = r.1.third ∙ r.0.third })) (zone_now z a (rw h.zones at c));
      }

  now_R3 : R3 v'
  now_R3 z l lo t =
      let l' : z < v.zones = rw h.zones at l in
      ⊎_elim (λ r. absurd (omega (arith, t.low, r.0.ztype)))
      (λ r. (let y = r.0.typed in rw r.1.ztype (blocks_same v.bit v'.bit (first_of z) (block_of (v.zone z).ztype) (block_of_lem _ y) (λ k lk. h.bit _ (omega arith))
      (v'.zone z).free (rw r.1.free ((u.short z l' lo).typed y)))))
      (zone_now z lo l')

  -- ---- runs

  type_or_clear : (z : ℕ) → 2 ≤ z → z < v.zones → ((v'.zone z).ztype ≡ (v.zone z).ztype) ⊎ ZoneBits v z 0
  type_or_clear z lo hi = ⊎_elim (λ r. inr r.1) (λ r. inl r.1.ztype) (zone_now z lo hi)

  set_under : (i j s : ℕ) → Under v i j s → v.bit s ≡ 1
  set_under i j s = under_set v u.r6 u.r7 small s i j

  -- a header's sectors are set, so that its zone is not left empty
  now_header : (i : ℕ) → Parent v i → HeaderLaw v (v.table i) → HeaderLaw v' (v.table i)
  now_header i parent law = record {
    run = λ w. (let r = law.run w in
        header_run_kept v v' h.zones type_or_clear _ _ r
        (header_set v u.r6 u.r7 small (header_start (v.table i)) i (record { parent = parent; from = omega arith; to = omega (arith, r.some) })));
  }

  now_R6 : R6 v'
  now_R6 i l lo =
      let hi : i ≤ v.indexes = omega (arith, h.files.indexes) in
      let o = u.r6 i (omega arith) lo in
      rw (h.files.table i lo hi) (record {
        first = o.first;
        used = λ j l w. run_kept v v' h.zones type_or_clear _ _ (o.used j l w) (λ s a c. set_under i j s (record { low = lo; high = hi; slot = l; from = a; to = c }));
        one = o.one;
        header = λ w. now_header i (record { low = lo; high = hi; word = w }) (o.header w);
      })

  now_owned : Owned v' extra
  unfolding claims_over
  now_owned = record {
    count = λ s l lo. (let l' : s < 1024 * (v.zones - 1) = rw h.zones at l in omega (arith, files_tally h.files (λ i t. claims_of i t s), u.r7.count s l' lo, h.bit s (omega arith)));
  }

  -- ---- files

  under_type : (i j s : ℕ) → Under v i j s → (v'.zone (zone_of s)).ztype ≡ (v.zone (zone_of s)).ztype
  under_type i j s w = let o = under_inside v u.r6 u.r7 small i j s w in type_kept v v' h.zones type_or_clear s o.1 o.0 (set_under i j s w)

  now_R8 : R8 v'
  now_R8 p l lo word =
      let hi : p ≤ v.indexes = omega (arith, h.files.indexes) in
      let e = h.files.table p lo hi in
      let o : Parent v p = record { low = lo; high = hi; word = rw e at word } in
      file_same v v' under_type p (parent_under v u.r6 p o) e
      (λ i j s of w. (let y = files_under h.files i j s w in (rw (h.files.table i y.low y.high) at of, y)))
      (files_sectors h.files p) (u.r8 p (omega arith) lo o.word)

  pub recounted_rules : Rules extra v'
  recounted_rules = record {
    r2 = now_R2;
    r3 = now_R3;
    r4 = files_R4 h.files u.r4;
    r5 = files_R5 h.files u.r5;
    r6 = now_R6;
    r7 = now_owned;
    r8 = now_R8;
    r9 = files_R9 h.files u.r9;
  }

  -- a zone that is left empty has no sector that is set besides
  pub recounted_keeps : KeepsTypes extra v v'
  recounted_keeps = clear_keeps v v' h.zones type_or_clear small u.r7
