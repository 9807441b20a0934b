-- The file's k-th sector: where it stands in the chain, and that it is a sector under a pointer.
use mathlib.Core.Path.{◌≡◌, refl, sym, ap, ◌∙◌}
use mathlib.Core.Bool.{Bool, true, false, true≢false, and-eq-true_iff}
use mathlib.Core.List.{List}
use Prim.Native.Nat.{ℕ, zero, suc, ◌+◌, ◌-◌, ◌*◌, ◌≤◌, ◌<◌}
use native.Mathlib.Numerals.{add-one}
use native.Mathlib.Decide.{dec_lt}
use native.Mathlib.Omega.{arith}
use lib.ListN.{length}
use lib.Dec.{ltb}
use borrow.Author.Tests.{ltb-true, lt-ltb, le-ltb}
use Rattle.field.specs.Sum.{sum_to}
use Rattle.field.proofs.Sums.{sum_more, sum_cut, sum_zero}
use Rattle.tables.specs.declared.places.Places.{Places}
use Rattle.tables.specs.Indexes.{slots_of, start_of, count_of, sectors_of, Used}
use Rattle.tables.specs.Places.{Layout}
use Rattle.tables.specs.Lawful.{LawfulWith}
use Rattle.tables.specs.Views.{View, view_of, Parent, Child, walk, next}
use Rattle.tables.specs.Rules.R4.{R4}
use Rattle.tables.specs.Rules.R5.{R5}
use Rattle.tables.specs.Rules.R6.{Shape, R6}
use Rattle.tables.specs.Rules.R8.{file_sectors}
use Rattle.tables.proofs.IndexLaws.{slots_parent}
use Rattle.allocation.specs.Last.{used_pointers}
use Rattle.allocation.proofs.LastLaws.{used_le, used_before, used_not, used_some}
use Rattle.files.specs.declared.spot.Spot.{Spot}
use Rattle.files.specs.Spots.{spot_at, spot_start, spot_count, more_at, next_run, onward, spot_of, kth_sector}
use Rattle.files.specs.Asked.{OnSector}
use Rattle.files.proofs.FileTables.{tables_in, sectors_chain}

-- spot c is the file's k-th sector: in the `place`-th of its m + 1 tables, after the sectors of the tables and pointers before it
pub record Reached (v : View) (f m k : ℕ) (c : Spot) : Type 0 where
  pub place : ℕ
  pub within : place ≤ m
  pub here : walk (next v) f place ≡ c.table.0
  pub slot' : c.slot < slots_of c.table.0 (v.table c.table.0)
  pub used : Used c.table.0 (v.table c.table.0) c.slot
  pub off' : c.off < spot_count v c
  pub number : k ≡ sum_to place (λ n. sectors_of (walk (next v) f n) (v.table (walk (next v) f n))) + sum_to c.slot (λ j. count_of c.table.0 (v.table c.table.0) j) + c.off

pub spot_next : (v : View) (f k : ℕ) → spot_of v f (k + 1) ≡ onward v (spot_of v f k)
unfolding spot_of
spot_next v f k = rw (add-one k)

pub kth_at : (v : View) (f k : ℕ) → kth_sector v f k ≡ spot_start v (spot_of v f k) + (spot_of v f k).off
unfolding kth_sector
kth_at v f k = refl

-- ---- one step onward

module _ (v : View) (c : Spot) where
  pub onward_under : c.off + 1 < spot_count v c → onward v c ≡ record { table = c.table; slot = c.slot; off = c.off + 1 }
  unfolding onward
  onward_under l = rw (lt-ltb (c.off + 1) (spot_count v c) l)

  pub onward_run : spot_count v c ≤ c.off + 1 → onward v c ≡ next_run v c
  unfolding onward
  onward_run l = rw (le-ltb (c.off + 1) (spot_count v c) l)

  pub run_more : more_at v c ≡ true → next_run v c ≡ spot_at c.table.0 (c.slot + 1)
  unfolding next_run
  run_more e = rw e

  pub run_further : more_at v c ≡ false → next_run v c ≡ spot_at (next v c.table.0) 0
  unfolding next_run
  run_further e = rw e

  -- the next pointer's place, and that it is used
  pub more_is : more_at v c ≡ true → (c.slot + 1 < slots_of c.table.0 (v.table c.table.0)) × Used c.table.0 (v.table c.table.0) (c.slot + 1)
  unfolding more_at
  more_is e =
      let i = c.table.0 in
      let n = slots_of i (v.table i) in
      let u = start_of i (v.table i) (c.slot + 1) + count_of i (v.table i) (c.slot + 1) in
      let q = (and-eq-true_iff (ltb (c.slot + 1) n) (ltb 0 u)).0 e in
      (ltb-true (c.slot + 1) n q.0, ltb-true 0 u q.1)

  pub more_not : more_at v c ≡ false → c.slot + 1 < slots_of c.table.0 (v.table c.table.0) → Used c.table.0 (v.table c.table.0) (c.slot + 1) → ⊥
  unfolding more_at
  more_not e l u =
      let i = c.table.0 in
      let n = slots_of i (v.table i) in
      let w = start_of i (v.table i) (c.slot + 1) + count_of i (v.table i) (c.slot + 1) in
      true≢false (sym ((and-eq-true_iff (ltb (c.slot + 1) n) (ltb 0 w)).1 (lt-ltb (c.slot + 1) n l, lt-ltb 0 w u)) ∙ e)

-- a table's sectors are those under its pointers up to the last used one
sectors_last : (i : ℕ) (t : List ℕ) (j : ℕ) → ((n : ℕ) → suc n < slots_of i t → Used i t (suc n) → Used i t n) → j < slots_of i t
    → (j + 1 < slots_of i t → Used i t (j + 1) → ⊥) → sectors_of i t ≡ sum_to j (λ n. count_of i t n) + count_of i t j
unfolding sectors_of sum_to
sectors_last i t j first l last =
    let few : used_pointers i t ≤ suc j = elim (dec_lt (suc j) (used_pointers i t)) [
      | yes h ↦ (let u = used_before i t (suc j) h in absurd (last (omega (arith, used_le i t)) (rw (add-one j) u)))
      | no h ↦ omega arith
    ] in
    let rest : (n : ℕ) → n < slots_of i t - suc j → count_of i t (suc j + n) ≡ 0
    = λ n ln. elim (dec_lt 0 (start_of i t (suc j + n) + count_of i t (suc j + n))) [
      | yes u ↦ absurd (used_not i t first (suc j + n) (omega arith) (omega (arith, few)) u)
      | no h ↦ omega arith
    ] in
    let e : slots_of i t ≡ suc j + (slots_of i t - suc j) = omega arith in
    let s = sum_cut (suc j) (slots_of i t - suc j) (λ n. count_of i t n) in
    ap (λ (n : ℕ). sum_to n (λ x. count_of i t x)) e ∙ omega (arith, s, sum_zero (slots_of i t - suc j) (λ n. count_of i t (suc j + n)) rest)

module _ (v : View) (r4 : R4 v) (r5 : R5 v) (r6 : R6 v) (few : v.indexes ≤ 4096) (f : ℕ) (parent : Parent v f) where
  reached_none : Reached v f (r5.long f) 0 (spot_at f 0)
  unfolding walk sum_to
  reached_none =
      let s = r6 f (omega (arith, parent.high)) parent.low in
      let l : 0 < slots_of f (v.table f) = omega (arith, slots_parent f (v.table f) (λ z. omega (arith, parent.low, parent.word)) parent.word) in
      record {
        place = 0;
        within = omega arith;
        here = refl;
        slot' = l;
        used = s.one parent.word;
        off' = (s.used 0 l (s.one parent.word)).some;
        number = refl;
      }

  module _ (k : ℕ) (c : Spot) (r : Reached v f (r5.long f) k c) where
    abbrev i : ℕ
    i = c.table.0

    abbrev sectors : ℕ → ℕ
    sectors n = sectors_of (walk (next v) f n) (v.table (walk (next v) f n))

    table_in : (1 ≤ i) × (i ≤ v.indexes)
    table_in = rw r.here at (tables_in v f (r5.long f) parent (r5.chain f parent) r.place (omega (arith, r.within)))

    shape : Shape v i (v.table i)
    shape = r6 i (omega (arith, table_in.1)) table_in.0

    reached_on : OnSector v c
    reached_on =
        let run = shape.used c.slot r.slot' r.used in
        record {
          table' = record { low = table_in.0; high = table_in.1; slot' = r.slot' };
          off' = r.off';
          from = run.low;
          to = run.high;
        }

    -- the spot is the last sector under its pointer
    module _ (end : spot_count v c ≤ c.off + 1) where
      -- the table has a next pointer
      to_slot : more_at v c ≡ true → Reached v f (r5.long f) (suc k) (spot_at i (c.slot + 1))
      to_slot e =
          let m = more_is v c e in
          record {
            place = r.place;
            within = r.within;
            here = r.here;
            slot' = m.0;
            used = m.1;
            off' = (shape.used (c.slot + 1) m.0 m.1).some;
            number = omega (arith, r.number, r.off', end, sum_more c.slot (λ j. count_of i (v.table i) j));
          }

      -- it has none: all sectors of the chain up to this table are passed
      passed : more_at v c ≡ false → suc k ≡ sum_to (suc r.place) sectors
      unfolding sum_to
      passed e =
          let s = sectors_last i (v.table i) c.slot shape.first r.slot' (more_not v c e) in
          let h : sectors r.place ≡ sectors_of i (v.table i) = ap (λ (n : ℕ). sectors_of n (v.table n)) r.here in
          omega (arith, r.number, r.off', end, s, h)

      -- so there is a next table, which is a child and has a pointer
      to_table : more_at v c ≡ false → suc k < file_sectors v f → Reached v f (r5.long f) (suc k) (spot_at (next v i) 0)
      unfolding walk sum_to
      to_table e l =
          let further : r.place < r5.long f = elim (dec_lt r.place (r5.long f)) [
            | yes h ↦ h
            | no h ↦ absurd (
                let q : r.place ≡ r5.long f = omega (arith, r.within) in
                let w : sum_to (suc r.place) sectors ≡ file_sectors v f = ap (λ (n : ℕ). sum_to (suc n) sectors) q ∙ sym (sectors_chain v r4 r5 few f parent) in
                omega (arith, passed e)
                )
          ] in
          let g : walk (next v) f (suc r.place) ≡ next v i = ap (next v) r.here in
          let child : Child v (next v i) = rw g at ((r5.chain f parent).each r.place further) in
          let o = r5.one (next v i) child in
          let s = r6 (next v i) (omega (arith, child.high)) child.low in
          let t = v.table (next v i) in
          let u = used_before (next v i) t 0 (used_some (next v i) t s.first o.0 o.1 o.2) in
          let z : 0 < slots_of (next v i) t = omega (arith, o.1) in
          record {
            place = suc r.place;
            within = further;
            here = g;
            slot' = z;
            used = u;
            off' = (s.used 0 z u).some;
            number = omega (arith, passed e);
          }

      to_run : (t : Bool) → more_at v c ≡ t → suc k < file_sectors v f → Reached v f (r5.long f) (suc k) (next_run v c)
      to_run true e l = rw (run_more v c e) (to_slot e)
      to_run false e l = rw (run_further v c e) (to_table e l)

    reached_more : suc k < file_sectors v f → Reached v f (r5.long f) (suc k) (onward v c)
    reached_more l = elim (dec_lt (c.off + 1) (spot_count v c)) [
      | yes h ↦ rw (onward_under v c h) (record { place = r.place; within = r.within; here = r.here; slot' = r.slot'; used = r.used; off' = h; number = omega (arith, r.number) })
      | no h ↦ rw (onward_run v c (omega arith)) (to_run (omega arith) (more_at v c) refl l)
    ]

  pub spot_reached : (k : ℕ) → k < file_sectors v f → Reached v f (r5.long f) k (spot_of v f k)
  unfolding spot_of
  spot_reached zero l = reached_none
  spot_reached (suc k) l = reached_more k (spot_of v f k) (spot_reached k (omega arith)) l

module _ (p : Places) (b : List ℕ) (lay : Layout p (length b)) {extra : ℕ → ℕ} (lawful : LawfulWith extra p b) (f : ℕ) (parent : Parent (view_of p b) f) where
  pub reached : (k : ℕ) → k < file_sectors (view_of p b) f → Reached (view_of p b) f (lawful.r5.long f) k (spot_of (view_of p b) f k)
  reached k l = spot_reached (view_of p b) lawful.r4 lawful.r5 lawful.r6 lay.few f parent k l

  pub spot_on : (k : ℕ) → k < file_sectors (view_of p b) f → OnSector (view_of p b) (spot_of (view_of p b) f k)
  spot_on k l = reached_on (view_of p b) lawful.r4 lawful.r5 lawful.r6 lay.few f parent k (spot_of (view_of p b) f k) (reached k l)

  pub kth_inside : (k : ℕ) → k < file_sectors (view_of p b) f → (1024 ≤ kth_sector (view_of p b) f k) × (kth_sector (view_of p b) f k < 1024 * (p.zones - 1))
  unfolding kth_sector
  kth_inside k l = let s = spot_on k l in (omega (arith, s.from), omega (arith, s.to, s.off'))
