-- A sector belongs to one place of one file: the k-th sectors of all files are different, and every sector under a pointer is one.
use mathlib.Core.Path.{◌≡◌, refl, sym, ap, ap₂, ◌∙◌}
use mathlib.Core.Logic.{⊎_elim}
use mathlib.Core.List.{List}
use Prim.Native.Nat.{ℕ, suc, ◌+◌, ◌-◌, ◌*◌, ◌≤◌, ◌<◌}
use native.Mathlib.Decide.{dec_lt}
use native.Mathlib.Omega.{arith}
use lib.ListN.{length}
use Rattle.field.specs.Sum.{sum_to}
use Rattle.field.proofs.BitLaws.{bit_at_lt}
use Rattle.field.proofs.Sums.{sum_upto, different_le}
use Rattle.tables.specs.declared.places.Places.{Places}
use Rattle.tables.specs.Indexes.{word_of, minus, slots_of, start_of, count_of, sectors_of, file_of}
use Rattle.tables.specs.Places.{Layout}
use Rattle.tables.specs.Lawful.{LawfulWith}
use Rattle.tables.specs.Views.{View, view_of, Begins, Parent, walk, next, Under}
use Rattle.tables.specs.Rules.R4.{R4}
use Rattle.tables.specs.Rules.R5.{FileChain, R5}
use Rattle.tables.specs.Rules.R8.{file_sectors}
use Rattle.tables.proofs.ChainLaws.{walk_place}
use Rattle.tables.proofs.IndexLaws.{slots_free}
use Rattle.tables.proofs.PointerLaws.{one_pointer}
use Rattle.allocation.proofs.ChangeLaws.{parent_file, child_file, member_file}
use Rattle.files.specs.declared.spot.Spot.{Spot}
use Rattle.files.specs.Spots.{spot_start, spot_of, kth_sector}
use Rattle.files.proofs.FileTables.{tables_in, file_member, sectors_chain}
use Rattle.files.proofs.SpotLaws.{Reached, reached, kth_at, kth_inside}

-- ---- sums

-- what is counted k-th is counted in one part
part_one : (f : ℕ → ℕ) (k i j : ℕ) → sum_to i f ≤ k → k < sum_to i f + f i → sum_to j f ≤ k → k < sum_to j f + f j → i ≡ j
part_one f k i j li hi lj hj =
    elim (dec_lt i j) [ yes l ↦ absurd (omega (arith, sum_upto j i f l)) | no l ↦ elim (dec_lt j i) [ yes m ↦ absurd (omega (arith, sum_upto i j f m)) | no m ↦ omega arith ] ]

-- ---- a place in a file's chain and the number of its sector

-- the sectors under the j-th pointer of table i, under all its pointers, and under those of the table at place n of the chain of f
abbrev counts : View → ℕ → ℕ → ℕ
counts v i j = count_of i (v.table i) j

abbrev sectors : View → ℕ → ℕ
sectors v i = sectors_of i (v.table i)

abbrev chained : View → ℕ → ℕ → ℕ
chained v f n = sectors v (walk (next v) f n)

-- the k-th sector is one of its table's, and the table's are among the chain's
module _ (v : View) (f m k : ℕ) (c : Spot) (r : Reached v f m k c) where
  in_table : sum_to c.slot (counts v c.table.0) + c.off < sectors v c.table.0
  unfolding sectors_of
  in_table = omega (arith, r.off', sum_upto (slots_of c.table.0 (v.table c.table.0)) c.slot (counts v c.table.0) r.slot')

  in_place : k < sum_to r.place (chained v f) + chained v f r.place
  in_place = let e : chained v f r.place ≡ sectors v c.table.0 = ap (sectors v) r.here in omega (arith, in_table, r.number)

  in_chain : k < sum_to (suc m) (chained v f)
  in_chain = omega (arith, in_place, sum_upto (suc m) r.place (chained v f) (omega (arith, r.within)))

-- the k-th sector has one place
module _ (v : View) (f m k : ℕ) (c d : Spot) (r : Reached v f m k c) (q : Reached v f m k d) where
  same_place : r.place ≡ q.place
  same_place = part_one (chained v f) k r.place q.place (omega (arith, r.number)) (in_place v f m k c r) (omega (arith, q.number)) (in_place v f m k d q)

  same_table : c.table.0 ≡ d.table.0
  same_table = sym r.here ∙ ap (walk (next v) f) same_place ∙ q.here

  same_rest : sum_to c.slot (counts v d.table.0) + c.off ≡ sum_to d.slot (counts v d.table.0) + d.off
  same_rest =
      let a : sum_to r.place (chained v f) ≡ sum_to q.place (chained v f) = ap (λ (n : ℕ). sum_to n (chained v f)) same_place in
      let e : sum_to c.slot (counts v c.table.0) ≡ sum_to c.slot (counts v d.table.0) = ap (λ (i : ℕ). sum_to c.slot (counts v i)) same_table in
      omega (arith, r.number, q.number)

  same_slot : c.slot ≡ d.slot
  same_slot =
      let e : counts v c.table.0 c.slot ≡ counts v d.table.0 c.slot = ap (λ (i : ℕ). counts v i c.slot) same_table in
      part_one (counts v d.table.0) (sum_to d.slot (counts v d.table.0) + d.off) c.slot d.slot
      (omega (arith, same_rest)) (omega (arith, same_rest, r.off')) (omega arith) (omega (arith, q.off'))

  same_sector : spot_start v c + c.off ≡ spot_start v d + d.off
  same_sector =
      let a : sum_to c.slot (counts v d.table.0) ≡ sum_to d.slot (counts v d.table.0) = ap (λ (n : ℕ). sum_to n (counts v d.table.0)) same_slot in
      let e : spot_start v c ≡ spot_start v d = ap₂ (λ (i j : ℕ). start_of i (v.table i) j) same_table same_slot in
      omega (arith, same_rest)

module _ (v : View) (few : v.indexes ≤ 4096) (f m : ℕ) (parent : Parent v f) (chain : FileChain v f m) where
  module _ (k : ℕ) (c : Spot) (r : Reached v f m k c) where
    reached_under : Under v c.table.0 c.slot (spot_start v c + c.off)
    reached_under =
        let is = rw r.here at (tables_in v f m parent chain r.place (omega (arith, r.within))) in
        record { low = is.0; high = is.1; slot = r.slot'; from = omega arith; to = omega (arith, r.off') }

    reached_file : file_of c.table.0 (v.table c.table.0) ≡ f
    reached_file = rw r.here at (member_file v few f m parent chain r.place (omega (arith, r.within)))

  -- a place has one number
  number_one : (k l : ℕ) (c d : Spot) → Reached v f m k c → Reached v f m l d → c.table.0 ≡ d.table.0 → c.slot ≡ d.slot → spot_start v c + c.off ≡ spot_start v d + d.off → k ≡ l
  number_one k l c d r q et es e =
      let ep : r.place ≡ q.place
      = walk_place (next v) f (suc m) chain.ends (λ n ln. (tables_in v f m parent chain n ln).0) q.place (omega (arith, q.within)) r.place (omega (arith, r.within)) (r.here ∙ et ∙ sym q.here) in
      let before : sum_to r.place (chained v f) ≡ sum_to q.place (chained v f) = ap (λ (n : ℕ). sum_to n (chained v f)) ep in
      let within : sum_to c.slot (counts v c.table.0) ≡ sum_to d.slot (counts v d.table.0) = ap₂ (λ (i n : ℕ). sum_to n (counts v i)) et es in
      let start : spot_start v c ≡ spot_start v d = ap₂ (λ (i j : ℕ). start_of i (v.table i) j) et es in
      omega (arith, r.number, q.number)

-- what lies under a pointer is of a file
under_parent : (v : View) → R4 v → R5 v → v.indexes ≤ 4096 → (i j s : ℕ) → Under v i j s → Parent v (file_of i (v.table i))
under_parent v r4 r5 few i j s u =
    ⊎_elim (λ w. absurd (omega (arith, u.slot, slots_free i (v.table i) w)))
    (⊎_elim (λ w. rw (parent_file v i (begins i w)) (begins i w)) (λ w. rw (child_file v i few (begins (minus i) w)) (r5.stands i (begins (minus i) w)).parent))
    (r4.own i (omega (arith, u.high)) u.low).word
  where
    begins : (w : ℕ) → word_of (v.table i) ≡ w → Begins v i w
    begins w e = record { low = u.low; high = u.high; word = e }

module _ (p : Places) (b : List ℕ) (lay : Layout p (length b)) {extra : ℕ → ℕ} (lawful : LawfulWith extra p b) where
  abbrev v : View
  v = view_of p b

  apart : (s i j k l : ℕ) → Under v i j s → Under v k l s → (i ≡ k) × (j ≡ l)
  apart = one_pointer v lawful.r6 lawful.r7 (bit_at_lt b p.sectortable)

  -- the k-th sector lies under a pointer of a table of the file
  pub kth_under : (f k : ℕ) → Parent (view_of p b) f → k < file_sectors (view_of p b) f
      → (i : ℕ) × (j : ℕ) × Under (view_of p b) i j (kth_sector (view_of p b) f k) × (file_of i ((view_of p b).table i) ≡ f)
  kth_under f k h l =
      let c = spot_of v f k in
      let r = reached p b lay lawful f h k l in
      let chain = lawful.r5.chain f h in
      let m = lawful.r5.long f in
      (c.table.0, c.slot, rw (kth_at v f k) (reached_under v lay.few f m h chain k c r), reached_file v lay.few f m h chain k c r)

  -- the sectors of one file are different
  kth_one : (f k l : ℕ) → Parent v f → k < file_sectors v f → l < file_sectors v f → kth_sector v f k ≡ kth_sector v f l → k ≡ l
  kth_one f k l h lk ll e =
      let c = spot_of v f k in
      let d = spot_of v f l in
      let chain = lawful.r5.chain f h in
      let m = lawful.r5.long f in
      let r = reached p b lay lawful f h k lk in
      let q = reached p b lay lawful f h l ll in
      let same : spot_start v c + c.off ≡ spot_start v d + d.off = sym (kth_at v f k) ∙ e ∙ kth_at v f l in
      let o = apart (spot_start v d + d.off) c.table.0 c.slot d.table.0 d.slot (rw same at (reached_under v lay.few f m h chain k c r)) (reached_under v lay.few f m h chain l d q) in
      number_one v lay.few f m h chain k l c d r q o.0 o.1 same

  pub place_one : (f g k l : ℕ) → Parent (view_of p b) f → Parent (view_of p b) g → k < file_sectors (view_of p b) f → l < file_sectors (view_of p b) g
      → kth_sector (view_of p b) f k ≡ kth_sector (view_of p b) g l → (f ≡ g) × (k ≡ l)
  place_one f g k l hf hg lk ll e =
      let u = kth_under f k hf lk in
      let w = kth_under g l hg ll in
      let o = apart (kth_sector v g l) u.0 u.1 w.0 w.1 (rw e at u.2) w.2 in
      let fg : f ≡ g = sym u.3 ∙ ap (λ (i : ℕ). file_of i (v.table i)) o.0 ∙ w.3 in
      (fg, kth_one f k l hf lk (rw fg ll) (e ∙ ap (λ (n : ℕ). kth_sector v n l) (sym fg)))

  pub under_place : (i j s : ℕ) → Under (view_of p b) i j s
      → Parent (view_of p b) (file_of i ((view_of p b).table i)) × ((k : ℕ) × (k < file_sectors (view_of p b) (file_of i ((view_of p b).table i))) × (kth_sector (view_of p b) (file_of i ((view_of p b).table i)) k ≡ s))
  under_place i j s u =
      let f = file_of i (v.table i) in
      let h = under_parent v lawful.r4 lawful.r5 lay.few i j s u in
      let m = lawful.r5.long f in
      let at = file_member v lawful.r4 lawful.r5 lay.few f h i u.low u.high refl in
      let off = s - start_of i (v.table i) j in
      let k = sum_to at.0 (chained v f) + sum_to j (counts v i) + off in
      let d : Spot = record { table = record { 0 = i }; slot = j; off = off } in
      let q : Reached v f m k d = record {
        place = at.0;
        within = omega (arith, at.1);
        here = at.2;
        slot' = u.slot;
        used = omega (arith, u.from, u.to);
        off' = omega (arith, u.from, u.to);
        number = refl;
      } in
      let less : k < file_sectors v f = omega (arith, in_chain v f m k d q, sectors_chain v lawful.r4 lawful.r5 lay.few f h) in
      let r = reached p b lay lawful f h k less in
      (h, (k, less, omega (arith, kth_at v f k, same_sector v f m k (spot_of v f k) d r q, u.from)))

  -- no file has more sectors than there are between the system zones
  pub sectors_most : (f : ℕ) → Parent (view_of p b) f → file_sectors (view_of p b) f ≤ 1024 * (p.zones - 2)
  sectors_most f h =
      different_le (1024 * (p.zones - 2)) (file_sectors v f) (λ k. kth_sector v f k - 1024) (λ k l. omega (arith, (inside k l).0, (inside k l).1))
      (λ k l j lj e. let q : j ≡ k = kth_one f j k h (omega arith) l (omega (arith, (inside k l).0, (inside j (omega arith)).0)) in omega arith)
    where
      inside : (k : ℕ) → k < file_sectors v f → (1024 ≤ kth_sector v f k) × (kth_sector v f k < 1024 * (p.zones - 1))
      inside = kth_inside p b lay lawful f h
