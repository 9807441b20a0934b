-- Views that are the same to the rules: each of R2 to R8 goes from one to the other, and R9 with sector 1's counts.
use mathlib.Core.Path.{◌≡◌, sym, ap, ◌∙◌}
use mathlib.Core.Logic.{inl, inr, ⊎_elim}
use mathlib.Core.List.{List}
use Prim.Native.Nat.{ℕ, zero, suc, ◌+◌, ◌-◌, ◌*◌, ◌/◌, ◌≤◌, ◌<◌}
use native.Mathlib.Omega.{arith}
use Rattle.field.proofs.Sums.{sum_same}
use Rattle.tables.specs.declared.zone.ZoneEntry.{ZoneEntry}
use Rattle.tables.specs.Kinds.{zone_of, first_of}
use Rattle.tables.specs.Blocks.{Block, block_of}
use Rattle.tables.specs.Indexes.{word_of, parent_of, link_of, start_of, header_start}
use Rattle.tables.specs.Views.{View, Begins, Parent, Child, walk, next, tally, claims_of, claims_over, Under}
use Rattle.tables.specs.Same.{Same, Ground}
use Rattle.tables.specs.Rules.R2.{ZoneBits, R2}
use Rattle.tables.specs.Rules.R3.{Blocks, R3}
use Rattle.tables.specs.Rules.R4.{R4}
use Rattle.tables.specs.Rules.R5.{FileChain, Stands, R5}
use Rattle.tables.specs.Rules.R6.{Run, HeaderLaw, Shape, R6}
use Rattle.tables.specs.Rules.R7.{Owned}
use Rattle.tables.specs.Rules.R8.{file_sectors, file_type, InType, File, R8}
use Rattle.tables.specs.Rules.R9.{free_one, active_one, deleted_one, system_one, directory_one, R9}
use Rattle.tables.proofs.BlockLaws.{block_of_lem, block_in}
use Rattle.tables.proofs.ChainLaws.{walk_same, walk_none}
use Rattle.tables.proofs.IndexLaws.{slots_parent}

-- a zone's blocks by the zone's own bits
module _ (bit bit' : ℕ → ℕ) (from size : ℕ) (block : Block size) (same : (k : ℕ) → k < 1024 → bit' (from + k) ≡ bit (from + k)) where
  block_bits : (k : ℕ) → k < 1024 / size → (j : ℕ) → j < size → bit' (from + k * size + j) ≡ bit (from + k * size + j)
  block_bits k l j lj =
      let e : from + k * size + j ≡ from + (k * size + j) = omega arith in
      rw e (same (k * size + j) (omega (arith, block_in k size block l)))

  block_first : (k : ℕ) → k < 1024 / size → bit' (from + k * size) ≡ bit (from + k * size)
  block_first k l = same (k * size) (omega (arith, block_in k size block l, block.some))

  pub blocks_same : (free : ℕ) → Blocks bit from size free → Blocks bit' from size free
  blocks_same free b = record {
    whole = λ k l j lj. block_bits k l j lj ∙ b.whole k l j lj ∙ sym (block_first k l);
    number = sum_same (1024 / size) _ _ (λ k l. ap (λ (x : ℕ). 1 - x) (block_first k l)) ∙ b.number;
  }

-- ---- zones and sectors

module _ (v v' : View) (s : Ground v v') where
  same_bits : (z w : ℕ) → 1 ≤ z → z ≤ v.zones → ZoneBits v z w → ZoneBits v' z w
  same_bits z w lo hi h k l = s.bit (first_of z + k) (omega arith) ∙ h k l

  pub ground_R2 : R2 v → R2 v'
  ground_R2 r z l lo =
      let hi : z ≤ v.zones = omega (arith, s.zones) in
      let e = s.zone z lo hi in
      let o = r z (omega arith) lo in
      record {
        first = λ q. (rw (e, s.zones) (o.first q).0, same_bits z 1 lo hi (o.first q).1);
        last = λ q. (let x = o.last (q ∙ s.zones) in (rw e x.0, same_bits z 1 lo hi x.1));
        other = λ a b. ⊎_elim (λ u. inl (record { reads = rw e u.reads; clear = same_bits z 0 lo hi u.clear }))
            (λ u. inr (record { typed = rw e u.typed; third = rw e u.third })) (o.other a (rw s.zones at b));
      }

  pub ground_R3 : R3 v → R3 v'
  ground_R3 r z l lo =
      let l' : z < v.zones = rw s.zones at l in
      rw (s.zone z (omega arith) (omega arith)) (λ t.
      blocks_same v.bit v'.bit (first_of z) (block_of (v.zone z).ztype) (block_of_lem _ t) (λ k lk. s.bit _ (omega arith)) (v.zone z).free (r z l' lo t))

pub same_ground : {v v' : View} → Same v v' → Ground v v'
same_ground s = record { zones = s.zones; zone = s.zone; bit = s.bit }

module _ (v v' : View) (s : Same v v') where
  -- ---- chains

  pub same_begins : (i w : ℕ) → Begins v i w → Begins v' i w
  same_begins i w h = record { low = h.low; high = rw s.indexes h.high; word = ap word_of (s.table i h.low h.high) ∙ h.word }

  pub begins_same : (i w : ℕ) → Begins v' i w → Begins v i w
  begins_same i w h =
      let hi : i ≤ v.indexes = rw s.indexes at h.high in
      record { low = h.low; high = hi; word = sym (ap word_of (s.table i h.low hi)) ∙ h.word }

  same_next : (i w : ℕ) → Begins v i w → next v' i ≡ next v i
  same_next i w h = ap link_of (s.table i h.low h.high)

  pub same_R4 : R4 v → R4 v'
  same_R4 r = record {
    own = λ i l lo. (let hi : i ≤ v.indexes = omega (arith, s.indexes) in
        let o = r.own i (omega arith) lo in
        let e = s.table i lo hi in
        record { word = rw e o.word; blank = rw e o.blank });
    long = r.long;
    chain = record {
      ends = go r.long (omega arith) ∙ r.chain.ends;
      each = λ k l. rw (go k (omega arith)) (same_begins _ 0 (r.chain.each k l));
      every = λ i f. (let e = r.chain.every i (begins_same i 0 f) in (e.0, e.1, go e.0 (omega (arith, e.1)) ∙ e.2));
    };
  }
    where
      go : (k : ℕ) → k ≤ r.long → walk (next v') v'.head k ≡ walk (next v) v.head k
      go k l = ap (λ (h : ℕ). walk (next v') h k) s.head ∙ walk_same (next v) (next v') v.head r.long (λ k l. same_next _ 0 (r.chain.each k l)) k l

  module _ (p n : ℕ) (par : Parent v p) (ch : FileChain v p n) where
    member : (k : ℕ) → k < suc n → (w : ℕ) × Begins v (walk (next v) p k) w
    member zero l = (p, rw (walk_none (next v) p) par)
    member (suc k) l = (_, ch.each k (omega arith))

    file_walk : (k : ℕ) → k ≤ suc n → walk (next v') p k ≡ walk (next v) p k
    file_walk = walk_same (next v) (next v') p (suc n) (λ k l. same_next _ _ (member k l).1)

    file_table : (k : ℕ) → k < suc n → v'.table (walk (next v) p k) ≡ v.table (walk (next v) p k)
    file_table k l = let h = (member k l).1 in s.table _ h.low h.high

    pub same_chain : FileChain v' p n
    same_chain = record {
      ends = file_walk (suc n) (omega arith) ∙ ch.ends;
      each = λ k l. rw (file_walk (suc k) (omega arith)) (same_begins _ _ (ch.each k l));
      names = λ k l. rw (file_walk (suc k) (omega arith), file_table (suc k) (omega arith)) (ch.names k l);
      full = λ k l. rw (file_walk k (omega arith), file_table k (omega arith)) (ch.full k l);
    }

  pub same_R5 : R5 v → R5 v'
  same_R5 r = record {
    long = r.long;
    chain = λ p h. (let q = begins_same p p h in same_chain p (r.long p) q (r.chain p q));
    stands = λ c h. stands c (begins_same c _ h);
    one = λ c h. (let w = begins_same c _ h in rw (s.table c w.low w.high) (r.one c w));
  }
    where
      stands : (c : ℕ) → Child v c → Stands v' (parent_of (v'.table c)) (r.long (parent_of (v'.table c))) c
      stands c w =
          let o = r.stands c w in
          let p = parent_of (v.table c) in
          rw (s.table c w.low w.high) (record {
            parent = same_begins _ _ o.parent;
            place = o.place;
            below = o.below;
            here = file_walk p (r.long p) o.parent (r.chain p o.parent) (suc o.place) (omega (arith, o.below)) ∙ o.here;
          })

  -- ---- pointers

  pub same_run : (a c : ℕ) → Run v a c → Run v' a c
  same_run a c r = record {
    some = r.some;
    few = r.few;
    low = r.low;
    high = rw s.zones r.high;
    typed = λ n h l. rw (s.zone (zone_of n) (omega arith) (omega (arith, r.high))) (r.typed n h l);
    whole = λ z l lo. (let l' : z < v.zones = rw s.zones at l in rw (s.zone z (omega arith) (omega arith)) (r.whole z l' lo));
  }

  pub same_header : (t : List ℕ) → HeaderLaw v t → HeaderLaw v' t
  same_header t h = record {
    run = λ u. (let r = h.run u in record {
      some = r.some;
      few = r.few;
      low = r.low;
      high = rw s.zones r.high;
      one = r.one;
      typed = rw (s.zone (zone_of (header_start t)) (omega arith) (omega (arith, r.high, r.some))) r.typed;
    });
  }

  pub same_shape : (i : ℕ) (t : List ℕ) → Shape v i t → Shape v' i t
  same_shape i t h = record { first = h.first; used = λ j l u. same_run _ _ (h.used j l u); one = h.one; header = λ e. same_header t (h.header e) }

  pub same_R6 : R6 v → R6 v'
  same_R6 r i l lo = let hi : i ≤ v.indexes = omega (arith, s.indexes) in rw (s.table i lo hi) (same_shape i (v.table i) (r i (omega arith) lo))

  pub same_tally : (f : ℕ → List ℕ → ℕ) → tally v' f ≡ tally v f
  unfolding tally
  same_tally f = rw s.indexes (sum_same v.indexes _ _ (λ k l. ap (f (k + 1)) (s.table (k + 1) (omega arith) (omega arith))))

  pub same_over : (n : ℕ) → claims_over v' n ≡ claims_over v n
  unfolding claims_over
  same_over n = same_tally (λ i t. claims_of i t n)

  pub same_owned : {extra : ℕ → ℕ} → Owned v extra → Owned v' extra
  same_owned r = record {
    count = λ n l lo. (let l' : n < 1024 * (v.zones - 1) = rw s.zones at l in omega (arith, same_over n, r.count n l' lo, s.bit n (omega arith)));
  }

  -- ---- files

  pub same_sectors : (p : ℕ) → file_sectors v' p ≡ file_sectors v p
  unfolding file_sectors
  same_sectors p = same_tally _

  pub under_same : (i j n : ℕ) → Under v' i j n → Under v i j n
  under_same i j n u =
      let hi : i ≤ v.indexes = rw s.indexes at u.high in
      let e = s.table i u.low hi in
      record { low = u.low; high = hi; slot = rw e at u.slot; from = rw e at u.from; to = rw e at u.to }

  module _ (r6 : R6 v) where
    -- what lies under a pointer lies in a zone
    under_zone : (i j n : ℕ) → Under v i j n → v'.zone (zone_of n) ≡ v.zone (zone_of n)
    under_zone i j n u =
        let run = (r6 i (omega (arith, u.high)) u.low).used j u.slot (omega (arith, u.from, u.to)) in
        s.zone (zone_of n) (omega arith) (omega (arith, run.high, u.to))

    -- a parent has a first pointer
    parent_under : (p : ℕ) → Parent v p → Under v p 0 (start_of p (v.table p) 0)
    parent_under p h =
        let shape = r6 p (omega (arith, h.high)) h.low in
        let slots = slots_parent p (v.table p) (λ z. omega (arith, h.low, h.word)) h.word in
        let run = shape.used 0 (omega arith) (shape.one h.word) in
        record { low = h.low; high = h.high; slot = omega arith; from = omega arith; to = omega (arith, run.some) }

    pub same_type : (p : ℕ) → Parent v p → file_type v' p ≡ file_type v p
    unfolding file_type
    same_type p h =
        ap (λ (t : List ℕ). (v'.zone (zone_of (start_of p t 0))).ztype) (s.table p h.low h.high)
        ∙ ap (λ (e : ZoneEntry). e.ztype) (under_zone p 0 _ (parent_under p h))

    same_one : (p : ℕ) → Parent v p → InType v p (file_type v p) → InType v' p (file_type v' p)
    same_one p h o i j n f u =
        let w = under_same i j n u in
        rw (under_zone i j n w, same_type p h) (o i j n (rw (s.table i w.low w.high) at f) w)

    pub same_file : (p : ℕ) (t : List ℕ) → Parent v p → File v p t → File v' p t
    same_file p t h f = record {
      name = f.name;
      least = f.least;
      most = rw (same_sectors p) f.most;
      fixed = f.fixed;
      variable = λ e. same_one p h (f.variable e);
      weights = f.weights;
      both = f.both;
      created = f.created;
      changed = f.changed;
    }

    pub same_R8 : R8 v → R8 v'
    same_R8 r p l lo =
        let hi : p ≤ v.indexes = omega (arith, s.indexes) in
        rw (s.table p lo hi) (λ w. same_file p (v.table p) (record { low = lo; high = hi; word = w }) (r p (omega arith) lo w))

  -- ---- counts

  pub same_R9 : v'.active ≡ v.active → v'.deleted ≡ v.deleted → v'.free ≡ v.free → v'.system ≡ v.system → v'.directory ≡ v.directory → v'.flag ≤ 1 → R9 v → R9 v'
  same_R9 active deleted free system directory flag r = record {
    active = active ∙ r.active ∙ sym (same_tally active_one);
    deleted = deleted ∙ r.deleted ∙ sym (same_tally deleted_one);
    free = free ∙ r.free ∙ sym (same_tally free_one);
    system = system ∙ r.system ∙ sym (same_tally system_one);
    directory = directory ∙ r.directory ∙ sym (same_tally directory_one);
    flag = flag;
  }
