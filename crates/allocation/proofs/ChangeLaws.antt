-- One index table becomes, or stays, one of file f's, and links of f's other tables may change: what follows for the rules, whatever is
-- written.
use mathlib.Core.Path.{◌≡◌, refl, sym, ap, ap₂, ◌∙◌}
use mathlib.Core.Logic.{◌≢◌, ◌⊎◌, inl, inr, ⊎_elim}
use mathlib.Core.Bool.{cond}
use mathlib.Core.List.{List}
use Prim.Native.Nat.{ℕ, zero, suc, ◌+◌, ◌-◌, ◌*◌, ◌≤◌, ◌<◌}
use native.Mathlib.Decide.{ℕ_discrete}
use native.Mathlib.Omega.{arith}
use lib.Dec.{eqb}
use lib.ListN.{get_or}
use borrow.Author.Tests.{eq-eqb, ne_eqb}
use Rattle.field.specs.Kept.{Kept}
use Rattle.field.specs.Sum.{sum_to}
use Rattle.field.proofs.Sums.{sum_same, sum_at, sum_zero}
use Rattle.field.proofs.NumberLaws.{u16_kept}
use Rattle.tables.specs.declared.zone.ZoneEntry.{ZoneEntry}
use Rattle.tables.specs.Kinds.{zone_of}
use Rattle.tables.specs.Each.{Each}
use Rattle.tables.specs.Indexes.{word_of, parent_of, attribute_of, link_of, minus, slots_of, start_of, count_of, Used, sectors_of, file_of}
use Rattle.tables.specs.Same.{Ground}
use Rattle.tables.specs.Views.{View, Begins, Free, Parent, Child, walk, next, only_if, tally, cov, claims_of, over_of, claims_over, Under}
use Rattle.tables.specs.Rules.R4.{R4}
use Rattle.tables.specs.Rules.R5.{Full, FileChain, Stands, R5}
use Rattle.tables.specs.Rules.R6.{Run, HeaderRun, HeaderLaw, R6}
use Rattle.tables.specs.Rules.R8.{file_sectors, InType, File, FileLaw}
use Rattle.tables.specs.Rules.R9.{free_one, active_one, deleted_one, system_one, directory_one, R9}
use Rattle.tables.proofs.ChainLaws.{walk_same, walk_none}
use Rattle.tables.proofs.FrameLaws.{header_kept, header_over_kept}
use Rattle.tables.proofs.IndexLaws.{slots_parent, slots_in, file_free, file_parent, file_child}
use Rattle.tables.proofs.Sector1CountLaws.{Ones, only_eq, only_ne, ones_other, free_yes, free_no}
use Rattle.allocation.specs.declared.growth.Cursor.{Cursor}
use Rattle.allocation.specs.Steps.{SameCounts}
use Rattle.allocation.specs.Held.{ShapeBut, Held, Ends}
use Rattle.allocation.proofs.ChainedLaws.{FreeBut, tally_part, free_but, kept_R4, popped_R4}
use Rattle.allocation.proofs.FileSame.{file_same}
use Rattle.allocation.proofs.PointerBytes.{word_kept, parent_kept, slots_kept, file_kept, start_kept, count_kept}

-- table x was of file f or free, and is of file f; the file's other tables keep all but their links, and all others all
pub record Changed (v v' : View) (f x : ℕ) : Type 0 where
  pub ground : Ground v v'
  pub indexes : v'.indexes ≡ v.indexes
  pub few : v.indexes ≤ 4096
  pub file : 1 ≤ f
  pub low : 1 ≤ x
  pub high : x ≤ v.indexes
  pub kept : (j : ℕ) → 1 ≤ j → j ≤ v.indexes → j ≢ x → Kept (v.table j) (v'.table j) 124 4
  pub there : (j : ℕ) → 1 ≤ j → j ≤ v.indexes → j ≢ x → file_of j (v.table j) ≢ f → v'.table j ≡ v.table j
  pub was : (file_of x (v.table x) ≡ f) ⊎ (file_of x (v.table x) ≡ 0)
  pub now : file_of x (v'.table x) ≡ f
  pub word : (word_of (v'.table x) ≡ x) ⊎ (word_of (v'.table x) ≡ minus x)

-- file f is longer by the n sectors from a on: the rules hold but for d, its pointers end at c, and what they lie over is known
pub record Longer (v v' : View) (f a n : ℕ) (d : ℕ → ℕ) (c : Cursor) : Type 0 where
  pub held : Held v' f d
  pub ends : Ends v' f c
  pub sectors : file_sectors v' f ≡ file_sectors v f + n
  pub front : (o : ℕ) → o < 64 → get_or (v'.table f) o 0 ≡ get_or (v.table f) o 0
  pub types : (t : ℕ) → InType v f t → ((s : ℕ) → a ≤ s → s < a + n → (v.zone (zone_of s)).ztype ≡ t) → InType v' f t

-- ---- the file that a table is of, and the pointers of a parent

pub free_file : (v : View) (i : ℕ) → Free v i → file_of i (v.table i) ≡ 0
free_file v i h = file_free i (v.table i) h.word

pub parent_file : (v : View) (i : ℕ) → Parent v i → file_of i (v.table i) ≡ i
parent_file v i h = file_parent i (v.table i) (λ z. omega (arith, h.low, h.word)) h.word

pub child_file : (v : View) (i : ℕ) → v.indexes ≤ 4096 → Child v i → file_of i (v.table i) ≡ parent_of (v.table i)
child_file v i few h = file_child i (v.table i) (λ z. omega (arith, h.high, h.word)) (λ z. omega (arith, h.high, h.word))

pub parent_slots : (v : View) (i : ℕ) → Parent v i → slots_of i (v.table i) ≡ 10
parent_slots v i h = slots_parent i (v.table i) (λ z. omega (arith, h.low, h.word)) h.word

pub first_under : (v : View) (i : ℕ) → Parent v i → Run v (start_of i (v.table i) 0) (count_of i (v.table i) 0) → Under v i 0 (start_of i (v.table i) 0)
first_under v i h run = record { low = h.low; high = h.high; slot = omega (arith, parent_slots v i h); from = omega arith; to = omega (arith, run.some) }

-- R6: a parent has a first pointer
pub parent_under : (v : View) → R6 v → (p : ℕ) → Parent v p → Under v p 0 (start_of p (v.table p) 0)
parent_under v r6 p par =
    let shape = r6 p (omega (arith, par.high)) par.low in
    first_under v p par (shape.used 0 (omega (arith, parent_slots v p par)) (shape.one par.word))

-- R6 as a growing file f keeps it: what lies under a pointer is a run, and another file's parent has a first one
module _ (v : View) (f : ℕ) (r6 : Each (λ i. ShapeBut v f i (v.table i)) 1 (v.indexes + 1)) where
  pub under_run : (i j s : ℕ) → Under v i j s → Run v (start_of i (v.table i) j) (count_of i (v.table i) j)
  under_run i j s u = (r6 i (omega (arith, u.high)) u.low).used j u.slot (omega (arith, u.from, u.to))

  pub other_under : (p : ℕ) → Parent v p → p ≢ f → Under v p 0 (start_of p (v.table p) 0)
  other_under p par ne =
      let shape = r6 p (omega (arith, par.high)) par.low in
      first_under v p par (shape.used 0 (omega (arith, parent_slots v p par)) (shape.one par.word ne))

module _ (v : View) (few : v.indexes ≤ 4096) (p n : ℕ) (par : Parent v p) (ch : FileChain v p n) where
  pub member_begins : (k : ℕ) → k < suc n → (w : ℕ) × Begins v (walk (next v) p k) w × (w ≢ 0)
  member_begins zero l = (p, rw (walk_none (next v) p) par, λ z. omega (arith, par.low))
  member_begins (suc k) l = let h = ch.each k (omega arith) in (_, h, λ z. omega (arith, h.high))

  pub member_file : (k : ℕ) → k < suc n → file_of (walk (next v) p k) (v.table (walk (next v) p k)) ≡ p
  member_file zero l = rw (walk_none (next v) p) (parent_file v p par)
  member_file (suc k) l = child_file v _ few (ch.each k (omega arith)) ∙ ch.names k (omega arith)

  pub member_word : (k : ℕ) → k < suc n → (word_of (v.table (walk (next v) p k)) ≡ walk (next v) p k) ⊎ (word_of (v.table (walk (next v) p k)) ≡ minus (walk (next v) p k))
  member_word zero l = inl (rw (walk_none (next v) p) par.word)
  member_word (suc k) l = inr (ch.each k (omega arith)).word

-- what is used is not free
pub used_not : (v : View) (i j w : ℕ) → Free v j → Begins v i w → w ≢ 0 → i ≢ j
used_not v i j w free h nz e = nz (sym h.word ∙ ap (λ (n : ℕ). word_of (v.table n)) e ∙ free.word)

-- a sum of which only the first part is more than 0
pub sum_first : (n : ℕ) (f : ℕ → ℕ) → 0 < n → ((k : ℕ) → k < n → 0 < k → f k ≡ 0) → sum_to n f ≡ f 0
sum_first n f l h = omega (arith, sum_at n 0 f (λ k. 0) l (λ k lk ne. h k lk (omega arith)), sum_zero n (λ k. 0) (λ k l. refl))

-- ---- runs and chains

pub ground_zone : (v v' : View) → Ground v v' → (s : ℕ) → s < 1024 * (v.zones - 1) → v'.zone (zone_of s) ≡ v.zone (zone_of s)
ground_zone v v' g s l = g.zone (zone_of s) (omega arith) (omega arith)

-- where zone entries stay, runs do
pub run_zones : (v v' : View) → v'.zones ≡ v.zones → ((z : ℕ) → 1 ≤ z → z ≤ v.zones → v'.zone z ≡ v.zone z) → (a c : ℕ) → Run v a c → Run v' a c
run_zones v v' zones zone a c r = record {
  some = r.some;
  few = r.few;
  low = r.low;
  high = rw zones r.high;
  typed = λ s h l. rw (zone (zone_of s) (omega arith) (omega (arith, r.high))) (r.typed s h l);
  whole = λ z l lo. (let l' : z < v.zones = rw zones at l in rw (zone z (omega arith) (omega arith)) (r.whole z l' lo));
}

pub ground_run : (v v' : View) → Ground v v' → (a c : ℕ) → Run v a c → Run v' a c
ground_run v v' g = run_zones v v' g.zones g.zone

-- and so do headers' runs
pub header_zones : (v v' : View) → v'.zones ≡ v.zones → ((z : ℕ) → 1 ≤ z → z ≤ v.zones → v'.zone z ≡ v.zone z) → (a c : ℕ) → HeaderRun v a c → HeaderRun v' a c
header_zones v v' zones zone a c r = record {
  some = r.some;
  few = r.few;
  low = r.low;
  high = rw zones r.high;
  one = r.one;
  typed = rw (zone (zone_of a) (omega arith) (omega (arith, r.high, r.some))) r.typed;
}

pub ground_header : (v v' : View) → Ground v v' → (t : List ℕ) → HeaderLaw v t → HeaderLaw v' t
ground_header v v' g t h = record { run = λ u. header_zones v v' g.zones g.zone _ _ (h.run u) }

-- index j keeps what the chains see of it
pub record Stays (v v' : View) (j : ℕ) : Type 0 where
  pub link : next v' j ≡ next v j
  pub word : word_of (v'.table j) ≡ word_of (v.table j)
  pub parent : parent_of (v'.table j) ≡ parent_of (v.table j)
  pub full : Full v j → Full v' j

pub stays_same : (v v' : View) (j : ℕ) → v'.table j ≡ v.table j → Stays v v' j
stays_same v v' j e = record { link = ap link_of e; word = ap word_of e; parent = ap parent_of e; full = λ h. rw e h }

module _ (v v' : View) (same : v'.indexes ≡ v.indexes) (p n : ℕ) (ch : FileChain v p n) (stays : (k : ℕ) → k < suc n → Stays v v' (walk (next v) p k)) where
  pub walk_stays : (k : ℕ) → k ≤ suc n → walk (next v') p k ≡ walk (next v) p k
  walk_stays = walk_same (next v) (next v') p (suc n) (λ k l. (stays k l).link)

  pub chain_stays : FileChain v' p n
  chain_stays = record {
    ends = walk_stays (suc n) (omega arith) ∙ ch.ends;
    each = λ k l. rw (walk_stays (suc k) (omega arith)) (let h = ch.each k l in record { low = h.low; high = rw same h.high; word = (stays (suc k) (omega arith)).word ∙ h.word });
    names = λ k l. rw (walk_stays (suc k) (omega arith)) ((stays (suc k) (omega arith)).parent ∙ ch.names k l);
    full = λ k l. rw (walk_stays k (omega arith)) ((stays k (omega arith)).full (ch.full k l));
  }

-- a table adds the same to the counts if it begins with the same and, where it is a parent, has the same attribute
ones_same : (j : ℕ) (t t' : List ℕ) → word_of t' ≡ word_of t → (word_of t ≡ j → attribute_of t' ≡ attribute_of t)
    → Ones j t' (active_one j t) (deleted_one j t) (free_one j t) (system_one j t) (directory_one j t)
unfolding active_one deleted_one free_one system_one directory_one
ones_same j t t' word attribute =
    elim (ℕ_discrete (word_of t) j) [
      | yes q ↦ (let e = attribute q in record { active = rw (word, e); deleted = rw (word, e); free = rw word; system = rw (word, e); directory = rw (word, e) })
      | no ne ↦ (let o = ones_other j t ne in let n = ones_other j t' (λ q. ne (sym word ∙ q)) in record {
        active = n.active ∙ sym o.active;
        deleted = n.deleted ∙ sym o.deleted;
        free = rw word;
        system = n.system ∙ sym o.system;
        directory = n.directory ∙ sym o.directory;
      })
    ]

module _ (v v' : View) (f x : ℕ) (h : Changed v v' f x) where
  -- ---- tables but x

  module _ (j : ℕ) (lo : 1 ≤ j) (hi : j ≤ v.indexes) (ne : j ≢ x) where
    pub word_there : word_of (v'.table j) ≡ word_of (v.table j)
    word_there = word_kept j (h.kept j lo hi ne) (omega arith)

    pub parent_there : parent_of (v'.table j) ≡ parent_of (v.table j)
    parent_there = parent_kept j (h.kept j lo hi ne) (omega arith)

    pub file_there : file_of j (v'.table j) ≡ file_of j (v.table j)
    file_there = file_kept j (h.kept j lo hi ne) (omega arith)

    pub slots_there : slots_of j (v'.table j) ≡ slots_of j (v.table j)
    slots_there = slots_kept j (h.kept j lo hi ne) (omega arith)

    pub start_there : (k : ℕ) → k < slots_of j (v.table j) → start_of j (v'.table j) k ≡ start_of j (v.table j) k
    start_there k l = start_kept j (h.kept j lo hi ne) (omega arith) k (inl (omega (arith, slots_in j (v.table j))))

    pub count_there : (k : ℕ) → k < slots_of j (v.table j) → count_of j (v'.table j) k ≡ count_of j (v.table j) k
    count_there k l = count_kept j (h.kept j lo hi ne) (omega arith) k (inl (omega (arith, slots_in j (v.table j))))

    pub over_there : (s : ℕ) → claims_of j (v'.table j) s ≡ claims_of j (v.table j) s
    unfolding claims_of over_of
    over_there s =
        let pointers = sum_same (slots_of j (v.table j)) (λ k. cov (start_of j (v'.table j) k) (count_of j (v'.table j) k) s) (λ k. cov (start_of j (v.table j) k) (count_of j (v.table j) k) s)
        (λ k l. ap₂ (λ (a c : ℕ). cov a c s) (start_there k l) (count_there k l)) in
        rw (slots_there, pointers, header_over_kept j s (h.kept j lo hi ne) (inl (omega arith)) word_there)

    pub sectors_there : sectors_of j (v'.table j) ≡ sectors_of j (v.table j)
    unfolding sectors_of
    sectors_there = rw slots_there (sum_same (slots_of j (v.table j)) _ _ count_there)

    pub full_there : Full v j → Full v' j
    full_there full k l = let l' : k < slots_of j (v.table j) = rw slots_there at l in rw (start_there k l', count_there k l') (full k l')

    pub begins_there : (w : ℕ) → Begins v j w → Begins v' j w
    begins_there w b = record { low = lo; high = rw h.indexes hi; word = word_there ∙ b.word }

    pub begins_was : (w : ℕ) → Begins v' j w → Begins v j w
    begins_was w b = record { low = lo; high = hi; word = sym word_there ∙ b.word }

    pub shape_but_there : ShapeBut v f j (v.table j) → ShapeBut v' f j (v'.table j)
    shape_but_there s = record {
      first = λ k l u. (let l' : suc k < slots_of j (v.table j) = rw slots_there at l in
          rw (start_there k (omega arith), count_there k (omega arith)) (s.first k l' (rw (start_there (suc k) l', count_there (suc k) l') at u)));
      used = λ k l u. (let l' : k < slots_of j (v.table j) = rw slots_there at l in
          rw (start_there k l', count_there k l') (ground_run v v' h.ground _ _ (s.used k l' (rw (start_there k l', count_there k l') at u))));
      one = λ e nf. one (sym word_there ∙ e) (s.one (sym word_there ∙ e) nf);
      header = λ e. header_kept (h.kept j lo hi ne) (inl (omega arith)) (ground_header v v' h.ground (v.table j) (s.header (sym word_there ∙ e)));
    }
      where
        one : word_of (v.table j) ≡ j → Used j (v.table j) 0 → Used j (v'.table j) 0
        one e u =
            let l : 0 < slots_of j (v.table j) = omega (arith, parent_slots v j (record { low = lo; high = hi; word = e })) in
            rw (start_there 0 l, count_there 0 l) u

  -- ---- other files

  parent_other : (p : ℕ) → Parent v p → p ≢ f → p ≢ x
  parent_other p q ne e =
      let a : file_of x (v.table x) ≡ p = ap (λ (i : ℕ). file_of i (v.table i)) (sym e) ∙ parent_file v p q in
      ⊎_elim (λ w. ne (sym a ∙ w)) (λ w. omega (arith, q.low)) h.was

  other_table : (j p : ℕ) → 1 ≤ j → j ≤ v.indexes → 1 ≤ p → p ≢ f → file_of j (v.table j) ≡ p → v'.table j ≡ v.table j
  other_table j p lo hi lp ne e = h.there j lo hi not_x (λ w. ne (sym e ∙ w))
    where
      not_x : j ≢ x
      not_x q =
          let a : file_of x (v.table x) ≡ p = ap (λ (i : ℕ). file_of i (v.table i)) (sym q) ∙ e in
          ⊎_elim (λ w. ne (sym a ∙ w)) (λ w. omega arith) h.was

  other_was : (j p : ℕ) → 1 ≤ j → j ≤ v.indexes → p ≢ f → file_of j (v'.table j) ≡ p → file_of j (v.table j) ≡ p
  other_was j p lo hi ne e = sym (file_there j lo hi (λ q. ne (sym e ∙ ap (λ (i : ℕ). file_of i (v'.table i)) q ∙ h.now))) ∙ e

  -- ---- R4

  free_but_x : R4 v → FreeBut v v' x
  free_but_x =
      free_but v v' x h.indexes (λ z. ⊎_elim (λ w. omega (arith, h.low)) (λ w. omega (arith, h.few, h.high)) h.word) (inr h.word) word_there
      (λ j ne b. h.there j b.low b.high ne (λ e. omega (arith, free_file v j b, h.file)))

  pub stay_R4 : v'.head ≡ v.head → word_of (v.table x) ≢ 0 → R4 v → R4 v'
  stay_R4 head nz r = kept_R4 v v' x (free_but_x r) (λ b. nz b.word) head r

  pub pop_R4 : v.head ≡ x → v'.head ≡ link_of (v.table x) → R4 v → R4 v'
  pop_R4 head moved r = popped_R4 v v' x (free_but_x r) h.low head moved r

  -- ---- R5: f's own chain is given

  module _ (p n : ℕ) (ne : p ≢ f) (par : Parent v p) (ch : FileChain v p n) where
    other_stays : (k : ℕ) → k < suc n → Stays v v' (walk (next v) p k)
    other_stays k l =
        let b = (member_begins v h.few p n par ch k l).1 in
        stays_same v v' _ (other_table _ p b.low b.high par.low ne (member_file v h.few p n par ch k l))

    other_walk : (k : ℕ) → k ≤ suc n → walk (next v') p k ≡ walk (next v) p k
    other_walk = walk_stays v v' h.indexes p n ch other_stays

    other_chain : FileChain v' p n
    other_chain = chain_stays v v' h.indexes p n ch other_stays

  pub changed_R5 : (r : R5 v) (m : ℕ) → FileChain v' f m → ((c : ℕ) → Child v' c → parent_of (v'.table c) ≡ f → Stands v' f m c)
      → (Child v' x → (j : ℕ) × (j < slots_of x (v'.table x)) × Used x (v'.table x) j) → R5 v'
  changed_R5 r m chain stands one = record {
    long = λ p. cond (eqb p f) m (r.long p);
    chain = λ p q. elim (ℕ_discrete p f) [
      | yes e ↦ rw (eq-eqb p f e, e) chain
      | no ne ↦ (let o = parent_was p ne q in rw (ne_eqb p f ne) (other_chain p (r.long p) ne o (r.chain p o)))
    ];
    stands = λ c q. elim (ℕ_discrete (parent_of (v'.table c)) f) [
      | yes e ↦ rw (e, eq-eqb f f refl) (stands c q e)
      | no ne ↦ rw (ne_eqb (parent_of (v'.table c)) f ne) (other_stands_at c ne q)
    ];
    one = λ c q. elim (ℕ_discrete c x) [ yes e ↦ rw e (one (rw e at q)) | no ne ↦ some c ne q ];
  }
    where
      few' : v'.indexes ≤ 4096
      few' = rw h.indexes h.few

      parent_was : (p : ℕ) → p ≢ f → Parent v' p → Parent v p
      parent_was p ne q =
          begins_was p q.low (rw h.indexes at q.high) (λ e. ne (sym (parent_file v' p q) ∙ ap (λ (i : ℕ). file_of i (v'.table i)) e ∙ h.now)) p q

      other_stands_at : (c : ℕ) → parent_of (v'.table c) ≢ f → Child v' c → Stands v' (parent_of (v'.table c)) (r.long (parent_of (v'.table c))) c
      other_stands_at c ne q =
          let hi : c ≤ v.indexes = rw h.indexes at q.high in
          let nx : c ≢ x = λ e. ne (sym (child_file v' c few' q) ∙ ap (λ (i : ℕ). file_of i (v'.table i)) e ∙ h.now) in
          let w = begins_was c q.low hi nx (minus c) q in
          let o = r.stands c w in
          let p = parent_of (v.table c) in
          let np : p ≢ f = λ e. ne (parent_there c q.low hi nx ∙ e) in
          rw (parent_there c q.low hi nx) (record {
            parent = begins_there p o.parent.low o.parent.high (parent_other p o.parent np) p o.parent;
            place = o.place;
            below = o.below;
            here = other_walk p (r.long p) np o.parent (r.chain p o.parent) (suc o.place) (omega (arith, o.below)) ∙ o.here;
          })

      some : (c : ℕ) → c ≢ x → Child v' c → (j : ℕ) × (j < slots_of c (v'.table c)) × Used c (v'.table c) j
      some c nx q =
          let hi : c ≤ v.indexes = rw h.indexes at q.high in
          let o = r.one c (begins_was c q.low hi nx (minus c) q) in
          (o.0, rw (slots_there c q.low hi nx) o.1, rw (start_there c q.low hi nx o.0 o.1, count_there c q.low hi nx o.0 o.1) o.2)

  -- ---- R6, R8 and what lies in zones of one type

  pub changed_R6 : ShapeBut v' f x (v'.table x) → Each (λ i. ShapeBut v f i (v.table i)) 1 (v.indexes + 1) → Each (λ i. ShapeBut v' f i (v'.table i)) 1 (v'.indexes + 1)
  changed_R6 new r j l lo =
      let hi : j ≤ v.indexes = omega (arith, h.indexes) in
      elim (ℕ_discrete j x) [ yes e ↦ rw e new | no ne ↦ shape_but_there j lo hi ne (r j (omega arith) lo) ]

  -- sums over the tables change by x's part
  tally_at : (g : ℕ → List ℕ → ℕ) → ((j : ℕ) → 1 ≤ j → j ≤ v.indexes → j ≢ x → g j (v'.table j) ≡ g j (v.table j))
      → tally v' g + g x (v.table x) ≡ tally v g + g x (v'.table x)
  tally_at = tally_part v v' x h.indexes h.low h.high

  pub pointers_at : (s : ℕ) → claims_over v' s + claims_of x (v.table x) s ≡ claims_over v s + claims_of x (v'.table x) s
  unfolding claims_over
  pointers_at s = tally_at (λ i t. claims_of i t s) (λ j lo hi ne. over_there j lo hi ne s)

  pub sectors_at : file_sectors v' f + only_if (eqb (file_of x (v.table x)) f) (sectors_of x (v.table x)) ≡ file_sectors v f + sectors_of x (v'.table x)
  unfolding file_sectors
  sectors_at =
      tally_at (λ i t. only_if (eqb (file_of i t) f) (sectors_of i t))
      (λ j lo hi ne. ap₂ (λ (a c : ℕ). only_if (eqb a f) c) (file_there j lo hi ne) (sectors_there j lo hi ne))
      ∙ ap (λ (n : ℕ). tally v (λ i t. only_if (eqb (file_of i t) f) (sectors_of i t)) + n) (only_eq (file_of x (v'.table x)) f (sectors_of x (v'.table x)) h.now)

  module _ (r6 : Each (λ i. ShapeBut v f i (v.table i)) 1 (v.indexes + 1)) where
    pub under_zone : (i j s : ℕ) → Under v i j s → v'.zone (zone_of s) ≡ v.zone (zone_of s)
    under_zone i j s u = ground_zone v v' h.ground s (omega (arith, (under_run v f r6 i j s u).high, u.to))

    pub under_was : (i j s : ℕ) → i ≢ x → Under v' i j s → Under v i j s
    under_was i j s ne u =
        let hi : i ≤ v.indexes = rw h.indexes at u.high in
        let l : j < slots_of i (v.table i) = rw (slots_there i u.low hi ne) at u.slot in
        record { low = u.low; high = hi; slot = l; from = rw (start_there i u.low hi ne j l) at u.from; to = rw (start_there i u.low hi ne j l, count_there i u.low hi ne j l) at u.to }

    pub changed_types : (t : ℕ) → InType v f t → ((j s : ℕ) → Under v' x j s → (v'.zone (zone_of s)).ztype ≡ t) → InType v' f t
    changed_types t all new i j s e u = elim (ℕ_discrete i x) [
      | yes q ↦ new j s (rw q at u)
      | no ne ↦ (let w = under_was i j s ne u in rw (under_zone i j s w) (all i j s (sym (file_there i w.low w.high ne) ∙ e) w))
    ]

    module _ (p : ℕ) (lp : 1 ≤ p) (ne : p ≢ f) where
      file_part : (j : ℕ) → 1 ≤ j → j ≤ v.indexes
          → only_if (eqb (file_of j (v'.table j)) p) (sectors_of j (v'.table j)) ≡ only_if (eqb (file_of j (v.table j)) p) (sectors_of j (v.table j))
      file_part j lo hi = elim (ℕ_discrete (file_of j (v.table j)) p) [
        | yes e ↦ ap (λ (t : List ℕ). only_if (eqb (file_of j t) p) (sectors_of j t)) (other_table j p lo hi lp ne e)
        | no nq ↦ only_ne (file_of j (v'.table j)) p _ (λ e. nq (other_was j p lo hi ne e)) ∙ sym (only_ne (file_of j (v.table j)) p _ nq)
      ]

      file_sectors_lem : file_sectors v' p ≡ file_sectors v p
      unfolding file_sectors tally
      file_sectors_lem = rw h.indexes (sum_same v.indexes _ _ (λ k l. file_part (k + 1) (omega arith) (omega arith)))

      module _ (par : Parent v p) where
        same : v'.table p ≡ v.table p
        same = other_table p p par.low par.high lp ne (parent_file v p par)

        other_file : File v p (v.table p) → File v' p (v'.table p)
        other_file = file_same v v' (λ i j s u. ap (λ (e : ZoneEntry). e.ztype) (under_zone i j s u)) p (other_under v f r6 p par ne) same under file_sectors_lem
          where
            under : (i j s : ℕ) → file_of i (v'.table i) ≡ p → Under v' i j s → (file_of i (v.table i) ≡ p) × Under v i j s
            under i j s e u = (
              other_was i p u.low (rw h.indexes at u.high) ne e,
              under_was i j s (λ q. ne (sym e ∙ ap (λ (n : ℕ). file_of n (v'.table n)) q ∙ h.now)) u,
            )

    pub changed_R8 : ((p : ℕ) → p < v.indexes + 1 → 1 ≤ p → p ≢ f → FileLaw v p) → (p : ℕ) → p < v'.indexes + 1 → 1 ≤ p → p ≢ f → FileLaw v' p
    changed_R8 r p l lo ne w =
        let hi : p ≤ v.indexes = omega (arith, h.indexes) in
        let q : Parent v' p = record { low = lo; high = rw h.indexes hi; word = w } in
        let e = other_table p p lo hi lo ne (other_was p p lo hi ne (parent_file v' p q)) in
        let par : Parent v p = record { low = lo; high = hi; word = sym (ap word_of e) ∙ w } in
        other_file p lo ne par (r p (omega arith) lo ne par.word)

  -- ---- R9

  counts_there : (j : ℕ) → 1 ≤ j → j ≤ v.indexes → j ≢ x
      → Ones j (v'.table j) (active_one j (v.table j)) (deleted_one j (v.table j)) (free_one j (v.table j)) (system_one j (v.table j)) (directory_one j (v.table j))
  counts_there j lo hi ne = ones_same j (v.table j) (v'.table j) (word_there j lo hi ne) (λ e. u16_kept 44 (h.kept j lo hi ne) (inl (omega arith)))

  -- a free table that comes off the free chain
  pub free_less : Free v x → v'.free ≡ v.free - 1 → R9 v → v'.free + free_one x (v.table x) ≡ v.free + free_one x (v'.table x)
  free_less b e r =
      let old = free_yes x (v.table x) b.word in
      let new = free_no x (v'.table x) (λ z. ⊎_elim (λ w. omega (arith, h.low)) (λ w. omega (arith, h.few, h.high)) h.word) in
      omega (arith, r.free, tally_at free_one (λ j lo hi ne. (counts_there j lo hi ne).free))

  -- the counts change by x's part
  pub changed_R9 : (a b c d e a' b' c' d' e' : ℕ) → Ones x (v.table x) a b c d e → Ones x (v'.table x) a' b' c' d' e'
      → v'.active + a ≡ v.active + a' → v'.deleted + b ≡ v.deleted + b' → v'.free + c ≡ v.free + c' → v'.system + d ≡ v.system + d' → v'.directory + e ≡ v.directory + e'
      → v'.flag ≡ v.flag → R9 v → R9 v'
  changed_R9 a b c d e a' b' c' d' e' old new active deleted free system directory flag r = record {
    active = omega (arith, r.active, tally_at active_one (λ j lo hi ne. (counts_there j lo hi ne).active));
    deleted = omega (arith, r.deleted, tally_at deleted_one (λ j lo hi ne. (counts_there j lo hi ne).deleted));
    free = omega (arith, r.free, tally_at free_one (λ j lo hi ne. (counts_there j lo hi ne).free));
    system = omega (arith, r.system, tally_at system_one (λ j lo hi ne. (counts_there j lo hi ne).system));
    directory = omega (arith, r.directory, tally_at directory_one (λ j lo hi ne. (counts_there j lo hi ne).directory));
    flag = rw flag r.flag;
  }

  -- x is counted as before
  pub stay_R9 : word_of (v'.table x) ≡ word_of (v.table x) → (word_of (v.table x) ≡ x → attribute_of (v'.table x) ≡ attribute_of (v.table x)) → SameCounts v v' → v'.free ≡ v.free
      → R9 v → R9 v'
  stay_R9 word attribute counts free =
      let t = v.table x in
      changed_R9 (active_one x t) (deleted_one x t) (free_one x t) (system_one x t) (directory_one x t) (active_one x t) (deleted_one x t) (free_one x t) (system_one x t) (directory_one x t)
      (record { active = refl; deleted = refl; free = refl; system = refl; directory = refl }) (ones_same x t (v'.table x) word attribute)
      (omega (arith, counts.active)) (omega (arith, counts.deleted)) (omega arith) (omega (arith, counts.system)) (omega (arith, counts.directory)) counts.flag
