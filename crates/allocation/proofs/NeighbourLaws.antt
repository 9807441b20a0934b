-- The block behind a file's last pointer: what the test of it says, that it starts at the pointer's end and may be chosen, that it joins the
-- pointer, and that zone entries and sectors alone tell it. A new file has none.
use mathlib.Core.Path.{◌≡◌, refl, sym, ap, ◌∙◌}
use mathlib.Core.Logic.{⊎_elim, ◌≢◌}
use mathlib.Core.Bool.{Bool, true, false, not, true≢false, and-eq-true_iff}
use mathlib.Core.List.{List}
use Prim.Native.Nat.{ℕ, ◌+◌, ◌-◌, ◌*◌, ◌/◌, ◌%◌, ◌≤◌, ◌<◌}
use native.Mathlib.Decide.{dec_lt, dec_le}
use native.Mathlib.Omega.{arith}
use borrow.Author.Tests.{leb-true, ltb-true, eqb-true, not-true, not-false, le-leb, lt-leb, lt-ltb, le-ltb, eq-eqb, ne_eqb}
use Rattle.field.proofs.Sums.{sum_part}
use Rattle.tables.specs.declared.kinds.Zone.{Zone}
use Rattle.tables.specs.declared.places.Places.{Places}
use Rattle.tables.specs.declared.zone.ZoneEntry.{ZoneEntry}
use Rattle.tables.specs.Blocks.{DataType, block_of, per_zone}
use Rattle.tables.specs.Kinds.{zone_of, first_of}
use Rattle.tables.specs.Open.{is_open}
use Rattle.tables.specs.Room.{spare_in}
use Rattle.tables.specs.Same.{Ground}
use Rattle.tables.specs.Views.{View, view_of}
use Rattle.tables.specs.Withheld.{StartsBlock}
use Rattle.tables.specs.Sectors.{sector_at}
use Rattle.tables.specs.Zones.{zone_at}
use Rattle.tables.specs.Rules.R3.{R3}
use Rattle.tables.proofs.BlockLaws.{data_zone}
use Rattle.tables.proofs.LackLaws.{in_begun}
use Rattle.tables.proofs.WithheldLaws.{start_at, start_few}
use Rattle.allocation.specs.declared.tail.Tail.{Tail}
use Rattle.allocation.specs.declared.tail.Pushed.TheVariants.{Joined}
use Rattle.allocation.specs.Choice.{begun, of_type, has_neighbour, neighbour, block_start}
use Rattle.allocation.specs.NextPointer.{end_sector, longer, push, no_pointer}
use Rattle.allocation.proofs.FindLaws.{either}
use Rattle.allocation.proofs.NextBlockLaws.{begun_yes}
use Rattle.allocation.proofs.NextLaws.{OfBegun}
use Rattle.allocation.proofs.TailLaws.{joins_next, push_joined}

-- ---- what the test says

-- "e starts a block of a zone that has the wanted type and isn't open, and that block is free"
pub record Neighbour (v : View) (l : Tail) (t : ℕ) : Type 0 where
  pub low : 1024 ≤ end_sector l
  pub high : end_sector l < 1024 * (v.zones - 1)
  pub ztype : (v.zone (zone_of (end_sector l))).ztype ≡ t
  pub shut : is_open (v.zone (zone_of (end_sector l))) ≡ false
  pub start : end_sector l % 1024 % block_of t ≡ 0
  pub clear : v.bit (end_sector l) ≡ 0

module _ (v : View) (l : Tail) (t : ℕ) where
  pub neighbour_says : has_neighbour v l t ≡ true → Neighbour v l t
  unfolding has_neighbour of_type
  neighbour_says h =
      let a = (and-eq-true_iff _ _).0 h in
      let b = (and-eq-true_iff _ _).0 a.1 in
      let c = (and-eq-true_iff _ _).0 b.1 in
      let d = (and-eq-true_iff _ _).0 c.0 in
      let e = (and-eq-true_iff _ _).0 c.1 in
      record {
        low = leb-true _ _ a.0;
        high = ltb-true _ _ b.0;
        ztype = eqb-true _ _ d.0;
        shut = not-true _ d.1;
        start = eqb-true _ _ e.0;
        clear = eqb-true _ _ e.1;
      }

  pub says_neighbour : Neighbour v l t → has_neighbour v l t ≡ true
  unfolding has_neighbour of_type
  says_neighbour n =
      rw (le-leb 1024 (end_sector l) n.low, lt-ltb (end_sector l) (1024 * (v.zones - 1)) n.high, eq-eqb _ _ n.ztype, n.shut, n.start, n.clear) refl

  pub no_neighbour : (Neighbour v l t → ⊥) → has_neighbour v l t ≡ false
  no_neighbour h = ⊎_elim (λ q. absurd (h (neighbour_says q))) (λ q. q) (either (has_neighbour v l t))

-- "a new file's first block is chosen as before"
pub first_as_before : (v : View) (t : ℕ) → has_neighbour v no_pointer t ≡ false
first_as_before v t = no_neighbour v no_pointer t (λ n. omega (arith, n.low))

-- ---- the block

module _ (v : View) (l : Tail) (t : ℕ) (typed : DataType t) (n : Neighbour v l t) where
  starts : StartsBlock v (end_sector l)
  starts = record { inside = omega (arith, n.high); typed = rw n.ztype typed; start = rw n.ztype n.start }

  pub neighbour_few : end_sector l % 1024 / block_of t < per_zone t
  neighbour_few = rw n.ztype at (start_few v (end_sector l) starts)

  pub neighbour_at : first_of (zone_of (end_sector l)) + end_sector l % 1024 / block_of t * block_of t ≡ end_sector l
  neighbour_at = omega (arith, rw n.ztype at (start_at v (end_sector l) starts))

  -- it starts where the last pointer ends
  pub neighbour_start : block_start t (neighbour v l t) ≡ end_sector l
  unfolding block_start neighbour
  neighbour_start = neighbour_at

  -- "A block so taken joins the last pointer unless its count would pass 32,767"
  pub neighbour_joins : l.last.count + block_of t ≤ 32767 → push l (block_start t (neighbour v l t)) (block_of t) ≡ Joined (longer l (block_of t))
  neighbour_joins few =
      rw neighbour_start
      (sym (push_joined l (end_sector l) (block_of t) _ (joins_next l (end_sector l) (block_of t) (end_sector l) refl refl) (le-leb (l.last.count + block_of t) 32767 few)))

  module _ (r3 : R3 v) where
    -- by R3 its zone's free count counts it
    pub neighbour_some : 0 < (v.zone (zone_of (end_sector l))).free
    neighbour_some =
        let z = zone_of (end_sector l) in
        let blocks = rw n.ztype at (r3 z (omega (arith, n.high)) (omega (arith, n.low)) (rw n.ztype (data_zone typed))) in
        let one = sum_part (per_zone t) (end_sector l % 1024 / block_of t) (λ k. 1 - v.bit (first_of z + k * block_of t)) neighbour_few in
        omega (arith, blocks.number, rw (neighbour_at, n.clear) at one)

    pub neighbour_begun : begun v t (zone_of (end_sector l)) ≡ true
    neighbour_begun =
        let e = v.zone (zone_of (end_sector l)) in
        begun_yes v t (zone_of (end_sector l)) (spare_in t e) e refl refl (omega (arith, in_begun t e (is_open e) refl n.shut n.ztype, neighbour_some))

    pub neighbour_fits : OfBegun v t (neighbour v l t)
    unfolding neighbour
    neighbour_fits = record {
      low = omega (arith, n.low);
      high = omega (arith, n.high);
      closed = n.shut;
      ztype = n.ztype;
      free = omega (arith, neighbour_some);
      within = neighbour_few;
      first = rw neighbour_start n.clear;
    }

-- ---- zone entries and sectors tell it

module _ (v v' : View) (g : Ground v v') (l : Tail) (t : ℕ) where
  pub neighbour_ground : has_neighbour v' l t ≡ has_neighbour v l t
  unfolding has_neighbour
  neighbour_ground = elim (dec_le 1024 (end_sector l)) [
    | yes lo ↦ elim (dec_lt (end_sector l) (1024 * (v.zones - 1))) [
      | yes hi ↦ rw (g.zones, g.zone (zone_of (end_sector l)) (omega arith) (omega arith), g.bit (end_sector l) (omega arith)) refl
      | no hi ↦ rw (g.zones, le-ltb (end_sector l) (1024 * (v.zones - 1)) (omega arith)) refl
    ]
    | no lo ↦ rw (lt-leb 1024 (end_sector l) (omega arith)) refl
  ]

  pub same_neighbour : Neighbour v l t → neighbour v' l t ≡ neighbour v l t
  unfolding neighbour
  same_neighbour n =
      ap (λ (e : ZoneEntry). record { zone = record { 0 = zone_of (end_sector l) }; number = end_sector l % 1024 / block_of t; free = e.free - 1 })
      (g.zone (zone_of (end_sector l)) (omega arith) (omega (arith, n.high)))

-- ---- the function that looks for it

module _ (t : ℕ) (e : ZoneEntry) where
  pub of_other : (e.ztype ≡ t → ⊥) → false ≡ of_type t e
  unfolding of_type
  of_other h = rw (ne_eqb e.ztype t h) refl

  pub of_this : (r : Bool) → e.ztype ≡ t → r ≡ is_open e → not r ≡ of_type t e
  unfolding of_type
  of_this r h o = rw (eq-eqb e.ztype t h, ← o) refl

module _ (p : Places) (b : List ℕ) (l : Tail) (t end : ℕ) (is : end ≡ end_sector l) where
  abbrev v : View
  v = view_of p b

  pub before_files : end < 1024 → has_neighbour v l t ≡ false
  before_files h = no_neighbour v l t (λ n. omega (arith, n.low))

  pub past_files : 1024 * (p.zones - 1) ≤ end → has_neighbour v l t ≡ false
  past_files h = no_neighbour v l t (λ n. omega (arith, n.high))

  module _ (bit : ℕ) (bits : bit ≡ sector_at p b end) where
    pub not_free : bit ≢ 0 → has_neighbour v l t ≡ false
    not_free h = no_neighbour v l t (λ n. h (bits ∙ rw is n.clear))

  module _ (z : Zone) (e : ZoneEntry) (at : z.0 ≡ zone_of end) (q : e ≡ zone_at p b z.0) where
    entry_is : e ≡ zone_at p b (zone_of (end_sector l))
    entry_is = q ∙ ap (zone_at p b) (at ∙ ap zone_of is)

    pub other_zone : (r : Bool) → r ≡ of_type t e → not r ≡ true → has_neighbour v l t ≡ false
    unfolding of_type
    other_zone r o h = no_neighbour v l t (λ n. true≢false (sym (rw (entry_is, eq-eqb _ _ n.ztype, n.shut) refl) ∙ sym o ∙ not-true r h))

    module _ (size : ℕ) (sz : size ≡ block_of t) where
      pub not_at_start : end % 1024 % size ≢ 0 → has_neighbour v l t ≡ false
      not_at_start h = no_neighbour v l t (λ n. h (rw (is, sz) n.start))

      -- all tests passed
      module _ (r : Bool) (bit : ℕ) (lo : 1024 ≤ end) (hi : end < 1024 * (p.zones - 1)) (o : r ≡ of_type t e) (h : not r ≡ false) (start : end % 1024 % size ≡ 0) (bits : bit ≡ sector_at p b end) (clear : bit ≡ 0) where
        passed : Neighbour v l t
        unfolding of_type
        passed =
            let both = (and-eq-true_iff _ _).0 (sym o ∙ not-false r h) in
            record {
              low = rw (← is) lo;
              high = rw (← is) hi;
              ztype = rw (← entry_is) (eqb-true _ _ both.0);
              shut = rw (← entry_is) (not-true _ both.1);
              start = rw (← is, ← sz) start;
              clear = rw (← is) (sym bits ∙ clear);
            }

        pub is_neighbour : has_neighbour v l t ≡ true
        is_neighbour = says_neighbour v l t passed

        pub neighbour_counted : DataType t → R3 v → 1 ≤ e.free
        neighbour_counted typed r3 = rw (q, at, is) (neighbour_some v l t typed passed r3)

      pub neighbour_found : record { zone = z; number = end % 1024 / size; free = e.free - 1 } ≡ neighbour v l t
      unfolding neighbour
      neighbour_found = rw (q, sz, is) (ap (λ (n : ℕ). record { zone = record { 0 = n }; number = end_sector l % 1024 / block_of t; free = (zone_at p b n).free - 1 }) (at ∙ ap zone_of is))
