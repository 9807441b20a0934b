-- What the functions find at a spot, each way out of them, and the k-th sector sought pointer by pointer.
use mathlib.Core.Path.{◌≡◌, refl, sym, ap, ◌∙◌}
use mathlib.Core.Bool.{Bool, true, false}
use mathlib.Core.List.{List}
use Prim.Native.Nat.{ℕ, zero, suc, ◌+◌, ◌-◌, ◌*◌, ◌≤◌, ◌<◌}
use native.Mathlib.Omega.{arith}
use lib.ListN.{length}
use lib.Dec.{ltb}
use borrow.Author.Tests.{lt-ltb, le-ltb}
use Rattle.tables.specs.declared.places.Places.{Places}
use Rattle.tables.specs.declared.index.Pointer.{Pointer}
use Rattle.tables.specs.declared.kinds.Index.{Index}
use Rattle.tables.specs.Indexes.{table_at, link_of, slots_of, base_of, pointer_at}
use Rattle.tables.specs.Places.{Layout}
use Rattle.tables.specs.Lawful.{LawfulWith}
use Rattle.tables.specs.Views.{View, view_of, Parent}
use Rattle.tables.specs.Rules.R8.{file_sectors}
use Rattle.tables.proofs.IndexLaws.{slots_in}
use Rattle.files.specs.declared.spot.Spot.{Spot}
use Rattle.files.specs.Spots.{spot_at, spot_start, spot_count, more_at, next_run, onward, spot_of}
use Rattle.files.specs.Asked.{OnTable, OnSector}
use Rattle.files.proofs.SpotLaws.{onward_under, onward_run, run_more, run_further, spot_on}

-- ---- the pointer at a spot

pub slot_few : (v : View) (c : Spot) → OnTable v c → c.slot < 21
slot_few v c o = omega (arith, o.slot', slots_in c.table.0 (v.table c.table.0))

module _ (p : Places) (b : List ℕ) (c : Spot) (t : List ℕ) (at : ℕ) (is : t ≡ table_at p b c.table.0) (base : at ≡ base_of c.table.0 t) where
  pub pointer_in_lem : OnTable (view_of p b) c → at + 6 * c.slot + 6 ≤ 128
  pointer_in_lem o = let i = c.table.0 in let e : base_of i t ≡ base_of i (table_at p b i) = ap (base_of i) is in omega (arith, o.slot', slots_in i (table_at p b i))

  pub pointer_is : (q : Pointer) → q ≡ pointer_at t (at + 6 * c.slot) → q.count < 65536
      → (q.start.0 ≡ spot_start (view_of p b) c) × (q.count ≡ spot_count (view_of p b) c) × (q.count < 65536)
  pointer_is q e l = (rw (e, base, is) refl, rw (e, base, is) refl, l)

  module _ (n : ℕ) (slots : n ≡ slots_of c.table.0 t) (low : c.slot + 1 < n) where
    pub next_in : at + 6 * (c.slot + 1) + 6 ≤ 128
    next_in = omega (arith, slots_in c.table.0 t)

    pub more_some : (q : Pointer) → q ≡ pointer_at t (at + 6 * (c.slot + 1)) → ltb 0 (q.start.0 + q.count) ≡ more_at (view_of p b) c
    unfolding more_at
    more_some q e =
        let i = c.table.0 in
        let l : c.slot + 1 < slots_of i (table_at p b i) = (let w : slots_of i t ≡ slots_of i (table_at p b i) = ap (slots_of i) is in omega arith) in
        rw (lt-ltb (c.slot + 1) (slots_of i (table_at p b i)) l, e, base, is) refl

pub more_none : (p : Places) (b : List ℕ) (c : Spot) (t : List ℕ) (n : ℕ) → t ≡ table_at p b c.table.0 → n ≡ slots_of c.table.0 t → n ≤ c.slot + 1
    → false ≡ more_at (view_of p b) c
unfolding more_at
more_none p b c t n is slots l =
    let i = c.table.0 in
    let h : slots_of i (table_at p b i) ≤ c.slot + 1 = (let w : slots_of i t ≡ slots_of i (table_at p b i) = ap (slots_of i) is in omega arith) in
    rw (le-ltb (c.slot + 1) (slots_of i (table_at p b i)) h) refl

-- ---- the first sector under the next pointer, where it is one of the next table

pub next_table : (v : View) (c : Spot) (m : Bool) → m ≡ more_at v c → m ≡ false → (x : Index) (t : List ℕ) → x.0 ≡ link_of t → t ≡ v.table c.table.0
    → ◌≡◌ {A = Spot} (record { table = x; slot = 0; off = 0 }) (next_run v c)
next_table v c m is e x t l h = (let w : x.0 ≡ link_of (v.table c.table.0) = l ∙ ap link_of h in ap (λ (n : ℕ). spot_at n 0) w) ∙ sym (run_further v c (sym is ∙ e))

-- ---- seeking

run_off : (v : View) (c : Spot) → (next_run v c).off ≡ 0
run_off v c = go (more_at v c) refl
  where
    go : (t : Bool) → more_at v c ≡ t → (next_run v c).off ≡ 0
    go true e = ap (λ (s : Spot). s.off) (run_more v c e)
    go false e = ap (λ (s : Spot). s.off) (run_further v c e)

-- the next run is by the pointer, not by the sector under it
run_same : (v : View) (c : Spot) (d : ℕ) → next_run v (record { table = c.table; slot = c.slot; off = d }) ≡ next_run v c
unfolding next_run
run_same v c d = refl

module _ (v : View) (f i : ℕ) (c : Spot) (is : spot_of v f i ≡ c) (first : c.off ≡ 0) where
  abbrev at : ℕ → Spot
  at d = record { table = c.table; slot = c.slot; off = d }

  -- under one pointer the sectors follow each other
  spot_under : (d : ℕ) → d < spot_count v c → spot_of v f (i + d) ≡ at d
  unfolding spot_of
  spot_under zero l = ap (spot_of v f) (let e : i + 0 ≡ i = omega arith in e) ∙ is ∙ ap at first
  spot_under (suc d) l =
      ap (spot_of v f) (let e : i + suc d ≡ suc (i + d) = omega arith in e) ∙ ap (onward v) (spot_under d (omega arith))
      ∙ onward_under v (at d) (omega arith) ∙ ap at (let e : d + 1 ≡ suc d = omega arith in e)

  spot_run : 0 < spot_count v c → spot_of v f (i + spot_count v c) ≡ next_run v c
  unfolding spot_of
  spot_run l =
      let d = spot_count v c - 1 in
      ap (spot_of v f) (let e : i + spot_count v c ≡ suc (i + d) = omega arith in e) ∙ ap (onward v) (spot_under d (omega arith))
      ∙ onward_run v (at d) (omega arith) ∙ run_same v c d

-- c is the first sector under its pointer, which has n, and the k-th is `rest` sectors further
pub record Seeking (v : View) (f k : ℕ) (c : Spot) (rest n : ℕ) : Type 0 where
  pub within : rest ≤ k
  pub spot : spot_of v f (k - rest) ≡ c
  pub first : c.off ≡ 0
  pub count : n ≡ spot_count v c

pub seek_none : (v : View) (f k n : ℕ) → n ≡ spot_count v (spot_at f 0) → Seeking v f k (spot_at f 0) k n
unfolding spot_of
seek_none v f k n e = record { within = omega arith; spot = ap (spot_of v f) (let z : k - k ≡ 0 = omega arith in z); first = refl; count = e }

pub seek_last : (v : View) (f k : ℕ) (c : Spot) (rest n : ℕ) → Seeking v f k c rest n → rest < n → ◌≡◌ {A = Spot} (record { table = c.table; slot = c.slot; off = rest }) (spot_of v f k)
seek_last v f k c rest n s l =
    let e : k - rest + rest ≡ k = omega (arith, s.within) in
    sym (spot_under v f (k - rest) c s.spot s.first rest (omega (arith, s.count))) ∙ ap (spot_of v f) e

module _ (p : Places) (b : List ℕ) (f k : ℕ) (lay : Layout p (length b)) {extra : ℕ → ℕ} (lawful : LawfulWith extra p b) (parent : Parent (view_of p b) f) (in' : k < file_sectors (view_of p b) f) where
  pub seek_begin : OnTable (view_of p b) (spot_at f 0)
  unfolding spot_of
  seek_begin = (spot_on p b lay lawful f parent 0 (omega arith)).table'

  module _ (c : Spot) (rest n : ℕ) (s : Seeking (view_of p b) f k c rest n) where
    seek_sector : OnSector (view_of p b) c
    seek_sector = rw s.spot at (spot_on p b lay lawful f parent (k - rest) (omega arith))

    pub seek_on : OnTable (view_of p b) c
    seek_on = seek_sector.table'

    some : 0 < n
    some = omega (arith, s.count, seek_sector.off')

    pub seek_less : n ≤ rest → rest - n < rest
    seek_less l = omega (arith, some)

    module _ (more : n ≤ rest) (c' : Spot) (is : c' ≡ next_run (view_of p b) c) where
      seek_spot : spot_of (view_of p b) f (k - (rest - n)) ≡ c'
      seek_spot =
          let e : k - (rest - n) ≡ k - rest + spot_count (view_of p b) c = omega (arith, s.within, s.count) in
          ap (spot_of (view_of p b) f) e ∙ spot_run (view_of p b) f (k - rest) c s.spot s.first (omega (arith, s.count, some)) ∙ sym is

      pub seek_next : OnTable (view_of p b) c'
      seek_next = (rw seek_spot at (spot_on p b lay lawful f parent (k - (rest - n)) (omega arith))).table'

      pub seek_more : (n' : ℕ) → n' ≡ spot_count (view_of p b) c' → Seeking (view_of p b) f k c' (rest - n) n'
      seek_more n' e = record {
        within = omega (arith, s.within);
        spot = seek_spot;
        first = ap (λ (x : Spot). x.off) is ∙ run_off (view_of p b) c;
        count = e;
      }
