-- Room: "12 is answered exactly when no set of distinct free blocks, with each open zone given one type, supplies the counts", where the
-- criterion over the zone table is what is tested.
use mathlib.Core.Path.{◌≡◌, refl, sym, ap, ◌∙◌, subst}
use mathlib.Core.Logic.{⊎_elim}
use mathlib.Core.Bool.{Bool, true, false, cond, ◌&&◌, ◌||◌, and-eq-true_iff}
use Prim.Native.Nat.{ℕ, zero, suc, ◌+◌, ◌-◌, ◌*◌, ◌/◌, ◌%◌, ◌≤◌, ◌<◌}
use native.Mathlib.Nat.{add-zero, add-sub_cancel, div-add-mod', mod-lt, div-lt_iff_lt-mul}
use native.Mathlib.Omega.{arith}
use lib.Dec.{eqb, leb, ltb}
use borrow.Author.Tests.{eqb-true, eq-eqb, ne_eqb, leb-true, ltb-true, le-leb, lt-ltb}
use Rattle.field.specs.Sum.{sum_to}
use Rattle.field.proofs.Sums.{sum_same, sum_full}
use Rattle.tables.proofs.BlockLaws.{block_of_lem, data_block, block_in}
use Rattle.tables.proofs.ChoiceLaws.{count, under, fit, size, begun, firsts, lack, handed, choice_needs, choice_enough, owner_low, owner_high}
use Rattle.tables.proofs.LackLaws.{some_blocks}
use Rattle.tables.proofs.OpenLaws.{open_untyped, open_typed}
use Rattle.tables.specs.Blocks.{ZoneType, DataType, Block, block_of, per_zone}
use Rattle.tables.specs.Kinds.{first_of}
use Rattle.tables.specs.Open.{is_open, open_zones}
use Rattle.tables.specs.Room.{type_in, FreeBlock, taken_of, Supply, spare_in, spare_of, lack_of, Enough}
use Rattle.tables.specs.Rules.R1.{ceil}
use Rattle.tables.specs.Rules.R2.{R2, ZoneBits, InUse}
use Rattle.tables.specs.Rules.R3.{R3, Blocks}
use Rattle.tables.specs.Views.{View, only_if}

-- four tests that all hold
all_four : (a b c d : Bool) → (a && (b && (c && d))) ≡ true → (a ≡ true) × (b ≡ true) × (c ≡ true) × (d ≡ true)
all_four a b c d h =
    let p = (and-eq-true_iff a (b && (c && d))).0 h in
    let q = (and-eq-true_iff b (c && d)).0 p.1 in
    let r = (and-eq-true_iff c d).0 q.1 in
    (p.0, q.0, r.0, r.1)

-- ---- zones

pub clear_one : (n : ℕ) → only_if (eqb n 0) 1 ≡ 1 - n
unfolding only_if
clear_one zero = refl
clear_one (suc n) = rw (ne_eqb (suc n) 0 (omega arith)) (omega arith)

-- a zone whose blocks are all free is clear
pub all_clear : (bit : ℕ → ℕ) (from size : ℕ) → Block size → Blocks bit from size (1024 / size) → (n : ℕ) → n < 1024 → bit (from + n) ≡ 0
all_clear bit from size block blocks n l =
    let some = block.some in
    let lt : n / size < 1024 / size = (div-lt_iff_lt-mul some).1 (omega (arith, block.whole)) in
    let first = sum_full (1024 / size) (λ k. 1 - bit (from + k * size)) (λ k _. omega arith) blocks.number (n / size) lt in
    let e : from + n / size * size + n % size ≡ from + n = omega (arith, div-add-mod' n size) in
    sym (ap bit e) ∙ blocks.whole (n / size) lt (n % size) (mod-lt n some) ∙ (let z : bit (from + n / size * size) ≡ 0 = omega arith in z)

module _ (v : View) (r2 : R2 v) (z : ℕ) (low : 2 ≤ z) (high : z < v.zones) where
  -- a zone that is not open has a type
  pub begun_typed : is_open (v.zone z) ≡ false → ZoneType (v.zone z).ztype
  begun_typed h =
      ⊎_elim (λ u. absurd (let e = open_untyped (v.zone z) u.reads.ztype in let q : ◌≡◌ {A = ℕ} 0 1 = cc in omega arith)) (λ u. u.typed)
      ((r2 z (omega arith) (omega arith)).other low high)

  -- one that is open is clear
  pub open_clear : R3 v → is_open (v.zone z) ≡ true → ZoneBits v z 0
  open_clear r3 h = ⊎_elim (λ u. u.clear) used ((r2 z (omega arith) (omega arith)).other low high)
    where
      used : InUse v z → ZoneBits v z 0
      used u =
          let e : (v.zone z).free ≡ per_zone (v.zone z).ztype = eqb-true _ _ (open_typed (v.zone z) _ u.typed refl ∙ h) in
          let k : Blocks v.bit (first_of z) (block_of (v.zone z).ztype) (per_zone (v.zone z).ztype) = rw e at (r3 z high low u.typed) in
          all_clear v.bit (first_of z) (block_of (v.zone z).ztype) (block_of_lem _ u.typed) k

-- ---- the type of a zone in a choice

module _ (v : View) (given : ℕ → ℕ) (z : ℕ) where
  type_open : is_open (v.zone z) ≡ true → type_in v given z ≡ given z
  unfolding type_in
  type_open h = rw h

  type_begun : is_open (v.zone z) ≡ false → type_in v given z ≡ (v.zone z).ztype
  unfolding type_in
  type_begun h = rw h

-- ---- the zones from 2 on, counted from 0

module _ (v : View) where
  abbrev opens : ℕ → Bool
  opens i = is_open (v.zone (i + 2))

  abbrev types : ℕ → ℕ
  types i = (v.zone (i + 2)).ztype

  -- block k of such a zone that is not open is free if its first sector is
  abbrev frees : ℕ → ℕ → Bool
  frees i k = eqb (v.bit (first_of (i + 2) + k * block_of (v.zone (i + 2)).ztype)) 0

  some_each : (t : ℕ) → t < 6 → 0 < per_zone (t + 3)
  some_each t l = some_blocks (t + 3) (record { low = omega arith; high = omega arith })

  module _ (r2 : R2 v) (r3 : R3 v) where
    -- the free counts of the entries are true
    begun_in : (t i : ℕ) → i < v.zones - 2 → cond (opens i) 0 (only_if (eqb (types i) t) (count (frees i) (per_zone t))) ≡ spare_in t (v.zone (i + 2))
    unfolding spare_in only_if
    begun_in t i l = go (opens i) (eqb (types i) t) refl refl
      where
        go : (o a : Bool) → opens i ≡ o → eqb (types i) t ≡ a → cond o 0 (only_if a (count (frees i) (per_zone t))) ≡ cond o 0 (only_if a (v.zone (i + 2)).free)
        go true a h q = refl
        go false false h q = refl
        go false true h q =
            let e = eqb-true _ _ q in
            let blocks = r3 (i + 2) (omega arith) (omega arith) (begun_typed v r2 (i + 2) (omega arith) (omega arith) h) in
            ap (λ (t : ℕ). count (frees i) (per_zone t)) (sym e) ∙ sum_same (per_zone (types i)) _ _ (λ k _. clear_one (v.bit (first_of (i + 2) + k * block_of (types i)))) ∙ blocks.number

    begun_is : (t : ℕ) → begun opens types frees per_zone t (v.zones - 2) ≡ spare_of v t
    unfolding spare_of
    begun_is t = sum_same (v.zones - 2) _ _ (begun_in t)

    lack_is : (c : ℕ → ℕ) → sum_to 6 (lack opens types frees per_zone (v.zones - 2) 6 c some_each) ≡ sum_to 6 (λ i. lack_of v (i + 3) (c (i + 3)))
    unfolding lack_of
    lack_is c = sum_same 6 _ _ (λ i _. ap (λ (n : ℕ). ceil (c (i + 3) - n) (per_zone (i + 3))) (begun_is (i + 3)))

    -- ---- a choice needs open zones

    free_fits : (given : ℕ → ℕ) (i k : ℕ) → FreeBlock v given (i + 2) k → fit opens types frees per_zone i k ≡ true
    free_fits given i k f = go (opens i) refl
      where
        go : (o : Bool) → opens i ≡ o → (o || frees i k) ≡ true
        go true h = refl
        go false h =
            let e = f.clear 0 (data_block _ f.typed).some in
            eq-eqb _ _ (rw (type_begun v given (i + 2) h, add-zero) at e)

    pub supply_enough : (c : ℕ → ℕ) → Supply v c → Enough v c
    unfolding taken_of type_in open_zones
    supply_enough c s =
        let l = choice_needs opens types frees per_zone (v.zones - 2) 6 c some_each (λ i. s.given (i + 2)) (λ i. s.taken (i + 2))
        (λ i k h. free_fits s.given i k (s.free (i + 2) k h)) (λ t l. s.supplies (t + 3) (record { low = omega arith; high = omega arith })) in
        let e = lack_is c in
        omega arith

    -- ---- and has enough with them

    -- a block that fits is free in a zone of type u, which is its own if it is not open
    fits_clear : (i k u : ℕ) → i < v.zones - 2 → DataType u → (opens i ≡ false → u ≡ types i) → k < per_zone u → fit opens types frees per_zone i k ≡ true
        → (j : ℕ) → j < block_of u → v.bit (first_of (i + 2) + k * block_of u + j) ≡ 0
    fits_clear i k u hi typed own w f j l = go (opens i) refl f
      where
        go : (o : Bool) → opens i ≡ o → (o || frees i k) ≡ true → v.bit (first_of (i + 2) + k * block_of u + j) ≡ 0
        go true h q =
            let b = block_in k (block_of u) (data_block u typed) w in
            let e : first_of (i + 2) + k * block_of u + j ≡ first_of (i + 2) + (k * block_of u + j) = omega arith in
            ap v.bit e ∙ open_clear v r2 (i + 2) (omega arith) (omega arith) r3 h (k * block_of u + j) (omega arith)
        go false h q =
            let e = own h in
            let blocks = r3 (i + 2) (omega arith) (omega arith) (begun_typed v r2 (i + 2) (omega arith) (omega arith) h) in
            rw e (blocks.whole k (rw e at w) j (rw e at l) ∙ eqb-true _ _ q)

    module _ (c : ℕ → ℕ) where
      abbrev gave : ℕ → ℕ
      gave = handed opens types frees per_zone (v.zones - 2) 6 c some_each

      abbrev given : ℕ → ℕ
      given z = gave (z - 2)

      abbrev chosen : ℕ → ℕ → Bool
      chosen = firsts opens types frees per_zone gave c

      abbrev taken : ℕ → ℕ → Bool
      taken z k = leb 2 z && (ltb z v.zones && (ltb k (per_zone (type_in v given z)) && (leb 3 (type_in v given z) && chosen (z - 2) k)))

      given_typed : (z : ℕ) → DataType (given z)
      given_typed z = record { low = owner_low _ 6 _; high = owner_high _ 5 _ }

      in_typed : (z : ℕ) → 2 ≤ z → z < v.zones → 3 ≤ type_in v given z → DataType (type_in v given z)
      in_typed z lo hi least = record { low = least; high = go (is_open (v.zone z)) refl }
        where
          go : (o : Bool) → is_open (v.zone z) ≡ o → type_in v given z ≤ 8
          go true h = rw (type_open v given z h) (given_typed z).high
          go false h = rw (type_begun v given z h) (begun_typed v r2 z lo hi h).high

      free_here : (i k : ℕ) → i < v.zones - 2 → k < per_zone (type_in v given (i + 2)) → 3 ≤ type_in v given (i + 2) → chosen i k ≡ true → FreeBlock v given (i + 2) k
      free_here i k hi w least h = record {
        low = omega arith;
        high = omega arith;
        typed = in_typed (i + 2) (omega arith) (omega arith) least;
        within = w;
        clear = fits_clear i k (type_in v given (i + 2)) hi (in_typed (i + 2) (omega arith) (omega arith) least) (type_begun v given (i + 2)) w ((and-eq-true_iff (fit opens types frees per_zone i k) _).0 h).0;
      }

      taken_free : (z k : ℕ) → taken z k ≡ true → FreeBlock v given z k
      taken_free z k h =
          let a = all_four (leb 2 z) (ltb z v.zones) (ltb k (per_zone (type_in v given z))) (leb 3 (type_in v given z) && chosen (z - 2) k) h in
          let d = (and-eq-true_iff (leb 3 (type_in v given z)) (chosen (z - 2) k)).0 a.3 in
          let least = leb-true 3 (type_in v given z) d.0 in
          let lo = leb-true 2 z a.0 in
          let hi = ltb-true z v.zones a.1 in
          let w = ltb-true k (per_zone (type_in v given z)) a.2 in
          let e : z - 2 + 2 ≡ z = omega arith in
          subst (λ (y : ℕ). FreeBlock v given y k) e (free_here (z - 2) k (omega arith) (subst (λ (y : ℕ). k < per_zone (type_in v given y)) (sym e) w) (subst (λ (y : ℕ). 3 ≤ type_in v given y) (sym e) least) d.1)

      type_at : (i : ℕ) → type_in v given (i + 2) ≡ under opens types frees per_zone gave i
      unfolding type_in
      type_at i = ap (λ (j : ℕ). cond (opens i) (gave j) (types i)) (add-sub_cancel i 2)

      -- below the bounds that are tested, the taken blocks are the chosen ones
      taken_at : (i k : ℕ) → i < v.zones - 2 → k < per_zone (type_in v given (i + 2)) → 3 ≤ type_in v given (i + 2) → taken (i + 2) k ≡ chosen i k
      taken_at i k hi w least =
          rw (le-leb 2 (i + 2) (omega arith), lt-ltb (i + 2) v.zones (omega arith), lt-ltb k (per_zone (type_in v given (i + 2))) w, le-leb 3 (type_in v given (i + 2)) least)
          (ap (λ (j : ℕ). chosen j k) (add-sub_cancel i 2))

      number_in : (t i : ℕ) → 3 ≤ t → i < v.zones - 2
          → only_if (eqb (type_in v given (i + 2)) t) (count (taken (i + 2)) (per_zone t)) ≡ only_if (eqb (under opens types frees per_zone gave i) t) (count (chosen i) (per_zone t))
      unfolding only_if
      number_in t i least hi = go (eqb (type_in v given (i + 2)) t) refl ∙ ap (λ (u : ℕ). only_if (eqb u t) (count (chosen i) (per_zone t))) (type_at i)
        where
          go : (a : Bool) → eqb (type_in v given (i + 2)) t ≡ a → only_if a (count (taken (i + 2)) (per_zone t)) ≡ only_if a (count (chosen i) (per_zone t))
          go true q =
              let e : type_in v given (i + 2) ≡ t = eqb-true _ _ q in
              sum_same (per_zone t) _ _ (λ k l. ap (λ (b : Bool). only_if b 1) (taken_at i k hi (rw e l) (rw e least)))
          go false q = refl

      number_is : (t : ℕ) → 3 ≤ t → taken_of v given taken t ≡ size opens types frees per_zone gave chosen t (v.zones - 2)
      unfolding taken_of
      number_is t least = sum_same (v.zones - 2) _ _ (λ i. number_in t i least)

      supplied : Enough v c → (t : ℕ) → t < 6 → taken_of v given taken (t + 3) ≡ c (t + 3)
      unfolding open_zones
      supplied h t l = number_is (t + 3) (omega arith) ∙ choice_enough opens types frees per_zone (v.zones - 2) 6 c some_each (let e = lack_is c in omega arith) t l

      pub enough_supply : Enough v c → Supply v c
      enough_supply h = record {
        given = given;
        types = λ z _ _ _. given_typed z;
        taken = taken;
        free = taken_free;
        supplies = λ t typed. let e : t - 3 + 3 ≡ t = omega arith in subst (λ (u : ℕ). taken_of v given taken u ≡ c u) e (supplied h (t - 3) (omega arith));
      }
