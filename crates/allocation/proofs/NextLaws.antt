-- Which blocks may be chosen where there is room: the next one is of these, and none of its type is free before it.
use mathlib.Core.Path.{◌≡◌, refl, sym, ap, ◌∙◌}
use mathlib.Core.Logic.{◌≢◌, ◌⊎◌, inl, inr, ⊎_elim}
use mathlib.Core.Bool.{Bool, true, false}
use mathlib.Core.List.{List, ◌∷◌}
use Prim.Native.Nat.{ℕ, suc, ◌+◌, ◌-◌, ◌*◌, ◌/◌, ◌≤◌, ◌<◌}
use native.Mathlib.Nat.{mul-zero}
use native.Mathlib.Decide.{dec_lt}
use native.Mathlib.Omega.{arith}
use borrow.Author.Tests.{eqb-true, eqb-false, eq-eqb, ne_eqb, ltb-false}
use Rattle.field.proofs.Sums.{sum_zero, sum_one, sum_le, sum_some, sum_part}
use Rattle.tables.specs.Kinds.{first_of}
use Rattle.tables.specs.Blocks.{DataType, Block, block_of, per_zone}
use Rattle.tables.specs.Open.{is_open, open_zones}
use Rattle.tables.specs.Room.{spare_in, spare_of, lack_of}
use Rattle.tables.specs.Rules.R3.{Blocks}
use Rattle.tables.specs.Views.{View, only_if}
use Rattle.tables.proofs.BlockLaws.{data_zone, data_block, block_in}
use Rattle.tables.proofs.ChoiceLaws.{ceil_enough}
use Rattle.tables.proofs.LackLaws.{some_blocks}
use Rattle.tables.proofs.RoomLaws.{open_clear}
use Rattle.allocation.specs.declared.choice.Found.{Found}
use Rattle.allocation.specs.Choice.{begun, lowest_begun, lowest_open, is_clear, lowest_clear, begun_block, open_block, next_block, block_start}
use Rattle.allocation.specs.Stock.{how_many, AllTyped, Stocked}
use Rattle.allocation.specs.Candidates.{Behind}
use Rattle.allocation.specs.Steps.{Choosable, Taken}
use Rattle.allocation.proofs.FindLaws.{find_low, find_high, find_none, find_passes, find_some}
use Rattle.allocation.proofs.NextBlockLaws.{begun_is, next_begun, next_open}

-- ---- the two ways in which a block may be chosen

-- it is free, of a zone of its type that isn't open
pub record OfBegun (v : View) (t : ℕ) (k : Found) : Type 0 where
  pub low : 2 ≤ k.zone.0
  pub high : k.zone.0 < v.zones
  pub closed : is_open (v.zone k.zone.0) ≡ false
  pub ztype : (v.zone k.zone.0).ztype ≡ t
  pub free : (v.zone k.zone.0).free ≡ suc k.free
  pub within : k.number < per_zone t
  pub first : v.bit (block_start t k) ≡ 0

-- no zone of its type has a free block, and it is block 0 of an open one
pub record OfOpen (v : View) (t : ℕ) (k : Found) : Type 0 where
  pub low : 2 ≤ k.zone.0
  pub high : k.zone.0 < v.zones
  pub opened : is_open (v.zone k.zone.0) ≡ true
  pub none : (z : ℕ) → z < v.zones → 2 ≤ z → begun v t z ≡ false
  pub number : k.number ≡ 0
  pub free : suc k.free ≡ per_zone t

-- it fits in either way
abbrev pub Fit : View → ℕ → Found → Type 0
Fit v t k = OfBegun v t k ⊎ OfOpen v t k

-- a clear zone's blocks, of whatever size, are free
pub blocks_clear : (bit : ℕ → ℕ) (from size : ℕ) → Block size → ((n : ℕ) → n < 1024 → bit (from + n) ≡ 0) → Blocks bit from size (1024 / size)
blocks_clear bit from size block h = record {
  whole = λ k l j lj. (let e : from + k * size + j ≡ from + (k * size + j) = omega arith in
      ap bit e ∙ h (k * size + j) (omega (arith, block_in k size block l)) ∙ sym (first k l));
  number = sum_one (1024 / size) _ (λ k l. ap (λ (x : ℕ). 1 - x) (first k l));
}
  where
    first : (k : ℕ) → k < 1024 / size → bit (from + k * size) ≡ 0
    first k l = h (k * size) (omega (arith, block_in k size block l, block.some))

-- one more of its own type, and none of another
pub how_many_own : (t : ℕ) (ts : List ℕ) → how_many (t ∷ ts) t ≡ suc (how_many ts t)
unfolding how_many only_if
how_many_own t ts = rw (eq-eqb t t refl) (omega arith)

pub how_many_other : (t u : ℕ) (ts : List ℕ) → t ≢ u → how_many (t ∷ ts) u ≡ how_many ts u
unfolding how_many only_if
how_many_other t u ts ne = rw (ne_eqb t u ne) (omega arith)

-- what is free and the zones that are lacked are enough
lack_more : (v : View) (t n : ℕ) → DataType t → n ≤ spare_of v t + per_zone t * lack_of v t n
unfolding lack_of
lack_more v t n typed = omega (arith, ceil_enough (n - spare_of v t) (per_zone t) (some_blocks t typed))

-- where no zone of a type is begun, none has free blocks of it
pub none_spare : (v : View) (t : ℕ) → ((z : ℕ) → z < v.zones → 2 ≤ z → begun v t z ≡ false) → spare_of v t ≡ 0
unfolding spare_of begun
none_spare v t h = sum_zero (v.zones - 2) _ (λ i l. omega (arith, ltb-false 0 (spare_in t (v.zone (i + 2))) (h (i + 2) (omega arith) (omega arith))))

only_true : (b : Bool) → 0 < only_if b 1 → b ≡ true
unfolding only_if
only_true true h = refl
only_true false h = absurd (omega arith)

module _ (v : View) where
  open_low : 2 ≤ lowest_open v
  unfolding lowest_open
  open_low = find_low (λ z. is_open (v.zone z)) (v.zones - 2) 2

  open_found : 0 < open_zones v → (lowest_open v < v.zones) × (is_open (v.zone (lowest_open v)) ≡ true)
  unfolding open_zones lowest_open
  open_found h =
      let some = sum_some (v.zones - 2) _ h in
      let l = find_some (λ z. is_open (v.zone z)) (v.zones - 2) 2 (some.0 + 2) (omega arith) (omega (arith, some.1)) (only_true _ some.2) in
      (omega (arith, l, some.1), find_passes (λ z. is_open (v.zone z)) (v.zones - 2) 2 l)

module _ (v : View) (t : ℕ) where
  pub begun_low : 2 ≤ lowest_begun v t
  unfolding lowest_begun
  begun_low = find_low (begun v t) (v.zones - 2) 2

  module _ (ts : List ℕ) (s : Stocked v (t ∷ ts)) where
    pub next_typed : DataType t
    unfolding AllTyped
    next_typed = s.typed.0

    -- ---- a zone that is begun

    begun_blocks : (z : ℕ) → 2 ≤ z → z < v.zones → (v.zone z).ztype ≡ t → Blocks v.bit (first_of z) (block_of t) (v.zone z).free
    begun_blocks z lo hi e = rw e at (s.r3 z hi lo (rw e (data_zone next_typed)))

    -- its free blocks are there
    clear_some : (z : ℕ) → 2 ≤ z → z < v.zones → (v.zone z).ztype ≡ t → 0 < (v.zone z).free → lowest_clear v t z < per_zone t
    unfolding lowest_clear is_clear
    clear_some z lo hi e h =
        let some = sum_some (per_zone t) (λ k. 1 - v.bit (first_of z + k * block_of t)) (let n = (begun_blocks z lo hi e).number in omega arith) in
        let first : v.bit (first_of z + some.0 * block_of t) ≡ 0 = omega (arith, some.2) in
        omega (arith, find_some (is_clear v t z) (per_zone t) 0 some.0 (omega arith) (omega (arith, some.1)) (eq-eqb _ 0 first))

    begun_block_lem : lowest_begun v t < v.zones → OfBegun v t (begun_block v t (lowest_begun v t))
    unfolding begun_block lowest_begun begun lowest_clear is_clear block_start
    begun_block_lem h =
        let z = lowest_begun v t in
        let lo = begun_low in
        let is = begun_is v t z (find_passes (begun v t) (v.zones - 2) 2 (omega arith)) in
        let l = clear_some z lo h is.ztype is.some in
        record {
          low = lo;
          high = h;
          closed = is.shut;
          ztype = is.ztype;
          free = omega (arith, is.some);
          within = l;
          first = eqb-true _ 0 (find_passes (is_clear v t z) (per_zone t) 0 (omega arith));
        }

    -- ---- an open zone

    none_begun : v.zones ≤ lowest_begun v t → (z : ℕ) → z < v.zones → 2 ≤ z → begun v t z ≡ false
    unfolding lowest_begun
    none_begun h z hi lo = find_none (begun v t) (v.zones - 2) 2 z (omega arith) lo

    some_open : spare_of v t ≡ 0 → 0 < open_zones v
    some_open h =
        let typed = next_typed in
        let e : t - 3 + 3 ≡ t = omega arith in
        let part : lack_of v t (how_many (t ∷ ts) t) ≤ open_zones v = omega (arith, s.enough, rw e at (sum_part 6 (t - 3) (λ i. lack_of v (i + 3) (how_many (t ∷ ts) (i + 3))) (omega arith))) in
        elim (dec_lt 0 (lack_of v t (how_many (t ∷ ts) t))) [
          | yes l ↦ omega arith
          | no l ↦ (let z : lack_of v t (how_many (t ∷ ts) t) ≡ 0 = omega arith in
              let m = rw (z, how_many_own t ts, h, mul-zero) at (lack_more v t (how_many (t ∷ ts) t) typed) in
              absurd (omega arith))
        ]

    open_block_lem : v.zones ≤ lowest_begun v t → OfOpen v t (open_block v t)
    unfolding open_block
    open_block_lem h =
        let f = open_found v (some_open (none_spare v t (none_begun h))) in
        record {
          low = open_low v;
          high = f.0;
          opened = f.1;
          none = none_begun h;
          number = refl;
          free = omega (arith, some_blocks t next_typed);
        }

    pub next_fits : Fit v t (next_block v t)
    next_fits =
        elim (dec_lt (lowest_begun v t) v.zones) [
          | yes h ↦ inl (rw (next_begun v t h) (begun_block_lem h))
          | no h ↦ inr (rw (next_open v t (omega arith)) (open_block_lem (omega arith)))
        ]

    -- ---- either way it may be taken

    begun_choosable : (k : Found) → OfBegun v t k → Choosable v t k
    unfolding block_start
    begun_choosable k b =
        let blocks = begun_blocks k.zone.0 b.low b.high b.ztype in
        record {
          proper = record {
            typed = next_typed;
            low = b.low;
            high = b.high;
            within = b.within;
            free = omega (arith, b.free, blocks.number, sum_le (per_zone t) (λ n. 1 - v.bit (first_of k.zone.0 + n * block_of t)) (λ n l. omega arith));
          };
          clear = λ j l. blocks.whole k.number b.within j l ∙ b.first;
          was = rw b.free at blocks;
          kept = inl b.ztype;
        }

    open_choosable : (k : Found) → OfOpen v t k → Choosable v t k
    unfolding block_start
    open_choosable k b =
        let size = data_block t next_typed in
        let l : k.number < per_zone t = omega (arith, b.number, b.free) in
        let none = open_clear v s.r2 k.zone.0 b.low b.high s.r3 b.opened in
        record {
          proper = record { typed = next_typed; low = b.low; high = b.high; within = l; free = omega (arith, b.free) };
          clear = λ j lj. (let e : first_of k.zone.0 + k.number * block_of t + j ≡ first_of k.zone.0 + (k.number * block_of t + j) = omega arith in
              ap v.bit e ∙ none (k.number * block_of t + j) (omega (arith, block_in k.number (block_of t) size l)));
          was = rw b.free (blocks_clear v.bit (first_of k.zone.0) (block_of t) size none);
          kept = inr none;
        }

    pub fit_choosable : (k : Found) → Fit v t k → Choosable v t k
    fit_choosable k = ⊎_elim (begun_choosable k) (open_choosable k)

-- ---- where a search may begin

-- at the next block: none of its type is free before it
module _ (v : View) (t : ℕ) (h : 2 ≤ v.zones) where
  zones_before : (z : ℕ) → z < lowest_begun v t → 2 ≤ z → begun v t z ≡ false
  unfolding lowest_begun
  zones_before z l lo = find_none (begun v t) (v.zones - 2) 2 z l lo

  open_most : lowest_open v ≤ v.zones
  unfolding lowest_open
  open_most = omega (arith, find_high (λ z. is_open (v.zone z)) (v.zones - 2) 2)

  begun_behind : lowest_begun v t < v.zones → Behind v t (begun_block v t (lowest_begun v t))
  unfolding begun_block lowest_clear
  begun_behind l =
      let z = lowest_begun v t in
      record {
        low = begun_low v t;
        high = omega arith;
        zones = zones_before;
        blocks = λ j lj. find_none (is_clear v t z) (per_zone t) 0 j lj (omega arith);
        number = omega (arith, find_high (is_clear v t z) (per_zone t) 0);
      }

  open_behind : v.zones ≤ lowest_begun v t → Behind v t (open_block v t)
  unfolding open_block
  open_behind l = record {
    low = open_low v;
    high = open_most;
    zones = λ z lz lo. zones_before z (omega (arith, open_most)) lo;
    blocks = λ j lj. absurd (omega arith);
    number = omega arith;
  }

  pub next_behind : Behind v t (next_block v t)
  next_behind = elim (dec_lt (lowest_begun v t) v.zones) [
    | yes l ↦ rw (next_begun v t l) (begun_behind l)
    | no l ↦ rw (next_open v t (omega arith)) (open_behind (omega arith))
  ]

-- it may begin there still when a block in a zone not below has been taken
pub taken_behind : (v v' : View) (t : ℕ) (k from : Found) → Taken v v' t k → DataType t → from.zone.0 ≤ k.zone.0 → Behind v t from → Behind v' t from
unfolding begun is_clear
taken_behind v v' t k from taken typed before b = record {
  low = b.low;
  high = rw taken.zones b.high;
  zones = λ z l lo. rw (taken.there z (omega arith) (omega (arith, b.high)) (λ e. omega arith)) (b.zones z l lo);
  blocks = λ j l. (let i = block_in j (block_of t) (data_block t typed) (omega (arith, b.number)) in
      let set = eqb-false (v.bit (first_of from.zone.0 + j * block_of t)) 0 (b.blocks j l) in
      let e = taken.bit (first_of from.zone.0 + j * block_of t) (omega (arith, i, (data_block t typed).some, b.high, b.low)) in
      ne_eqb (v'.bit (first_of from.zone.0 + j * block_of t)) 0 (λ q. set (omega arith)));
  number = b.number;
}

-- it may begin at the lowest of all zones
pub behind_start : (v : View) (t : ℕ) → 2 ≤ v.zones → Behind v t (record { zone = record { 0 = 2 }; number = 0; free = 0 })
behind_start v t h = record {
  low = omega arith;
  high = h;
  zones = λ z l lo. absurd (omega arith);
  blocks = λ j l. absurd (omega arith);
  number = omega arith;
}
