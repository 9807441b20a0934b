-- The next block: what the tests of zones and blocks say, and that a search from the last block on finds the same.
use mathlib.Core.Path.{◌≡◌, refl, sym, ap, ◌∙◌}
use mathlib.Core.Logic.{◌≢◌, ⊎_elim}
use mathlib.Core.Bool.{true, false}
use mathlib.Core.List.{List}
use Prim.Native.Nat.{ℕ, ◌+◌, ◌-◌, ◌*◌, ◌≤◌, ◌<◌}
use native.Mathlib.Decide.{ℕ_discrete, dec_lt}
use native.Mathlib.Nat.{div-le_self, add-mul, mul_comm}
use native.Mathlib.Omega.{arith}
use borrow.Author.Tests.{lt-ltb, le-ltb, ltb-true, eq-eqb, ne_eqb}
use Rattle.tables.specs.declared.kinds.Zone.{Zone}
use Rattle.tables.specs.declared.places.Places.{Places}
use Rattle.tables.specs.declared.zone.ZoneEntry.{ZoneEntry}
use Rattle.tables.specs.Blocks.{DataType, block_of, Block, per_zone}
use Rattle.tables.specs.Kinds.{first_of}
use Rattle.tables.specs.Open.{is_open}
use Rattle.tables.specs.Room.{spare_in}
use Rattle.tables.specs.Rules.R1.{ceil}
use Rattle.tables.specs.Views.{View, view_of}
use Rattle.tables.proofs.BlockLaws.{data_block, block_in}
use Rattle.tables.proofs.ChoiceLaws.{ceil_least, ceil_enough}
use Rattle.tables.proofs.LackLaws.{in_open, in_other, in_begun}
use Rattle.allocation.specs.declared.choice.Found.{Found}
use Rattle.std.specs.Prelude.{Option, Some, None, unwrap_or}
use Rattle.allocation.specs.Find.{find, ZoneFound}
use Rattle.allocation.specs.Choice.{begun, lowest_begun, lowest_open, is_clear, lowest_clear, begun_block, open_block, next_block, block_start}
use Rattle.allocation.specs.Candidates.{Proper, Behind}
use Rattle.allocation.proofs.FindLaws.{either, find_low, find_skip, find_passes}

-- ---- blocks that begin in so many sectors

-- a product, cut at k
mul_cut : (j k size : ℕ) → k ≤ j → k * size + (j - k) * size ≡ j * size
mul_cut j k size l = sym (add-mul k (j - k) size) ∙ ap (λ (n : ℕ). n * size) (let e : k + (j - k) ≡ j = omega arith in e)

-- block i, one of the first ceil used size, begins in the `used` sectors
begins_in : (used size i : ℕ) → 0 < size → i < ceil used size → i * size < used
begins_in used size i some l = elim (dec_lt (i * size) used) [
  | yes b ↦ b
  | no b ↦ absurd (omega (arith, ceil_least used size i some (omega (arith, mul_comm size i))))
]

-- there is one, if there is a sector
pub passed_some : (used size : ℕ) → 0 < size → used ≢ 0 → 0 < ceil used size
passed_some used size some n = elim (ℕ_discrete (ceil used size) 0) [
  | yes e ↦ absurd (n (omega (arith, rw e at (ceil_enough used size some))))
  | no e ↦ omega arith
]

-- they end within the zone, where the sectors do
pub passed_in : (t size last k used : ℕ) → size ≡ block_of t → Block size → last ≡ per_zone t → k ≤ last → k * size + used ≤ 1024 → k + ceil used size ≤ last
passed_in t size last k used is block e l h =
    let whole : last * size ≡ 1024 = rw (e, sym is) block.whole in
    omega (arith, ceil_least used size (last - k) block.some (omega (arith, mul_comm size (last - k), mul_cut last k size l)))

-- ---- the tests

module _ (v : View) (t z : ℕ) where
  module _ (r : ℕ) (e : ZoneEntry) (q : e ≡ v.zone z) (is : r ≡ spare_in t e) where
    pub begun_yes : 0 < r → begun v t z ≡ true
    unfolding begun
    begun_yes h = rw (sym q, sym is) (lt-ltb 0 r h)

    pub begun_no : r ≤ 0 → begun v t z ≡ false
    unfolding begun
    begun_no h = rw (sym q, sym is) (le-ltb 0 r h)

  begun_spare : begun v t z ≡ true → 0 < spare_in t (v.zone z)
  unfolding begun
  begun_spare h = ltb-true 0 (spare_in t (v.zone z)) h

  module _ (first size : ℕ) (at : first ≡ first_of z) (is : size ≡ block_of t) where
    pub clear_yes : (k r : ℕ) → r ≡ v.bit (first + k * size) → r ≡ 0 → is_clear v t z k ≡ true
    unfolding is_clear
    clear_yes k r q h = rw (sym at, sym is, sym q) (eq-eqb r 0 h)

    pub clear_no : (k r : ℕ) → r ≡ v.bit (first + k * size) → r ≢ 0 → is_clear v t z k ≡ false
    unfolding is_clear
    clear_no k r q h = rw (sym at, sym is, sym q) (ne_eqb r 0 h)

    module _ (from k : ℕ) (none : (j : ℕ) → j < k → from ≤ j → v.bit (first + j * size) ≢ 0) where
      pub clear_none : (j : ℕ) → j < k → from ≤ j → is_clear v t z j ≡ false
      clear_none j l h = clear_no j _ refl (none j l h)

      -- nor is a block free that begins in sectors that are all in use
      pub clear_more : (used : ℕ) → 0 < size → ((n : ℕ) → n < used → v.bit (first + k * size + n) ≡ 1) → (j : ℕ) → j < k + ceil used size → from ≤ j → v.bit (first + j * size) ≢ 0
      clear_more used some all j l lo = elim (dec_lt j k) [
        | yes b ↦ none j b lo
        | no b ↦
            let e : first + k * size + (j - k) * size ≡ first + j * size = omega (arith, mul_cut j k size (omega arith)) in
            λ clear. absurd (omega (arith, rw e at (all ((j - k) * size) (begins_in used size (j - k) some (omega arith)))))
      ]

-- a zone that has free blocks of type t and isn't open, by its entry
pub record Spare (t : ℕ) (e : ZoneEntry) : Type 0 where
  pub shut : is_open e ≡ false
  pub ztype : e.ztype ≡ t
  pub some : 0 < e.free

pub spare_is : (t : ℕ) (e : ZoneEntry) → 0 < spare_in t e → Spare t e
spare_is t e h =
    ⊎_elim (λ o. absurd (omega (arith, in_open t e (is_open e) refl o)))
    (λ s. elim (ℕ_discrete e.ztype t) [
      | yes q ↦ record { shut = s; ztype = q; some = omega (arith, in_begun t e (is_open e) refl s q) }
      | no q ↦ absurd (omega (arith, in_other t e q))
    ]) (either (is_open e))

pub begun_is : (v : View) (t z : ℕ) → begun v t z ≡ true → Spare t (v.zone z)
begun_is v t z h = spare_is t (v.zone z) (begun_spare v t z h)

-- ---- where a block lies

pub block_inside : (t size k : ℕ) → size ≡ block_of t → Block size → k < per_zone t → k * size + size ≤ 1024
block_inside t size k is block l = block_in k size block (rw is l)

pub block_within : (t z k : ℕ) → DataType t → 1 ≤ z → k < per_zone t → first_of z + k * block_of t + block_of t ≤ 1024 * z
block_within t z k typed lo l = omega (arith, block_in k (block_of t) (data_block t typed) l)

-- a block that may be taken: what its zone's entry and its sectors' bits ask
module _ (p : Places) (b : List ℕ) (t : ℕ) (k : Found) (proper : Proper (view_of p b) t k) where
  pub block_small : (t < 65536) × (k.free < 65536)
  block_small = (omega arith, omega (arith, div-le_self 1024 (block_of t)))

  pub block_high : block_start t k + block_of t ≤ 1024 * (p.zones - 1)
  unfolding block_start
  block_high = omega (arith, block_within t k.zone.0 k.number proper.typed (omega (arith, proper.low)) proper.within, proper.high)

  pub block_room : (s size : ℕ) → s ≡ block_start t k → size ≡ block_of t → s + size ≤ 1024 * p.zones
  block_room s size q u = omega (arith, block_high)

-- ---- the search from the last block on

-- block 0 of the open zone that is found, of zone Z where none is
pub open_is : (v : View) (t : ℕ) (r : Option Zone) (z : Zone) → ZoneFound v.zones (lowest_open v) r → z ≡ unwrap_or r (record { 0 = v.zones }) → (n : ℕ) → n ≡ per_zone t
    → ◌≡◌ {A = Found} (record { zone = z; number = 0; free = n - 1 }) (open_block v t)
unfolding open_block
open_is v t None z q e n s = rw (e, q, s)
open_is v t (Some y) z q e n s = rw (e, sym q.0, s)

module _ (v : View) (t : ℕ) where
  pub next_begun : lowest_begun v t < v.zones → next_block v t ≡ begun_block v t (lowest_begun v t)
  unfolding next_block
  next_begun h = rw (lt-ltb (lowest_begun v t) v.zones h)

  pub next_open : v.zones ≤ lowest_begun v t → next_block v t ≡ open_block v t
  unfolding next_block
  next_open h = rw (le-ltb (lowest_begun v t) v.zones h)

  module _ (last : Found) (behind : Behind v t last) where
    pub behind_zone : lowest_begun v t ≡ find (begun v t) (v.zones - last.zone.0) last.zone.0
    unfolding lowest_begun
    behind_zone =
        let e : 2 + (v.zones - 2) - last.zone.0 ≡ v.zones - last.zone.0 = omega arith in
        find_skip (begun v t) (v.zones - 2) 2 last.zone.0 behind.low (omega arith) behind.zones ∙ ap (λ (n : ℕ). find (begun v t) n last.zone.0) e

    -- no zone from that of the last block on, or z is the lowest
    pub behind_none : (r : Found) → r ≡ open_block v t → find (begun v t) (v.zones - last.zone.0) last.zone.0 ≡ v.zones → r ≡ next_block v t
    behind_none r q h = q ∙ sym (next_open (omega (arith, behind_zone)))

    module _ (z : Zone) (is : z.0 ≡ find (begun v t) (v.zones - last.zone.0) last.zone.0) (high : z.0 < v.zones) where
      pub behind_low : 2 ≤ z.0
      behind_low = omega (arith, behind.low, find_low (begun v t) (v.zones - last.zone.0) last.zone.0)

      pub behind_spare : Spare t (v.zone z.0)
      behind_spare = begun_is v t z.0 (rw (sym is) at (find_passes (begun v t) (v.zones - last.zone.0) last.zone.0 (omega (arith, is, behind.high))))

      module _ (r : ℕ) (few : r ≤ last.number) (same : z.0 ≡ last.zone.0 → r ≡ last.number) (other : (z.0 ≡ last.zone.0 → ⊥) → r ≡ 0) where
        behind_blocks : (j : ℕ) → j < r → 0 ≤ j → is_clear v t z.0 j ≡ false
        behind_blocks j l h = elim (ℕ_discrete z.0 last.zone.0) [
          | yes q ↦ rw q (behind.blocks j (omega arith))
          | no q ↦ absurd (omega (arith, other q))
        ]

        behind_clear : lowest_clear v t z.0 ≡ find (is_clear v t z.0) (per_zone t - r) r
        unfolding lowest_clear
        behind_clear =
            let e : 0 + per_zone t - r ≡ per_zone t - r = omega arith in
            find_skip (is_clear v t z.0) (per_zone t) 0 r (omega arith) (omega (arith, behind.number)) behind_blocks ∙ ap (λ (n : ℕ). find (is_clear v t z.0) n r) e

        pub behind_block : (n : ℕ) (e : ZoneEntry) → n ≡ find (is_clear v t z.0) (per_zone t - r) r → e ≡ v.zone z.0
            → record { zone = z; number = n; free = e.free - 1 } ≡ next_block v t
        unfolding begun_block
        behind_block n e q u =
            rw (next_begun (omega (arith, behind_zone)), behind_zone, sym is, behind_clear, q, u)
