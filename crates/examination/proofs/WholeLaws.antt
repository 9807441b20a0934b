-- Whole blocks: blocks of four by the byte, blocks of any size one after the other, and their count by their bits.
use mathlib.Core.Path.{◌≡◌, refl, sym, ap, ◌∙◌}
use mathlib.Core.Bool.{Bool}
use Prim.Native.Nat.{ℕ, zero, suc, ◌+◌, ◌-◌, ◌*◌, ◌/◌, ◌%◌, ◌≤◌, ◌<◌}
use native.Mathlib.Nat.{add-zero, div-eq_of_eq-mul_left}
use native.Mathlib.Decide.{dec_lt}
use native.Mathlib.Omega.{arith}
use mathlib.Core.List.{List}
use lib.Dec.{eqb}
use lib.ListN.{get_or}
use Rattle.field.specs.Says.{Says}
use Rattle.field.specs.Sum.{sum_to}
use Rattle.field.specs.Bits.{bit_of, bit_at}
use Rattle.field.specs.Runs.{AllBits, count_bits}
use Rattle.field.proofs.Tests.{says_map, says_eq}
use Rattle.field.proofs.BitLaws.{bit_at_lt}
use Rattle.field.proofs.RunLaws.{byte_same}
use Rattle.tables.specs.declared.places.Places.{Places}
use Rattle.tables.specs.Kinds.{first_of}
use Rattle.tables.specs.Blocks.{Block, Whole}
use Rattle.tables.specs.Rules.R3.{Blocks}
use Rattle.tables.specs.Each.{Each}
use Rattle.tables.specs.Sectors.{sector_at}
use Rattle.tables.proofs.BlockLaws.{clear_blocks_lem}

-- every bit of the block from `from` on is as its first
abbrev pub BlockSame : List ℕ → ℕ → ℕ → ℕ → Type 0
BlockSame b base from size = AllBits b base from size (bit_at b base from)

-- ---- two blocks of four in a byte

-- the two halves of a byte, each as its first bit
abbrev pub Two : List ℕ → ℕ → ℕ → Type 0
Two b base at = BlockSame b base at 4 × BlockSame b base (at + 4) 4

-- what holds of each two bits and each of four places
sixteen : (P : ℕ → ℕ → ℕ → Type 0) → ((k : ℕ) → k < 4 → P 0 0 k) → ((k : ℕ) → k < 4 → P 0 1 k) → ((k : ℕ) → k < 4 → P 1 0 k) → ((k : ℕ) → k < 4 → P 1 1 k)
    → (v w k : ℕ) → v < 2 → w < 2 → k < 4 → P v w k
sixteen P a b c d zero zero k hv hw = a k
sixteen P a b c d zero (suc zero) k hv hw = b k
sixteen P a b c d zero (suc (suc w)) k hv hw = absurd (omega arith)
sixteen P a b c d (suc zero) zero k hv hw = c k
sixteen P a b c d (suc zero) (suc zero) k hv hw = d k
sixteen P a b c d (suc zero) (suc (suc w)) k hv hw = absurd (omega arith)
sixteen P a b c d (suc (suc v)) w k hv hw = absurd (omega arith)

four : (P : ℕ → Type 0) → P 0 → P 1 → P 2 → P 3 → (k : ℕ) → k < 4 → P k
four P a b c d zero l = a
four P a b c d (suc zero) l = b
four P a b c d (suc (suc zero)) l = c
four P a b c d (suc (suc (suc zero))) l = d
four P a b c d (suc (suc (suc (suc k)))) l = absurd (omega arith)

half_high : (v w k : ℕ) → v < 2 → w < 2 → k < 4 → bit_of (240 * v + 15 * w) (7 - k) ≡ v
unfolding bit_of
half_high = sixteen (λ v w k. bit_of (240 * v + 15 * w) (7 - k) ≡ v) (four _ refl refl refl refl) (four _ refl refl refl refl) (four _ refl refl refl refl) (four _ refl refl refl refl)

half_low : (v w k : ℕ) → v < 2 → w < 2 → k < 4 → bit_of (240 * v + 15 * w) (3 - k) ≡ w
unfolding bit_of
half_low = sixteen (λ v w k. bit_of (240 * v + 15 * w) (3 - k) ≡ w) (four _ refl refl refl refl) (four _ refl refl refl refl) (four _ refl refl refl refl) (four _ refl refl refl refl)

module _ (b : List ℕ) (base at x : ℕ) (whole : at % 8 ≡ 0) (is : x ≡ get_or b (base + at / 8) 0) (small : x < 256) where
  bits : (k : ℕ) → k < 8 → bit_at b base (at + k) ≡ bit_of x (7 - k)
  unfolding bit_at
  bits k l =
      let e : (at + k) / 8 ≡ at / 8 = omega arith in
      let f : (at + k) % 8 ≡ k = omega arith in
      rw (e, f, is)

  first : bit_at b base at ≡ x / 128
  unfolding bit_of
  first = ap (bit_at b base) (sym (add-zero at)) ∙ bits 0 (omega arith) ∙ (let e : x / 128 % 2 ≡ x / 128 = omega arith in e)

  fifth : bit_at b base (at + 4) ≡ x / 8 % 2
  unfolding bit_of
  fifth = bits 4 (omega arith)

  two_to : 240 * (x / 128) + 15 * (x / 8 % 2) ≡ x → Two b base at
  two_to e = (
    λ k l. bits k (omega arith) ∙ ap (λ (y : ℕ). bit_of y (7 - k)) (sym e) ∙ half_high (x / 128) (x / 8 % 2) k (omega arith) (omega arith) l ∙ sym first,
    λ k l. (let q : at + 4 + k ≡ at + (4 + k) = omega arith in let d : 7 - (4 + k) ≡ 3 - k = omega arith in
        ap (bit_at b base) q ∙ bits (4 + k) (omega arith) ∙ ap (bit_of x) d ∙ ap (λ (y : ℕ). bit_of y (3 - k)) (sym e) ∙ half_low (x / 128) (x / 8 % 2) k (omega arith) (omega arith) l ∙ sym fifth),
  )

  two_from : Two b base at → 240 * (x / 128) + 15 * (x / 8 % 2) ≡ x
  two_from h = byte_same (240 * (x / 128) + 15 * (x / 8 % 2)) x (omega arith) small (λ k l. elim (dec_lt k 4) [ yes lo ↦ low k lo | no hi ↦ high k l (omega arith) ])
    where
      low : (k : ℕ) → k < 4 → bit_of (240 * (x / 128) + 15 * (x / 8 % 2)) k ≡ bit_of x k
      low k l =
          let e : 3 - (3 - k) ≡ k = omega arith in
          let d : 7 - (4 + (3 - k)) ≡ k = omega arith in
          let q : at + 4 + (3 - k) ≡ at + (4 + (3 - k)) = omega arith in
          rw e at (half_low (x / 128) (x / 8 % 2) (3 - k) (omega arith) (omega arith) (omega arith)) ∙ sym fifth ∙ sym (h.1 (3 - k) (omega arith)) ∙ ap (bit_at b base) q ∙ bits (4 + (3 - k)) (omega arith) ∙ ap (bit_of x) d

      high : (k : ℕ) → k < 8 → 4 ≤ k → bit_of (240 * (x / 128) + 15 * (x / 8 % 2)) k ≡ bit_of x k
      high k l g =
          let e : 7 - (7 - k) ≡ k = omega arith in
          rw e at (half_high (x / 128) (x / 8 % 2) (7 - k) (omega arith) (omega arith) (omega arith)) ∙ sym first ∙ sym (h.0 (7 - k) (omega arith)) ∙ bits (7 - k) (omega arith) ∙ ap (bit_of x) e

  pub two_says : Says (eqb (240 * (x / 128) + 15 * (x / 8 % 2)) x) (Two b base at)
  two_says = says_eq _ x two_to two_from

-- ---- a zone's blocks of four, a byte at a time

-- each of the zone's bytes is of two whole blocks
pub fours_each : (b : List ℕ) (base from : ℕ) (r : Bool) → Says r (Each (λ i. Two b base (from + 8 * i)) 0 128) → Says r (Whole (bit_at b base) from 4)
fours_each b base from r = says_map r whole each
  where
    whole : Each (λ i. Two b base (from + 8 * i)) 0 128 → Whole (bit_at b base) from 4
    whole h k l = elim (dec_lt (k % 2) 1) [ yes e ↦ even (omega arith) | no o ↦ odd (omega arith) ]
      where
        even : k % 2 ≡ 0 → BlockSame b base (from + k * 4) 4
        even e = let p : from + 8 * (k / 2) ≡ from + k * 4 = omega arith in rw p at (h (k / 2) (omega arith) (omega arith)).0

        odd : k % 2 ≡ 1 → BlockSame b base (from + k * 4) 4
        odd e = let p : from + 8 * (k / 2) + 4 ≡ from + k * 4 = omega arith in rw p at (h (k / 2) (omega arith) (omega arith)).1

    each : Whole (bit_at b base) from 4 → Each (λ i. Two b base (from + 8 * i)) 0 128
    each w i l lo =
        let p : from + i * 2 * 4 ≡ from + 8 * i = omega arith in
        let q : from + (i * 2 + 1) * 4 ≡ from + 8 * i + 4 = omega arith in
        (rw p at (w (i * 2) (omega arith)), rw q at (w (i * 2 + 1) (omega arith)))

-- block by block
pub blocks_each : (b : List ℕ) (base from size : ℕ) (r : Bool) → Says r (Each (λ i. BlockSame b base (from + i * size) size) 0 (1024 / size)) → Says r (Whole (bit_at b base) from size)
blocks_each b base from size r = says_map r (λ h k l. h k l (omega arith)) (λ h k l lo. h k l)

-- R3 of a zone whose blocks of `size` sectors are tested and whose set bits are n
module _ (p : Places) (b : List ℕ) (z from size free : ℕ) (first : from ≡ first_of z) where
  pub count_says : (n : ℕ) → Block size → Whole (bit_at b p.sectortable) from size → n ≡ count_bits b p.sectortable from 1024
      → Says (eqb ((1024 - n) / size) free) (Blocks (sector_at p b) (first_of z) size free)
  unfolding count_bits
  count_says n k w h =
      let c = clear_blocks_lem (sector_at p b) from size (bit_at_lt b p.sectortable) k w in
      let q : (1024 - n) / size ≡ sum_to (1024 / size) (λ k. 1 - sector_at p b (from + k * size)) = div-eq_of_eq-mul_left k.some (omega arith) in
      rw first at (says_eq {P = Blocks (sector_at p b) from size free} _ free (λ d. record { whole = w; number = sym q ∙ d }) (λ d. q ∙ d.number))
