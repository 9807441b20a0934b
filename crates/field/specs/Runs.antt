-- Runs of bits: those numbered from .. from + count - 1.
use Rattle.std.specs.Prelude.{◌≡◌, ◌⊎◌, ℕ, zero, suc, ◌+◌, ◌*◌, ◌%◌, ◌≤◌, ◌<◌, List}
use Rattle.field.specs.Bits.{bit_at, put_bit}
use Rattle.field.specs.Sum.{sum_to}

-- the run stands within len bytes, counted from byte base, and ends within 256 zones of 1,024 sectors
pub record Room (len base from count : ℕ) : Type 0 where
  pub most : from + count ≤ 262144
  pub within : base * 8 + from + count ≤ len * 8

-- w bits from `at` on are worked on at once: one, or a whole byte's
pub record Width (at w : ℕ) : Type 0 where
  pub some : 0 < w
  pub is : (w ≡ 1) ⊎ ((w ≡ 8) × (at % 8 ≡ 0))

-- so many of the bits that are left
pub record Step (at left w : ℕ) : Type 0 where
  pub few : w ≤ left
  pub width : Width at w

-- each bit of the run is v
abbrev pub AllBits : List ℕ → ℕ → ℕ → ℕ → ℕ → Type 0
AllBits b base from count v = (k : ℕ) → k < count → bit_at b base (from + k) ≡ v

-- r of the bits that are left from `at` on are set and may be passed over at once; none only where bit `at` is clear
pub record SetAhead (b : List ℕ) (base at left r : ℕ) : Type 0 where
  pub few : r ≤ left
  pub set : AllBits b base at r 1
  pub clear : r ≡ 0 → bit_at b base at ≡ 0

-- the list with v for each bit of the run
unfoldable pub set_bits : List ℕ → ℕ → ℕ → ℕ → ℕ → List ℕ
set_bits b base from zero v = b
set_bits b base from (suc k) v = put_bit (set_bits b base from k v) base (from + k) v

-- how many bits of the run are set
unfoldable pub count_bits : List ℕ → ℕ → ℕ → ℕ → ℕ
count_bits b base from count = sum_to count (λ k. bit_at b base (from + k))
