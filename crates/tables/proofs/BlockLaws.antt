-- Blocks: the six sizes once, and what follows for any size that makes up a zone.
use mathlib.Core.Path.{◌≡◌, refl, sym, ap, ◌∙◌, subst}
use mathlib.Core.Bool.{true, false}
use Prim.Native.Nat.{ℕ, zero, suc, ◌+◌, ◌-◌, ◌*◌, ◌/◌, ◌%◌, ◌^◌, ◌≤◌, ◌<◌}
use native.Mathlib.Nat.{mul-le-mul_right, add-mul, add_assoc, zero-mul, one-mul, suc-mul}
use native.Mathlib.Decide.{ℕ_discrete, dec_le}
use native.Mathlib.Omega.{arith}
use lib.Dec.{T, ltb, lit<, lit≤}
use lib.ListN.{get_or}
use borrow.Author.Tests.{le-leb, lt-leb}
use Rattle.field.specs.Sum.{sum_to}
use Rattle.field.proofs.Sums.{sum_zero, sum_one, sum_cut}
use Rattle.tables.specs.Blocks.{ZoneType, is_zone_type, DataType, header_type, block_sizes, block_of, Block, Whole}

-- ---- types of zones

-- a zone may have every type of the zones in which files lie
pub data_zone : {t : ℕ} → DataType t → ZoneType t
data_zone d = record { low = omega (arith, d.low); high = d.high }

pub zone_type : (t : ℕ) → ZoneType t → is_zone_type t ≡ true
unfolding is_zone_type
zone_type t h = rw (le-leb 2 t h.low, le-leb t 8 h.high)

pub no_zone_type : (t : ℕ) → (ZoneType t → ⊥) → is_zone_type t ≡ false
unfolding is_zone_type
no_zone_type t h = elim (dec_le 2 t) [
  | no l ↦ rw (lt-leb 2 t (omega arith))
  | yes l ↦ elim (dec_le t 8) [ yes m ↦ absurd (h (record { low = l; high = m })) | no m ↦ rw (le-leb 2 t l, lt-leb t 8 (omega arith)) ]
]

-- what holds of the types C to H holds of every type in which files lie
pub six : (P : ℕ → Type 0) → P 3 → P 4 → P 5 → P 6 → P 7 → P 8 → (t : ℕ) → DataType t → P t
six P c d e f g h t typed =
    elim (ℕ_discrete t 3) [
      | yes q ↦ subst P (sym q) c
      | no n3 ↦ elim (ℕ_discrete t 4) [
        | yes q ↦ subst P (sym q) d
        | no n4 ↦ elim (ℕ_discrete t 5) [
          | yes q ↦ subst P (sym q) e
          | no n5 ↦ elim (ℕ_discrete t 6) [
            | yes q ↦ subst P (sym q) f
            | no n6 ↦ elim (ℕ_discrete t 7) [
              | yes q ↦ subst P (sym q) g
              | no n7 ↦ (let q : 8 ≡ t = omega arith in subst P q h)
            ]
          ]
        ]
      ]
    ]

-- and with type B of every type that a zone may have
seven : (P : ℕ → Type 0) → P 2 → ((t : ℕ) → DataType t → P t) → (t : ℕ) → ZoneType t → P t
seven P b others t typed = elim (ℕ_discrete t 2) [ yes q ↦ subst P (sym q) b | no ne ↦ others t (record { low = omega (arith, typed.low); high = typed.high }) ]

-- the sizes, by computation
pub block_of_lem : (t : ℕ) → ZoneType t → Block (block_of t)
unfolding block_of
block_of_lem = seven (λ t. Block (block_of t)) (one tt refl) (six (λ t. Block (block_of t)) (one tt refl) (one tt refl) (one tt refl) (one tt refl) (one tt refl) (one tt refl))
  where
    one : {size : ℕ} → T (ltb 0 size) → 1024 / size * size ≡ 1024 → Block size
    one l e = record { some = lit< l; whole = e }

-- no block is empty, whatever the number
pub block_some : (t : ℕ) → 0 < block_of t
unfolding block_of
block_some t = go (t - 2)
  where
    go : (n : ℕ) → 0 < get_or block_sizes n 1
    go zero = lit< tt
    go (suc zero) = lit< tt
    go (suc (suc zero)) = lit< tt
    go (suc (suc (suc zero))) = lit< tt
    go (suc (suc (suc (suc zero)))) = lit< tt
    go (suc (suc (suc (suc (suc zero))))) = lit< tt
    go (suc (suc (suc (suc (suc (suc zero)))))) = lit< tt
    go (suc (suc (suc (suc (suc (suc (suc n))))))) = lit< tt

-- those of files' zones among them
pub data_block : (t : ℕ) → DataType t → Block (block_of t)
data_block t typed = block_of_lem t (data_zone typed)

pub block_few : (t : ℕ) → ZoneType t → block_of t ≤ 1024
unfolding block_of
block_few = seven (λ t. block_of t ≤ 1024) (lit≤ tt) (six (λ t. block_of t ≤ 1024) (lit≤ tt) (lit≤ tt) (lit≤ tt) (lit≤ tt) (lit≤ tt) (lit≤ tt))

-- a header zone's blocks are of one sector
pub header_block : (t : ℕ) → t ≡ header_type → (1 ≡ block_of t) × Block 1
unfolding block_of
header_block t e = rw e (refl, record { some = lit< tt; whole = refl })

-- a block of so many ends before the next begins
pub block_end : (i count size : ℕ) → i < count → i * size + size ≤ count * size
block_end i count size lt = omega (arith, mul-le-mul_right {m = i + 1} {n = count} size (omega arith), add-mul i 1 size, one-mul size)

-- block k ends within the zone
pub block_in : (k size : ℕ) → Block size → k < 1024 / size → k * size + size ≤ 1024
block_in k size b l = omega (arith, block_end k (1024 / size) size l, b.whole)

-- from type C on four times as many sectors from each type to the next, by a shift
pub size_shift : (t : ℕ) → DataType t → ((1 * 2 ^ (2 * (t - 3))) % 2 ^ 32 ≡ block_of t) × Block ((1 * 2 ^ (2 * (t - 3))) % 2 ^ 32)
unfolding block_of
size_shift t typed =
    let e : (1 * 2 ^ (2 * (t - 3))) % 2 ^ 32 ≡ block_of t = six (λ t. (1 * 2 ^ (2 * (t - 3))) % 2 ^ 32 ≡ block_of t) refl refl refl refl refl refl t typed in
    (e, subst Block (sym e) (data_block t typed))

-- ---- clear blocks counted by the bits that are set

-- a block of one bit throughout is all set or all clear
block_sum : (size v : ℕ) (f : ℕ → ℕ) → v < 2 → ((k : ℕ) → k < size → f k ≡ v) → sum_to size f + (1 - v) * size ≡ size
block_sum size zero f l h = omega (arith, sum_zero size f h, one-mul size)
block_sum size (suc zero) f l h = omega (arith, sum_one size f h, zero-mul size)
block_sum size (suc (suc v)) f l h = absurd (omega arith)

module _ (f : ℕ → ℕ) (from size : ℕ) (bit : (n : ℕ) → f n < 2) where
  blocks_sum : (m : ℕ) → ((k : ℕ) → k < m → (j : ℕ) → j < size → f (from + k * size + j) ≡ f (from + k * size))
      → sum_to (m * size) (λ k. f (from + k)) + sum_to m (λ k. 1 - f (from + k * size)) * size ≡ m * size
  unfolding sum_to
  blocks_sum zero h = rw zero-mul (omega (arith, zero-mul size))
  blocks_sum (suc m) h =
      let one = block_sum size (f (from + m * size)) (λ j. f (from + (m * size + j))) (bit _) (λ j l. ap f (sym (add_assoc from (m * size) j)) ∙ h m (omega arith) j l) in
      let cut = sum_cut (m * size) size (λ k. f (from + k)) in
      rw suc-mul (omega (arith, blocks_sum m (λ k l. h k (omega arith)), one, cut, add-mul (sum_to m (λ k. 1 - f (from + k * size))) (1 - f (from + m * size)) size))

  pub clear_blocks_lem : Block size → Whole f from size → sum_to 1024 (λ k. f (from + k)) + sum_to (1024 / size) (λ k. 1 - f (from + k * size)) * size ≡ 1024
  clear_blocks_lem b w = rw b.whole at (blocks_sum (1024 / size) w)
