-- "Counts per zone type. The flag byte of create fixed is -1 or 0 (default: all six), or any sum of 4 (C), 8, 16, 32, 64, 128 (H); others are
-- 7. From the largest chosen type down: quotient by the block's bytes, remainder passed on; at the last chosen type round up."
use Rattle.std.specs.Prelude.{◌≡◌, Option, Some, None, Bool, cond, List, [], ◌∷◌, ℕ, zero, suc, ◌+◌, ◌-◌, ◌*◌, ◌/◌, ◌%◌, ◌^◌, ◌≤◌, eqb, leb, length, ℤ, pos, negsuc}
use Rattle.tables.specs.Blocks.{type_at, block_of}
use Rattle.tables.specs.Rules.R1.{ceil}

-- "0 (default: all six), or any sum of 4 (C), 8, 16, 32, 64, 128 (H)": the sums are the multiples of 4 up to 252, all six weights together
unfoldable pub types_of : ℕ → Option ℕ
types_of n = cond (eqb n 0) (Some 252) (cond (eqb (n % 4) 0) (cond (leb n 252) (Some n) None) None)

-- "The flag byte of create fixed is -1 or 0 (default: all six)": of the numbers below 0 only -1, which is `negsuc 0`
unfoldable pub chosen_types : ℤ → Option ℕ
unfolding types_of
chosen_types (pos n) = types_of n
chosen_types (negsuc n) = cond (eqb n 0) (Some 252) None

-- "4 (C), 8, 16, 32, 64, 128 (H)": the weight of type t
unfoldable pub weight_of : ℕ → ℕ
weight_of t = 2 ^ (t - 1)

-- "the block's bytes", a sector having 1,024
unfoldable pub block_bytes : ℕ → ℕ
unfolding block_of
block_bytes t = 1024 * block_of t

-- type t is chosen: its weight is in the sum
unfoldable pub is_chosen : ℕ → ℕ → Bool
unfolding weight_of
is_chosen flag t = eqb (flag / weight_of t % 2) 1

-- no smaller type is chosen: no smaller weight is in the sum
unfoldable pub none_below : ℕ → ℕ → Bool
unfolding weight_of
none_below flag t = eqb (flag % weight_of t) 0

-- "quotient by the block's bytes", "at the last chosen type round up"; none of a type that is not chosen
unfoldable pub share_count : ℕ → ℕ → ℕ → ℕ
unfolding is_chosen none_below block_bytes
share_count flag t rest = cond (is_chosen flag t) (cond (none_below flag t) (ceil rest (block_bytes t)) (rest / block_bytes t)) 0

-- "remainder passed on"
unfoldable pub share_rest : ℕ → ℕ → ℕ → ℕ
unfolding is_chosen block_bytes
share_rest flag t rest = cond (is_chosen flag t) (rest % block_bytes t) rest

-- "From the largest chosen type down": the counts of the k smallest types for `rest` bytes
unfoldable pub counts_down : ℕ → ℕ → ℕ → List ℕ
unfolding share_count share_rest
counts_down flag rest zero = []
counts_down flag rest (suc k) = share_count flag (type_at k) rest ∷ counts_down flag (share_rest flag (type_at k) rest) k

-- "The six block counts H to C", for a file of `size` bytes
unfoldable pub counts_of : ℕ → ℕ → List ℕ
unfolding counts_down
counts_of flag size = counts_down flag size 6

-- the bytes of the blocks so counted
unfoldable pub supplied_by : List ℕ → ℕ
unfolding block_bytes
supplied_by [] = 0
supplied_by (c ∷ cs) = c * block_bytes (type_at (length cs)) + supplied_by cs

-- what there are counts of: a sum of the six weights, "file size, fixed: 1 to 2,147,483,647"
pub record Countable (flag size : ℕ) : Type 0 where
  pub weights : flag % 4 ≡ 0
  pub some : 4 ≤ flag
  pub six : flag ≤ 252
  pub low : 1 ≤ size
  pub high : size ≤ 2147483647

-- one step: a type's count, and what is passed on
pub record Shared (flag t rest count left : ℕ) : Type 0 where
  pub counted : count ≡ share_count flag t rest
  pub passed : left ≡ share_rest flag t rest
