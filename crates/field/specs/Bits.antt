-- One bit a sector: "sector n in byte n/8, lowest n at the highest bit". The table of bits begins at byte base.
use Rattle.std.specs.Prelude.{ℕ, ◌+◌, ◌-◌, ◌*◌, ◌/◌, ◌%◌, ◌^◌, List, get_or, set}

-- the bit of weight 2 ^ k of x
unfoldable pub bit_of : ℕ → ℕ → ℕ
bit_of x k = x / 2 ^ k % 2

-- x with v for that bit: what stands above it, v, what stands below it
unfoldable pub with_bit : ℕ → ℕ → ℕ → ℕ
with_bit x k v = x / (2 ^ k * 2) * (2 ^ k * 2) + v * 2 ^ k + x % 2 ^ k

-- bit n of the table
unfoldable pub bit_at : List ℕ → ℕ → ℕ → ℕ
unfolding bit_of
bit_at b base n = bit_of (get_or b (base + n / 8) 0) (7 - n % 8)

-- the list with v for bit n of the table
unfoldable pub put_bit : List ℕ → ℕ → ℕ → ℕ → List ℕ
unfolding with_bit
put_bit b base n v = set b (base + n / 8) (with_bit (get_or b (base + n / 8) 0) (7 - n % 8) v)
