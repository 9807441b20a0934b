-- Numbers in a list of bytes, most significant byte first: readers and writers. A signed field is read as the unsigned number of its bits.
use Rattle.std.specs.Prelude.{ℕ, ◌+◌, ◌*◌, ◌/◌, ◌%◌, List, get_or, set}

-- the number of the two bytes from o on
unfoldable pub u16_at : List ℕ → ℕ → ℕ
u16_at b o = get_or b o 0 * 256 + get_or b (o + 1) 0

-- the number of the four bytes from o on
unfoldable pub u32_at : List ℕ → ℕ → ℕ
u32_at b o = get_or b o 0 * 16777216 + get_or b (o + 1) 0 * 65536 + get_or b (o + 2) 0 * 256 + get_or b (o + 3) 0

-- v written as two bytes from o on
unfoldable pub put_u16 : List ℕ → ℕ → ℕ → List ℕ
put_u16 b o v = set (set b o (v / 256)) (o + 1) (v % 256)

-- v written as four bytes from o on
unfoldable pub put_u32 : List ℕ → ℕ → ℕ → List ℕ
put_u32 b o v = set (set (set (set b o (v / 16777216)) (o + 1) (v / 65536 % 256)) (o + 2) (v / 256 % 256)) (o + 3) (v % 256)
