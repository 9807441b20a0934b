-- "Sector table: one bit a sector, 1 = in use, sector n in byte n/8, lowest n at the highest bit (HOUSE)."
use Rattle.std.specs.Prelude.{ℕ, List}
use Rattle.field.specs.Bits.{bit_at}
use Rattle.field.specs.Runs.{set_bits}
use Rattle.tables.specs.declared.places.Places.{Places}

-- sector n's bit
abbrev pub sector_at : Places → List ℕ → ℕ → ℕ
sector_at p b n = bit_at b p.sectortable n

-- the books with v for the bits of the n sectors from s on
abbrev pub put_sectors : Places → List ℕ → ℕ → ℕ → ℕ → List ℕ
put_sectors p b s n v = set_bits b p.sectortable s n v
