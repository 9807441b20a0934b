-- What read and write share. "The end is the byte length rounded up to 1,024. Position negative or no multiple of 1,024, or wanted length
-- negative: 7. The wanted length is rounded down to a multiple of 1,024; a shorter output buffer gives 7." "Write judges position, length and
-- input buffer by the same 7s."
use Rattle.std.specs.Prelude.{◌≡◌, List, ℕ, ◌*◌, ◌/◌, ◌%◌, ◌≤◌, Option}
use Rattle.tables.specs.Indexes.{length_of}
use Rattle.tables.specs.Rules.R1.{ceil}
use Rattle.requests.specs.Amounts.{amount_value, SignedAmount}
use Rattle.requests.specs.Named.{file_bytes}

-- "rounded down to a multiple of 1,024"
abbrev pub whole_sectors : ℕ → ℕ
whole_sectors n = n / 1024 * 1024

-- "the end is the byte length rounded up to 1,024"
abbrev pub end_of : List ℕ → ℕ → ℕ
end_of b id = 1024 * ceil (length_of (file_bytes b id)) 1024

-- what read and write ask of position, wanted length and buffer
pub record MoveAllowed (position long : Option ℕ) (room : ℕ) : Type 0 where
  pub position' : SignedAmount position
  pub sector : amount_value position % 1024 ≡ 0
  pub long' : SignedAmount long
  pub buffer : whole_sectors (amount_value long) ≤ room
