-- R3 "In zones of type 3-8 each block is wholly set or wholly clear, and the free count is the number of clear blocks." Of type 2 too, with
-- blocks of one sector: "Zone type 2 (B) becomes lawful, free field = free sectors" (W1).
use Rattle.std.specs.Prelude.{◌≡◌, ℕ, ◌+◌, ◌-◌, ◌*◌, ◌/◌}
use Rattle.field.specs.Sum.{sum_to}
use Rattle.tables.specs.Kinds.{first_of}
use Rattle.tables.specs.Blocks.{ZoneType, block_of, Whole}
use Rattle.tables.specs.Each.{Each}
use Rattle.tables.specs.Views.{View}

-- "the number of clear blocks": of the blocks of `size` sectors from `from` on, by their first sectors' bits
abbrev pub clear_blocks : (ℕ → ℕ) → ℕ → ℕ → ℕ
clear_blocks bit from size = sum_to (1024 / size) (λ k. 1 - bit (from + k * size))

-- a zone that starts at sector `from`, with blocks of `size` sectors of which `free` are clear
pub record Blocks (bit : ℕ → ℕ) (from size free : ℕ) : Type 0 where
  pub whole : Whole bit from size
  pub number : clear_blocks bit from size ≡ free

-- zone z, if it is of type 2-8
abbrev pub BlockLaw : View → ℕ → Type 0
BlockLaw v z = ZoneType (v.zone z).ztype → Blocks v.bit (first_of z) (block_of (v.zone z).ztype) (v.zone z).free

abbrev pub R3 : View → Type 0
R3 v = Each (BlockLaw v) 2 v.zones
