-- "Space: 1024Z and the number of set bits."
use Rattle.std.specs.Prelude.{◌≡◌, ℕ, ◌*◌, List, Result, Ok, Err, IfOk}
use Rattle.tables.specs.declared.refusal.Refusal.{Refusal}
use Rattle.tables.specs.Refusals.{number_of}
use Rattle.field.specs.Runs.{count_bits}
use Rattle.tables.specs.Sector0.{zones_of}
use Rattle.tables.specs.declared.places.Places.{Places}
use Rattle.tables.specs.Places.{places_of}
use Rattle.tables.specs.Gates.{Gate}
use Rattle.requests.specs.declared.space.Space.{Space}
use Rattle.requests.specs.Answers.{use_tests}

-- the number of set bits of the sector table, where the books' tables stand at p
unfoldable pub used_sectors : Places → List ℕ → ℕ
used_sectors p b = count_bits b p.sectortable 0 (1024 * p.zones)

-- this paper's values of an answer, zeros beside a refusal
abbrev pub sectors_value : Result Space Refusal → ℕ
sectors_value (Ok s) = s.sectors
sectors_value (Err e) = 0

abbrev pub used_value : Result Space Refusal → ℕ
used_value (Ok s) = s.used
used_value (Err e) = 0

-- the two values
abbrev pub space_of : List ℕ → Space
space_of b = record { sectors = 1024 * zones_of b; used = used_sectors (places_of b) b }

-- space's promise
pub record Spaced (b withheld : List ℕ) (r : Result Space Refusal) : Type 0 where
  pub number : Gate (use_tests b withheld) (number_of r)
  pub answer : IfOk r (λ (s : Space). s ≡ space_of b)
