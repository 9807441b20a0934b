-- What numbers 1 to 4 ask of the books, and 7 of the withheld list, before any request.
use Rattle.std.specs.Prelude.{◌≡◌, ℕ, ◌%◌, ◌≤◌, List, [], ◌∷◌, ◌++◌, length}
use Rattle.tables.specs.Sector0.{mark_of, version_of, zones_of, sectors_per_zone_of, bytes_per_sector_of, index_size_of}
use Rattle.tables.specs.Sector1.{indexes_of}
use Rattle.tables.specs.declared.places.Places.{Places}
use Rattle.tables.specs.Gates.{Test, asks}
use Rattle.tables.specs.Places.{places_of, Layout}
use Rattle.tables.specs.Rules.R1.{Stand}
use Rattle.tables.specs.Views.{view_of}
use Rattle.tables.specs.Withheld.{Withholds, withheld_over}
use Rattle.tables.specs.Lawful.{LawfulWith, Lawful}

-- 1 "books not S × 1,024 bytes, S allowed", 5 to 1,024
pub record Sized (b : List ℕ) : Type 0 where
  pub whole : length b % 1024 ≡ 0
  pub least : 5120 ≤ length b
  pub most : length b ≤ 1048576

-- 2 "wrong mark or version": 49 53 26 43 hex and "01.0"
pub record Marked (b : List ℕ) : Type 0 where
  pub mark : mark_of b ≡ 0x49532643
  pub version : version_of b ≡ 0x30312e30

-- 3 "Z, N, 1024, 1024, 128 not as above, or R1's table places fail"
pub record Limits (b : List ℕ) : Type 0 where
  pub least : 3 ≤ zones_of b
  pub most : zones_of b ≤ 256
  pub some : 1 ≤ indexes_of b
  pub few : indexes_of b ≤ 4096
  pub zone : sectors_per_zone_of b ≡ 1024
  pub sector : bytes_per_sector_of b ≡ 1024
  pub index : index_size_of b ≡ 128

pub record Placed (b : List ℕ) : Type 0 where
  pub limits : Limits b
  pub stand : Stand (places_of b) (length b)

-- numbers 1 to 3 in the paper's order: whether there are tables to examine
abbrev pub place_tests : List ℕ → List Test
place_tests b = asks 1 (Sized b) ∷ asks 2 (Marked b) ∷ asks 3 (Placed b) ∷ []

-- then 7 for the withheld list, "examined between 3 and 4" (W7)
abbrev pub withheld_tests : List ℕ → List ℕ → List Test
withheld_tests b withheld = place_tests b ++ (asks 7 (Withholds (view_of (places_of b) b) withheld) ∷ [])

-- then 4 "another rule broken"
abbrev pub book_tests : List ℕ → List ℕ → List Test
book_tests b withheld = withheld_tests b withheld ++ (asks 4 (Lawful (places_of b) b withheld) ∷ [])

-- books that numbers 1 to 4 do not refuse, with their places, R7 with `extra` set besides
pub record GoodWith (extra : ℕ → ℕ) (b : List ℕ) (p : Places) : Type 0 where
  pub places : p ≡ places_of b
  pub sized : Sized b
  pub marked : Marked b
  pub placed : Placed b
  pub layout : Layout p (length b)
  pub lawful : LawfulWith extra p b

-- books and a withheld list that none of these tests refuses
pub record Good (b withheld : List ℕ) (p : Places) : Type 0 where
  pub list : Withholds (view_of p b) withheld
  pub books : GoodWith (withheld_over (view_of p b) withheld) b p

-- good books, whatever is set besides
abbrev pub GoodSome : List ℕ → Places → Type 0
GoodSome b p = (extra : ℕ → ℕ) × GoodWith extra b p
