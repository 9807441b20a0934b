-- A file that has got its blocks: the rules still hold, and so many sectors are its own besides.
use Rattle.std.specs.Prelude.{◌≡◌, List, [], ◌∷◌, ℕ, ◌+◌, ◌<◌, get_or, length}
use Rattle.tables.specs.declared.places.Places.{Places}
use Rattle.tables.specs.Blocks.{block_of}
use Rattle.tables.specs.Views.{view_of}
use Rattle.tables.specs.Withheld.{KeepsTypes}
use Rattle.tables.specs.Rules.R1.{Stand, Tails}
use Rattle.tables.specs.Rules.R8.{file_sectors, InType}
use Rattle.allocation.specs.Growth.{Growth}
use Rattle.allocation.specs.Held.{Held, Ends}

-- the sectors of blocks of these types
unfoldable pub sectors_in : List ℕ → ℕ
sectors_in [] = 0
sectors_in (t ∷ ts) = block_of t + sectors_in ts

-- each of them is t
unfoldable pub AllOf : List ℕ → ℕ → Type 0
AllOf [] t = Unit {0}
AllOf (u ∷ ts) t = (u ≡ t) × AllOf ts t

-- sector 0, sector 1's N, and the tails of rule R1 stay
pub record Quiet (p : Places) (b b' : List ℕ) : Type 0 where
  pub len : length b' ≡ length b
  pub low : (j : ℕ) → j < 1028 → get_or b' j 0 ≡ get_or b j 0
  pub tails : Stand p (length b) → Tails p b → Tails p b'

-- file f has got blocks of these types between the books of g and those of g', with `extra` set besides
pub record Lengthened (extra : ℕ → ℕ) (p : Places) (f : ℕ) (g g' : Growth) (ts : List ℕ) : Type 0 where
  pub held : Held (view_of p g'.books) f extra
  pub ends : Ends (view_of p g'.books) f g'.cursor
  pub sectors : file_sectors (view_of p g'.books) f ≡ file_sectors (view_of p g.books) f + sectors_in ts
  pub front : (o : ℕ) → o < 64 → get_or ((view_of p g'.books).table f) o 0 ≡ get_or ((view_of p g.books).table f) o 0
  pub types : (t : ℕ) → AllOf ts t → InType (view_of p g.books) f t → InType (view_of p g'.books) f t
  pub keeps : KeepsTypes extra (view_of p g.books) (view_of p g'.books)
  pub quiet : Quiet p g.books g'.books
