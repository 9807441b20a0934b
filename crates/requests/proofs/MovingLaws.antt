-- What read and write share: position, length and buffer judged, and where a file ends.
use mathlib.Core.Path.{ap}
use mathlib.Core.List.{List}
use Prim.Native.Nat.{ℕ, ◌*◌, ◌≤◌}
use native.Mathlib.Omega.{arith}
use Rattle.tables.specs.declared.places.Places.{Places}
use Rattle.tables.specs.Books.{GoodWith}
use Rattle.tables.specs.Indexes.{table_at, length_of}
use Rattle.tables.specs.Rules.R8.{file_sectors, File}
use Rattle.tables.specs.Views.{view_of, Parent}
use Rattle.requests.specs.Moving.{end_of}

-- ---- arguments

-- ---- the end

-- the file as the rules have it
pub file_here : (b : List ℕ) (p : Places) (id : ℕ) {extra : ℕ → ℕ} → GoodWith extra b p → Parent (view_of p b) id → File (view_of p b) id (table_at p b id)
file_here b p id g parent = g.lawful.r8 id (omega (arith, parent.high)) parent.low parent.word

-- the end is within the file's sectors
pub end_within : (b : List ℕ) (p : Places) (id : ℕ) {extra : ℕ → ℕ} → GoodWith extra b p → Parent (view_of p b) id → end_of b id ≤ 1024 * file_sectors (view_of p b) id
end_within b p id g parent = let most = (file_here b p id g parent).most in omega (arith, ap (λ (q : Places). length_of (table_at q b id)) g.places)
