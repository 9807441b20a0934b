-- A way to add blocks in turn, laid for a file or only planned, and what makes the loop go on whatever is done with each block.
use Rattle.std.specs.Prelude.{◌≡◌, List, ◌∷◌, ◌++◌, ℕ, length}
use Rattle.tables.specs.declared.places.Places.{Places}
use Rattle.tables.specs.Blocks.{DataType}
use Rattle.tables.specs.Places.{Layout}
use Rattle.tables.specs.Rules.R3.{R3}
use Rattle.tables.specs.Views.{view_of}
use Rattle.allocation.specs.declared.choice.Choice.{Choice}
use Rattle.allocation.specs.declared.choice.Found.{Found}
use Rattle.allocation.specs.Candidates.{Behind, Chooses}
use Rattle.allocation.specs.Choice.{choose}
use Rattle.allocation.specs.Growth.{Growth}

-- `ready` is asked of blocks yet to be added, `able` of the block chosen, `added` says what becomes of it, and `step` is the whole step
pub record WayLaws (ready : Places → ℕ → Growth → List ℕ → Type 0) (able : Places → ℕ → Found → Growth → Type 0) (added : Places → ℕ → ℕ → Found → Growth → Growth)
    (step : Places → ℕ → ℕ → Growth → Growth) : Type 0 where
  -- a step adds the block that is chosen
  pub is : (p : Places) (f t : ℕ) (g : Growth) → step p f t g ≡ added p f t (choose (view_of p g.books) g.cursor.tail t) g
  -- what is asked lets a block be chosen
  pub layout : (p : Places) (f : ℕ) (g : Growth) (ts : List ℕ) → ready p f g ts → Layout p (length g.books)
  pub r3 : (p : Places) (f : ℕ) (g : Growth) (ts : List ℕ) → ready p f g ts → R3 (view_of p g.books)
  pub typed : (p : Places) (f : ℕ) (g : Growth) (t : ℕ) (ts : List ℕ) → ready p f g (t ∷ ts) → DataType t
  -- the block chosen can be added, and the others after it
  pub can : (p : Places) (f : ℕ) (g : Growth) (t : ℕ) (ts : List ℕ) → ready p f g (t ∷ ts) → able p t (choose (view_of p g.books) g.cursor.tail t) g
  pub onward : (p : Places) (f : ℕ) (g : Growth) (t : ℕ) (ts : List ℕ) → ready p f g (t ∷ ts) → ready p f (step p f t g) ts
  -- the search goes on from where it was
  pub behind : (p : Places) (f : ℕ) (g : Growth) (t : ℕ) (ts : List ℕ) → ready p f g (t ∷ ts) → (r : Choice) → Chooses (view_of p g.books) g.cursor.tail t r
      → Behind (view_of p (step p f t g).books) t r.from
  -- the first blocks of those asked for can be added
  pub front : (p : Places) (f : ℕ) (g : Growth) (xs ys : List ℕ) → ready p f g (xs ++ ys) → ready p f g xs
