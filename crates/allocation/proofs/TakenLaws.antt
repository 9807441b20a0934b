-- A block taken: what the write of its zone's entry and of its sectors' bits changes in the books and in the view, and what it leaves.
use mathlib.Core.Path.{◌≡◌}
use mathlib.Core.List.{List}
use Prim.Native.Nat.{ℕ, ◌+◌, ◌*◌, ◌≤◌, ◌<◌}
use native.Mathlib.Omega.{arith}
use lib.ListN.{get_or, length}
use Rattle.tables.specs.declared.places.Places.{Places}
use Rattle.tables.specs.Blocks.{block_of}
use Rattle.tables.specs.Places.{Layout}
use Rattle.tables.specs.Views.{view_of}
use Rattle.tables.specs.Rules.R1.{Stand, Tails}
use Rattle.allocation.specs.declared.choice.Found.{Found}
use Rattle.allocation.specs.Choice.{block_start, put_block}
use Rattle.allocation.specs.Candidates.{Proper}
use Rattle.allocation.specs.Steps.{Choosable, Taken, SameFiles}
use Rattle.allocation.proofs.FilledLaws.{length_filled, filled_sector0, filled_files, filled_tails, filled_view}
use Rattle.allocation.proofs.NextBlockLaws.{block_high}

module _ (p : Places) (b : List ℕ) (t : ℕ) (k : Found) where
  pub length_put_block : length (put_block p b t k) ≡ length b
  unfolding put_block
  length_put_block = length_filled p b k.zone.0 t k.free (block_start t k) (block_of t)

  module _ (lay : Layout p (length b)) (proper : Proper (view_of p b) t k) where
    within : block_start t k + block_of t ≤ 1024 * p.zones
    within = omega (arith, block_high p b t k proper)

    pub block_sector0 : (j : ℕ) → j < 2048 → get_or (put_block p b t k) j 0 ≡ get_or b j 0
    unfolding put_block
    block_sector0 = filled_sector0 p b k.zone.0 t k.free (block_start t k) (block_of t) lay proper.low proper.high within

    pub block_files : SameFiles (view_of p b) (view_of p (put_block p b t k))
    unfolding put_block
    block_files = filled_files p b k.zone.0 t k.free (block_start t k) (block_of t) lay proper.low proper.high within

  pub block_taken : Layout p (length b) → Choosable (view_of p b) t k → Taken (view_of p b) (view_of p (put_block p b t k)) t k
  unfolding put_block
  block_taken lay c =
      let q = c.proper in
      filled_view p b k.zone.0 t k.free (block_start t k) (block_of t) lay q.low q.high (within lay q) c.clear

  pub block_tails : Stand p (length b) → Layout p (length b) → Proper (view_of p b) t k → Tails p b → Tails p (put_block p b t k)
  unfolding put_block
  block_tails st lay q = filled_tails p b k.zone.0 t k.free (block_start t k) (block_of t) lay q.low q.high (within lay q) st
