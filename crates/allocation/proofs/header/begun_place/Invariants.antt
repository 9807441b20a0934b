use Rattle.std.proofs.Common.{ℕ, ◌≡◌, ◌≤◌, ◌<◌, false}
use Rattle.tables.specs.Views.{view_of}
use Rattle.allocation.specs.Headers.{fitting}
use Rattle.allocation.proofs.header.begun_place.Given as goal

abbrev pub invariant-loop-z : goal.invariant-loop-z
invariant-loop-z l = (j : ℕ) → j < l.z → 2 ≤ j → fitting (view_of l.b.places l.b.raw.now) l.n j ≡ false
