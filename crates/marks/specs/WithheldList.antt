-- The withheld list as it is gone through.
use Rattle.std.specs.Prelude.{◌≡◌, List, ℕ, suc, ◌<◌, get_or}
use Rattle.field.specs.Sum.{sum_to}
use Rattle.tables.specs.Views.{View, cov}
use Rattle.tables.specs.Withheld.{block_at, StartsBlock}

-- what is asked of the k-th sector: it is above the one before, and starts a block
pub record InList (v : View) (withheld : List ℕ) (k : ℕ) : Type 0 where
  pub above : (j : ℕ) → suc j ≡ k → get_or withheld j 0 < get_or withheld k 0
  pub starts : StartsBlock v (get_or withheld k 0)

-- how many of the first n withheld blocks lie over sector s
unfoldable pub first_withheld : View → List ℕ → ℕ → ℕ → ℕ
first_withheld v withheld n s = sum_to n (λ k. cov (get_or withheld k 0) (block_at v (get_or withheld k 0)) s)
