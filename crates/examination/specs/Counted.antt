-- Sector 1's counts while they are made anew, table by table.
use Rattle.std.specs.Prelude.{◌≡◌, ℕ, ◌+◌, ◌≤◌, List}
use Rattle.field.specs.Sum.{sum_to}
use Rattle.examination.specs.declared.counts.Counts.{Counts}
use Rattle.tables.specs.Views.{View, tally}
use Rattle.tables.specs.Rules.R9.{active_one, deleted_one, free_one, system_one, directory_one}

-- each count is at most m: a table adds at most 1 to each
pub record Few (c : Counts) (m : ℕ) : Type 0 where
  pub active : c.active ≤ m
  pub deleted : c.deleted ≤ m
  pub free : c.free ≤ m
  pub system : c.system ≤ m
  pub directory : c.directory ≤ m

-- r is c and what index i, whose bytes are t, adds to each count
pub record CountsAdded (c : Counts) (i : ℕ) (t : List ℕ) (r : Counts) : Type 0 where
  pub active : r.active ≡ c.active + active_one i t
  pub deleted : r.deleted ≡ c.deleted + deleted_one i t
  pub free : r.free ≡ c.free + free_one i t
  pub system : r.system ≡ c.system + system_one i t
  pub directory : r.directory ≡ c.directory + directory_one i t

-- the counts of the first k tables
pub record Counted (v : View) (k : ℕ) (c : Counts) : Type 0 where
  pub active : c.active ≡ sum_to k (λ n. active_one (n + 1) (v.table (n + 1)))
  pub deleted : c.deleted ≡ sum_to k (λ n. deleted_one (n + 1) (v.table (n + 1)))
  pub free : c.free ≡ sum_to k (λ n. free_one (n + 1) (v.table (n + 1)))
  pub system : c.system ≡ sum_to k (λ n. system_one (n + 1) (v.table (n + 1)))
  pub directory : c.directory ≡ sum_to k (λ n. directory_one (n + 1) (v.table (n + 1)))

-- the counts of all tables
pub record Tallied (v : View) (c : Counts) : Type 0 where
  pub active : c.active ≡ tally v active_one
  pub deleted : c.deleted ≡ tally v deleted_one
  pub free : c.free ≡ tally v free_one
  pub system : c.system ≡ tally v system_one
  pub directory : c.directory ≡ tally v directory_one
