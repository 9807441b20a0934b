-- R9 "Sector 1's counts are true; system and directory counts take active files only. The flag is 0 or 1."
use Rattle.std.specs.Prelude.{◌≡◌, ℕ, ◌-◌, ◌≤◌, List, eqb}
use Rattle.tables.specs.Indexes.{word_of, attribute_of, deleted_bit, directory_bit, system_bit}
use Rattle.tables.specs.Views.{View, only_if, tally}

-- what index i, whose bytes are t, adds to each count: 1 or 0
unfoldable pub free_one : ℕ → List ℕ → ℕ
free_one i t = only_if (eqb (word_of t) 0) 1

unfoldable pub active_one : ℕ → List ℕ → ℕ
active_one i t = only_if (eqb (word_of t) i) (1 - deleted_bit (attribute_of t))

unfoldable pub deleted_one : ℕ → List ℕ → ℕ
deleted_one i t = only_if (eqb (word_of t) i) (deleted_bit (attribute_of t))

unfoldable pub system_one : ℕ → List ℕ → ℕ
system_one i t = only_if (eqb (active_one i t) 1) (system_bit (attribute_of t))

unfoldable pub directory_one : ℕ → List ℕ → ℕ
directory_one i t = only_if (eqb (active_one i t) 1) (directory_bit (attribute_of t))

pub record R9 (v : View) : Type 0 where
  pub active : v.active ≡ tally v active_one
  pub deleted : v.deleted ≡ tally v deleted_one
  pub free : v.free ≡ tally v free_one
  pub system : v.system ≡ tally v system_one
  pub directory : v.directory ≡ tally v directory_one
  pub flag : v.flag ≤ 1
