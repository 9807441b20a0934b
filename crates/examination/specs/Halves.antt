-- The rules in the two halves in which they are examined, before and after R6.
use Rattle.std.specs.Prelude.{List, ℕ}
use Rattle.tables.specs.declared.places.Places.{Places}
use Rattle.tables.specs.Views.{view_of}
use Rattle.tables.specs.Rules.R1.{Tails}
use Rattle.tables.specs.Rules.R2.{R2}
use Rattle.tables.specs.Rules.R3.{R3}
use Rattle.tables.specs.Rules.R4.{R4}
use Rattle.tables.specs.Rules.R5.{R5}
use Rattle.tables.specs.Rules.R7.{R7}
use Rattle.tables.specs.Rules.R8.{R8}
use Rattle.tables.specs.Rules.R9.{R9}

-- R1's tails and R2 to R5
pub record TablesHold (p : Places) (b : List ℕ) : Type 0 where
  pub tails : Tails p b
  pub r2 : R2 (view_of p b)
  pub r3 : R3 (view_of p b)
  pub r4 : R4 (view_of p b)
  pub r5 : R5 (view_of p b)

-- R7 to R9, with these blocks withheld
pub record FilesHold (p : Places) (b withheld : List ℕ) : Type 0 where
  pub r7 : R7 (view_of p b) withheld
  pub r8 : R8 (view_of p b)
  pub r9 : R9 (view_of p b)
