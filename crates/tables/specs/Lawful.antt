-- The nine book rules together.
use Rattle.std.specs.Prelude.{List, ℕ}
use Rattle.tables.specs.declared.places.Places.{Places}
use Rattle.tables.specs.Views.{view_of}
use Rattle.tables.specs.Withheld.{withheld_over}
use Rattle.tables.specs.Rules.R1.{R1}
use Rattle.tables.specs.Rules.R2.{R2}
use Rattle.tables.specs.Rules.R3.{R3}
use Rattle.tables.specs.Rules.R4.{R4}
use Rattle.tables.specs.Rules.R5.{R5}
use Rattle.tables.specs.Rules.R6.{R6}
use Rattle.tables.specs.Rules.R7.{Owned}
use Rattle.tables.specs.Rules.R8.{R8}
use Rattle.tables.specs.Rules.R9.{R9}

-- the books b, whose tables stand at p, break no rule, R7 with `extra` set besides
pub record LawfulWith (extra : ℕ → ℕ) (p : Places) (b : List ℕ) : Type 0 where
  pub r1 : R1 p b
  pub r2 : R2 (view_of p b)
  pub r3 : R3 (view_of p b)
  pub r4 : R4 (view_of p b)
  pub r5 : R5 (view_of p b)
  pub r6 : R6 (view_of p b)
  pub r7 : Owned (view_of p b) extra
  pub r8 : R8 (view_of p b)
  pub r9 : R9 (view_of p b)

-- with the withheld sectors set besides: they break no rule
abbrev pub Lawful : Places → List ℕ → List ℕ → Type 0
Lawful p b withheld = LawfulWith (withheld_over (view_of p b) withheld) p b

-- whatever is set besides: all that reading and writing of tables asks
abbrev pub LawfulSome : Places → List ℕ → Type 0
LawfulSome p b = (extra : ℕ → ℕ) × LawfulWith extra p b
