-- What rule R8 asks of a new file with its blocks. "Names are 1 to 24 non-null bytes, then nulls. Byte length is at most
-- 1,024 × the file's sectors, at least 0, and at least 1 if fixed. A variable file has one zone type. No other attribute weight; not both 32
-- and 64. Both dates valid."
use Rattle.std.specs.Prelude.{◌≡◌, List, ℕ, ◌+◌, ◌*◌, ◌≤◌, ◌<◌, length}
use Rattle.tables.specs.Dates.{Date}
use Rattle.tables.specs.Names.{NewName}
use Rattle.tables.specs.Indexes.{variable_bit, directory_bit, system_bit, deleted_bit}
use Rattle.allocation.specs.Choice.{in_order}
use Rattle.allocation.specs.NewTables.{New}
use Rattle.allocation.specs.Lengthened.{sectors_in, AllOf}

-- a new file n with blocks of these counts; it is active, and has a block, since by R6 "A parent has one at least", a pointer
pub record NewLawful (n : New) (counts : List ℕ) : Type 0 where
  pub name : NewName n.name
  pub date : Date n.date
  pub weights : n.attribute < 128
  pub active : deleted_bit n.attribute ≡ 0
  pub both : directory_bit n.attribute + system_bit n.attribute ≤ 1
  pub least : n.length < 2147483648
  pub most : n.length ≤ 1024 * sectors_in (in_order counts)
  pub fixed : variable_bit n.attribute ≡ 0 → 1 ≤ n.length
  pub variable : variable_bit n.attribute ≡ 1 → (t : ℕ) × AllOf (in_order counts) t
  pub some : 1 ≤ length (in_order counts)
