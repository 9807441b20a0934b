use native.Mathlib.Omega.{arith}
use Rattle.requests.proofs.FixedLaws.{cell_hit, cell_more, cell_end}
use borrow.Author.Rules.{rules}
use Rattle.requests.proofs.create_variable.type_with.Goals as goal

pub returns-then-block_sectors-n : goal.returns-then-block_sectors-n
returns-then-block_sectors-n c = (search (cell_hit, rules), record { low = omega arith; high = omega arith })

pub loop-t-preserved : goal.loop-t-preserved
loop-t-preserved c = search (cell_more, rules)

pub returns : goal.returns
returns c = (cell_end _ c.loop-t.t (omega arith) c.loop-t.invariant (omega arith) (omega arith), tt)
