use mathlib.Core.Path.{sym, ◌∙◌}
use native.Mathlib.Omega.{arith}
use Rattle.files.proofs.SeekLaws.{slot_few, next_table}
use Rattle.files.proofs.SpotLaws.{run_more}
use Rattle.files.proofs.spot.next_run.Goals as goal

pub overflow_add-result : goal.overflow_add-result
overflow_add-result c = omega (arith, slot_few _ _ c.requires.on_table)

pub returns-then-more_at : goal.returns-then-more_at
returns-then-more_at c = sym (run_more _ _ (sym c.more_at.ensures ∙ c.if-more_at.true))

pub returns : goal.returns
returns c = search next_table
