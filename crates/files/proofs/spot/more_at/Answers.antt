use native.Mathlib.Omega.{arith}
use Rattle.files.proofs.SeekLaws.{slot_few, next_in, more_none, more_some}
use borrow.Author.Rules.{rules}
use Rattle.files.proofs.spot.more_at.Goals as goal

pub overflow_add-j : goal.overflow_add-j
overflow_add-j c = omega (arith, slot_few _ _ c.requires.on_table)

pub returns-then-j-slots : goal.returns-then-j-slots
returns-then-j-slots c = search more_none

pub pointer_at-q-requires : goal.pointer_at-q-requires
pointer_at-q-requires c = record { t_len = search rules; at_bound = search next_in }

pub returns : goal.returns
returns c = search more_some
