use Rattle.std.proofs.Common.{arith, length-append}
use mathlib.Core.List.{append_assoc}
use Rattle.requests.specs.Report.{state_lines}
use Rattle.requests.proofs.report.push_state.Goals as goal

pub push_line-requires : goal.push_line-requires
unfolding state_lines
push_line-requires c = grind (arith, length-append)

pub push_line-requires-2 : goal.push_line-requires-2
unfolding state_lines
push_line-requires-2 c = grind (arith, length-append)

pub push_line-requires-3 : goal.push_line-requires-3
unfolding state_lines
push_line-requires-3 c = grind (arith, length-append)

pub returns : goal.returns
unfolding state_lines
returns c = rw (c.push_line-3.ensures, c.push_line-2.ensures, c.push_line.ensures) (simp append_assoc)
