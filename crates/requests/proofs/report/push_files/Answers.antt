use Rattle.std.proofs.Common.{arith, length-append}
use mathlib.Core.List.{append_assoc}
use Rattle.requests.specs.Report.{file_lines}
use Rattle.requests.proofs.report.push_files.Goals as goal

pub push_line-requires : goal.push_line-requires
unfolding file_lines
push_line-requires c = grind (arith, length-append)

pub push_line-requires-2 : goal.push_line-requires-2
unfolding file_lines
push_line-requires-2 c = grind (arith, length-append)

pub push_line-requires-3 : goal.push_line-requires-3
unfolding file_lines
push_line-requires-3 c = grind (arith, length-append)

pub push_line-requires-4 : goal.push_line-requires-4
unfolding file_lines
push_line-requires-4 c = grind (arith, length-append)

pub returns : goal.returns
unfolding file_lines
returns c = rw (c.push_line-4.ensures, c.push_line-3.ensures, c.push_line-2.ensures, c.push_line.ensures) (simp append_assoc)
