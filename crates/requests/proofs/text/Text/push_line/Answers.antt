use Rattle.std.proofs.Common.{arith, length-append}
use mathlib.Core.List.{append_assoc}
use Rattle.requests.specs.Text.{line_of}
use Rattle.requests.proofs.TextLaws.{line_length}
use Rattle.requests.proofs.text.Text.push_line.Goals as goal

pub push_text-requires : goal.push_text-requires
push_text-requires c = grind (arith, line_length)

pub push_number-requires : goal.push_number-requires
push_number-requires c = grind (arith, line_length, length-append)

pub push_text-requires-2 : goal.push_text-requires-2
push_text-requires-2 c = grind (arith, line_length, length-append)

pub returns : goal.returns
unfolding line_of
returns c = rw (c.push_text-2.ensures, c.push_number.ensures, c.push_text.ensures) (simp append_assoc)
