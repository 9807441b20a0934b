use Rattle.std.proofs.Common.{rules, refl, arith, ap, length}
use Rattle.requests.specs.Report.{refused_line}
use Rattle.requests.proofs.ReportLaws.{refused_short}
use Rattle.requests.proofs.text.refused_text.Goals as goal

pub push_line-requires : goal.push_line-requires
unfolding refused_line
push_line-requires c = omega (arith, ap length c.new-text.ensures, refused_short c.number.result (search rules))

pub returns : goal.returns
unfolding refused_line
returns c = rw (c.push_line.ensures, c.new-text.ensures, ← c.number.ensures.0) refl
