use Rattle.std.proofs.Common.{rules, arith, length-append}
use mathlib.Core.List.{append_assoc}
use Rattle.requests.specs.Diagnosis.{place_lines}
use Rattle.requests.proofs.DiagnosisLaws.{place_short}
use Rattle.requests.proofs.broken_text.place_text.Goals as goal

pub push_line-requires : goal.push_line-requires
unfolding place_lines
push_line-requires c = let short = place_short c.args.rule c.args.place c.args.kind.now (search rules) (search rules) c.requires in grind (arith, length-append)

pub push_text-requires : goal.push_text-requires
unfolding place_lines
push_text-requires c = let short = place_short c.args.rule c.args.place c.args.kind.now (search rules) (search rules) c.requires in grind (arith, length-append)

pub push_line-requires-2 : goal.push_line-requires-2
unfolding place_lines
push_line-requires-2 c = let short = place_short c.args.rule c.args.place c.args.kind.now (search rules) (search rules) c.requires in grind (arith, length-append)

pub returns : goal.returns
unfolding place_lines
returns c = record {
  text = rw (c.push_line-2.ensures, c.push_text.ensures, c.push_line.ensures, c.new-text.ensures) (simp append_assoc);
  short = place_short c.args.rule c.args.place c.args.kind.now (search rules) (search rules) c.requires;
}
