use Rattle.std.proofs.Common.{◌≡◌, arith, length, length-append}
use mathlib.Core.Path.{ap}
use mathlib.Core.List.{append_assoc}
use Rattle.requests.specs.Report.{lines_of}
use Rattle.requests.proofs.ReportLaws.{lines_short}
use Rattle.requests.proofs.report.figures_text.Goals as goal

pub push_sizes-requires : goal.push_sizes-requires
unfolding lines_of
push_sizes-requires c = let short = lines_short c.args.f c.requires in grind (arith, length-append)

pub push_files-requires : goal.push_files-requires
unfolding lines_of
push_files-requires c = let short = lines_short c.args.f c.requires in grind (arith, length-append)

pub push_state-requires : goal.push_state-requires
unfolding lines_of
push_state-requires c = let short = lines_short c.args.f c.requires in grind (arith, length-append)

pub returns : goal.returns
unfolding lines_of
returns c =
    let text : c.push_state.new.text ≡ lines_of c.args.f = rw (c.push_state.ensures, c.push_files.ensures, c.push_sizes.ensures, c.new-text.ensures) (simp append_assoc) in
    (text, omega (arith, ap length text, lines_short c.args.f c.requires))
