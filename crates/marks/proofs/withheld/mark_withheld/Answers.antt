use Rattle.marks.proofs.WithheldListLaws.{marks_begin, marks_more, marks_end}
use Rattle.marks.proofs.withheld.mark_withheld.Goals as goal

pub loop-s-init : goal.loop-s-init
loop-s-init c = marks_begin _ _ _

pub loop-s-preserved : goal.loop-s-preserved
loop-s-preserved c =
    let run = c.mark_run in
    let block = c.block_from in
    marks_more _ _ _ _ _ c.loop-s.invariant c.requires.withholds c.requires.marks_are c.loop-s-test.true block.result run.result _ block.ensures.0 block.ensures.1 run.ensures

pub returns : goal.returns
returns c = search marks_end
