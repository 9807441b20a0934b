use lib.ListN.{length-set}
use Rattle.field.proofs.PartLaws.{copy_more, copy_end}
use lib.Seq.{paste-zero}
use mathlib.Core.Path.{refl}
use borrow.Author.Rules.{rules}
use Rattle.field.proofs.parts.copy.Goals as goal

pub loop-i-init : goal.loop-i-init
loop-i-init c = (paste-zero c.args.s.now c.args.at c.args.t.now, refl)

pub loop-i-preserved : goal.loop-i-preserved
loop-i-preserved c = (copy_more _ _ _ _ _ c.loop-i.invariant.0 (search rules) (search rules), simp length-set c.loop-i.invariant.1)

pub returns : goal.returns
returns c = let a = c.args in copy_end a.s.now a.t.now c.loop-i.s a.at c.loop-i.i c.loop-i.invariant.0 (search rules) (search rules)
