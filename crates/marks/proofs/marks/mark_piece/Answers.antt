use native.Mathlib.Omega.{arith}
use Rattle.marks.proofs.PieceLaws.{piece_order, piece_fits, piece_stop, piece_added}
use mathlib.Core.Path.{refl}
use borrow.Author.Rules.{rules}
use Rattle.marks.proofs.marks.mark_piece.Goals as goal

pub returns-then-rest-met : goal.returns-then-rest-met
returns-then-rest-met c = search piece_stop

pub overflow_sub-m : goal.overflow_sub-m
overflow_sub-m c =
    piece_order c.args.m.now c.args.at.0 c.args.w _ c.requires.in_word refl _ _ c.behind-on.ensures c.behind-rest.ensures

pub overflow_add-m : goal.overflow_add-m
overflow_add-m c =
    omega (arith, piece_fits c.args.m.now c.args.at.0 c.args.w _ c.requires.in_word refl _ _ c.behind-on.ensures c.behind-rest.ensures (search rules) (search rules))

pub returns : goal.returns
returns c = search piece_added
