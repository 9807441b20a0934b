use Rattle.tables.proofs.IndexLaws.{file_free, file_parent, file_child}
use native.Mathlib.Omega.{arith}
use mathlib.Core.Path.{sym, ◌∙◌}
use Rattle.tables.proofs.index.file.Goals as goal

pub returns-then-word-eq0 : goal.returns-then-word-eq0
returns-then-word-eq0 c = let a = c.args in sym (file_free a.i.0 a.t.now (omega arith))

pub returns-then-word-i : goal.returns-then-word-i
returns-then-word-i c = let a = c.args in sym (file_parent a.i.0 a.t.now (λ e. c.if-word-eq0.false (omega arith)) (omega arith))

pub returns : goal.returns
returns c = let a = c.args in c.parent.ensures ∙ sym (file_child a.i.0 a.t.now (λ e. c.if-word-eq0.false (omega arith)) (λ e. c.if-word-i.false (omega arith)))
