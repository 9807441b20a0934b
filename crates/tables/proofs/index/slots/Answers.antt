use Rattle.tables.proofs.IndexLaws.{slots_free, slots_parent, slots_child}
use native.Mathlib.Omega.{arith}
use mathlib.Core.Path.{sym}
use borrow.Author.Rules.{rules}
use Rattle.tables.proofs.index.slots.Goals as goal

pub returns-then-word-eq0 : goal.returns-then-word-eq0
returns-then-word-eq0 c = let a = c.args in (sym (slots_free a.i.0 a.t.now (omega arith)), search rules)

pub returns-then-word-i : goal.returns-then-word-i
returns-then-word-i c = let a = c.args in (sym (slots_parent a.i.0 a.t.now (λ e. c.if-word-eq0.false (omega arith)) (omega arith)), search rules)

pub returns : goal.returns
returns c = let a = c.args in (sym (slots_child a.i.0 a.t.now (λ e. c.if-word-eq0.false (omega arith)) (λ e. c.if-word-i.false (omega arith))), search rules)
