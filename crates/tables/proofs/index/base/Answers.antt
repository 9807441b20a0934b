use Rattle.tables.proofs.IndexLaws.{base_parent, base_child}
use native.Mathlib.Omega.{arith}
use mathlib.Core.Path.{sym}
use borrow.Author.Rules.{rules}
use Rattle.tables.proofs.index.base.Goals as goal

pub returns-then-first_word-i : goal.returns-then-first_word-i
returns-then-first_word-i c = let a = c.args in (sym (base_parent a.i.0 a.t.now (omega arith)), search rules)

pub returns : goal.returns
returns c = let a = c.args in (sym (base_child a.i.0 a.t.now (λ e. c.if-first_word-i.false (omega arith))), search rules)
