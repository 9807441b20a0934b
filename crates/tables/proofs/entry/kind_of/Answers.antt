use mathlib.Core.Path.{◌∙◌}
use Rattle.tables.specs.Entries.{kind_of}
use borrow.Author.Tests.{eq-eqb, ne_eqb}
use Rattle.tables.proofs.entry.kind_of.Goals as goal

pub returns-then-word-eq0 : goal.returns-then-word-eq0
unfolding kind_of
returns-then-word-eq0 c = simp (eq-eqb _ _ c.if-word-eq0.true)

pub returns-then-word-i : goal.returns-then-word-i
unfolding kind_of
returns-then-word-i c = simp (ne_eqb _ _ c.if-word-eq0.false, eq-eqb _ _ c.if-word-i.true, c.size_of.ensures)

pub returns-then-word-minus : goal.returns-then-word-minus
unfolding kind_of
returns-then-word-minus c = simp (ne_eqb _ _ c.if-word-eq0.false, ne_eqb _ _ c.if-word-i.false, eq-eqb _ _ (c.if-word-minus.true ∙ c.minus.ensures))

pub returns : goal.returns
unfolding kind_of
returns c =
    simp
    (ne_eqb _ _ c.if-word-eq0.false, ne_eqb _ _ c.if-word-i.false, ne_eqb _ _ (rw c.minus.ensures at c.if-word-minus.false))
