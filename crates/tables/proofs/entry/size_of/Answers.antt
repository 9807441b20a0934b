use Rattle.tables.specs.Entries.{size_of}
use borrow.Author.Tests.{eq-eqb, ne_eqb}
use Rattle.tables.proofs.entry.size_of.Goals as goal

pub returns-then-attribute-eq1 : goal.returns-then-attribute-eq1
unfolding size_of
returns-then-attribute-eq1 c = simp (eq-eqb _ _ c.if-attribute-eq1.true)

pub returns : goal.returns
unfolding size_of
returns c = simp (ne_eqb _ _ c.if-attribute-eq1.false)
