use Rattle.tables.specs.Counts.{types_of}
use Rattle.tables.proofs.CountsLaws.{conds}
use Rattle.tables.proofs.counts.types_of.Goals as goal

pub returns-then-n-eq0 : goal.returns-then-n-eq0
unfolding types_of
returns-then-n-eq0 c = search conds depth 8

pub returns-then-n-ne0 : goal.returns-then-n-ne0
unfolding types_of
returns-then-n-ne0 c = search conds depth 8

pub returns-then-n-gt-ALL : goal.returns-then-n-gt-ALL
unfolding types_of
returns-then-n-gt-ALL c = search conds depth 8

pub returns : goal.returns
unfolding types_of
returns c = search conds depth 8
