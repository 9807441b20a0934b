use Rattle.tables.specs.Views.{view_of}
use native.Mathlib.Omega.{arith}
use Rattle.examination.proofs.SurveyLaws.{summed_free, summed_beyond, summed_fits, summed_add}
use borrow.Author.Rules.{rules}
use Rattle.examination.proofs.sums.add_sectors.Goals as goal

pub returns-then-f-lt1 : goal.returns-then-f-lt1
returns-then-f-lt1 c = search summed_free

pub returns-then-f-b : goal.returns-then-f-b
returns-then-f-b c = search summed_beyond

pub overflow_add-s : goal.overflow_add-s
overflow_add-s c = let a = c.args in omega (arith, summed_fits (view_of a.b.now.places a.b.now.raw.now) a.k a.s.now _ c.file-f.result.0 (search rules) (search rules) (omega arith) (omega arith) (omega arith) (omega arith) c.table-t.ensures.0)

pub returns : goal.returns
returns c = search summed_add
