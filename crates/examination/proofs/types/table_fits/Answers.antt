use native.Mathlib.Omega.{arith}
use Rattle.examination.proofs.SurveyLaws.{fits_other, fits_word, fits_says}
use borrow.Author.Rules.{rules}
use Rattle.examination.proofs.types.table_fits.Goals as goal

pub returns-then-not-is_variable : goal.returns-then-not-is_variable
returns-then-not-is_variable c = search fits_other

pub file_type-ty-requires : goal.file_type-ty-requires
file_type-ty-requires c = record { r6 = c.requires.r6; le_f = search rules; f_value = search fits_word }

pub returns : goal.returns
returns c =
    let a = c.args in
    fits_says a.b.now.places a.b.now.raw.now a.i.0 a.f.0 c.decode.result c.is_variable.result c.decode.ensures c.is_variable.ensures _ _ c.table_type.result
    (search rules) (omega arith) (omega arith) c.file_type-ty.ensures c.table.ensures.0 c.table_type.ensures
