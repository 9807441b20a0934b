use Rattle.examination.proofs.LimitLaws.{limit_inside, lowest_found}
use Rattle.marks.proofs.WithheldListLaws.{zeros_are}
use mathlib.Core.Path.{◌≡◌, ap, ◌∙◌}
use Prim.Native.Nat.{ℕ}
use lib.ListN.{replicate}
use borrow.Author.Rules.{rules}
use Rattle.examination.proofs.owned.lowest_sector.Goals as goal

pub mark_withheld-requires-clause-marks_are : goal.mark_withheld-requires-clause-marks_are
mark_withheld-requires-clause-marks_are c =
    let e : c.fill.new.self ≡ replicate 4096 0 = c.fill.ensures.after (λ y h. search rules) ∙ ap (λ (n : ℕ). replicate n 0) c.requires.m_len in rw e zeros_are

pub first_unequal-requires : goal.first_unequal-requires
first_unequal-requires c =
    record { m_len = search rules; le_limit = limit_inside c.args.b.now.places c.args.b.now.raw.now c.args.withheld.now _ _ _ c.mark_withheld.ensures c.mark_tables-limit.ensures c.args.b.now.layout c.requires.r6 c.requires.withholds }

pub returns : goal.returns
returns c = search lowest_found
