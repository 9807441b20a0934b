use native.Mathlib.Omega.{arith}
use Prim.Native.Nat.{ℕ, ◌+◌, ◌-◌, ◌*◌}
use mathlib.Core.Logic.{◌≢◌}
use mathlib.Core.Path.{◌≡◌, refl}
use lib.ListN.{get_or}
use borrow.Author.Rules.{rules}
use Rattle.std.proofs.Common.{tests}
use Rattle.std.proofs.lemmas.Iterator.{YieldsList-from_range, cases_from_all}
use Rattle.marks.specs.Marks.{word_at}
use Rattle.marks.proofs.MarkLaws.{agrees_says}
use Rattle.marks.proofs.marks.agrees.Goals as goal

pub returns : goal.returns
returns c =
    let a = c.args in
    agrees_says a.b.now (λ j. omega (arith, c.type_inv.b j)) a.p a.m.now (λ j. omega (arith, c.type_inv.m j)) _
    (cases_from_all _ _ _ (λ (j : ℕ). word_at a.b.now (a.p.sectortable + 8 * j) ≡ get_or a.m.now j 0) (λ (j : ℕ). word_at a.b.now (a.p.sectortable + 8 * j) ≢ get_or a.m.now j 0)
    c.all.ensures.ran (YieldsList-from_range 16 (16 * (a.p.zones - 1)) (16 * (a.p.zones - 1) - 16) refl refl) (λ x q k. search (rules, tests)) (λ x q k. search (rules, tests)))
