use Rattle.examination.proofs.WholeLaws.{Two, fours_each}
use Prim.Native.Nat.{◌+◌, ◌*◌}
use Rattle.examination.proofs.FindingLaws.{says_all}
use borrow.Author.Rules.{rules}
use Rattle.examination.proofs.whole.fours_whole.Goals as goal

pub returns : goal.returns
returns c = let a = c.args in fours_each _ _ _ c.all.result (says_all (λ i. Two a.s.now a.base (a.from.0 + 8 * i)) _ _ _ _ c.all.ensures.ran (λ x q h. search rules) (λ x q h. search rules))
