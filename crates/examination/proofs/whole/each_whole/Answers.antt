use Rattle.examination.proofs.WholeLaws.{BlockSame, blocks_each}
use Prim.Native.Nat.{◌+◌, ◌*◌}
use Rattle.examination.proofs.FindingLaws.{says_all}
use borrow.Author.Rules.{rules}
use Rattle.examination.proofs.whole.each_whole.Goals as goal

pub returns : goal.returns
returns c = let a = c.args in blocks_each _ _ _ _ c.all.result (says_all (λ i. BlockSame a.s.now a.base (a.from.0 + i * a.size) a.size) _ _ _ _ c.all.ensures.ran (λ x q h. search rules) (λ x q h. search rules))
