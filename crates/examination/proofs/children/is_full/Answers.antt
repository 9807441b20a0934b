use native.Mathlib.Omega.{arith}
use Prim.Native.Nat.{◌+◌, ◌*◌, ◌≤◌}
use borrow.Author.Rules.{rules}
use Rattle.std.proofs.iter.Serving.{serving}
use Rattle.tables.proofs.IndexLaws.{slots_in}
use Rattle.field.proofs.Tests.{says_map}
use Rattle.tables.specs.Indexes.{UsedAt}
use Rattle.examination.proofs.FindingLaws.{says_all}
use Rattle.examination.proofs.children.is_full.Goals as goal

pub all-requires-clause-callable : goal.all-requires-clause-callable
all-requires-clause-callable c = let room : c.base-base.result + 6 * c.slots-slots.result ≤ 128 = omega (arith, slots_in c.args.i.0 c.table-t.result.now) in grind serving

pub returns : goal.returns
returns c = says_map c.all.result (λ h. search rules) (λ h. search rules) (says_all (λ j. UsedAt c.table-t.result.now (c.base-base.result + 6 * j)) _ _ _ _ c.all.ensures.ran (λ x q h. search rules) (λ x q h. search rules))
