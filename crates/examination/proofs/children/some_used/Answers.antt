use native.Mathlib.Omega.{arith}
use Prim.Native.Nat.{◌+◌, ◌*◌, ◌≤◌}
use borrow.Author.Rules.{rules}
use Rattle.std.proofs.iter.Serving.{serving}
use Rattle.tables.proofs.IndexLaws.{slots_in}
use Rattle.field.proofs.Tests.{says_map}
use Rattle.tables.specs.Indexes.{UsedAt}
use Rattle.examination.proofs.FindingLaws.{says_any}
use Rattle.examination.proofs.children.some_used.Goals as goal

pub any-requires-clause-callable : goal.any-requires-clause-callable
any-requires-clause-callable c = let room : c.base-base.result + 6 * c.slots-slots.result ≤ 128 = omega (arith, slots_in c.args.i.0 c.args.t.now) in grind serving

pub returns : goal.returns
returns c = says_map c.any.result (λ h. search rules) (λ h. search rules) (says_any (λ j. UsedAt c.args.t.now (c.base-base.result + 6 * j)) _ _ _ _ c.any.ensures.ran (λ x q h. search rules) (λ x q h. search rules))
