use native.Mathlib.Omega.{arith}
use mathlib.Core.Path.{refl}
use Rattle.std.proofs.iter.Serving.{serving}
use Rattle.tables.specs.Indexes.{pointer_at}
use Rattle.tables.proofs.IndexLaws.{slots_in}
use Rattle.examination.proofs.SurveyLaws.{run_within, table_each}
use Rattle.examination.specs.Surveys.{RunType}
use Rattle.field.specs.Numbers.{u16_at, u32_at}
use Rattle.tables.specs.Views.{view_of}
use Prim.Native.Nat.{ℕ, ◌+◌, ◌*◌, ◌≤◌, ◌<◌}
use Rattle.examination.proofs.FindingLaws.{says_all}
use borrow.Author.Rules.{rules}
use Rattle.examination.proofs.types.table_type.Goals as goal

pub all-requires-clause-callable : goal.all-requires-clause-callable
all-requires-clause-callable c =
    let a = c.args in
    let base = c.base-base.result in
    let room : base + 6 * c.slots-slots.result ≤ 128 = omega (arith, slots_in a.i.0 a.t.now) in
    let within : (j : ℕ) → j < c.slots-slots.result → (pointer_at a.t.now (base + 6 * j)).start.0 + (pointer_at a.t.now (base + 6 * j)).count ≤ 1024 * a.b.now.places.zones =
    λ j l. run_within (view_of a.b.now.places a.b.now.raw.now) a.i.0 a.t.now j base (pointer_at a.t.now (base + 6 * j)) c.requires.shape (omega arith) c.base-base.ensures.0 refl in
    grind serving

pub returns : goal.returns
returns c =
    let a = c.args in
    let base = c.base-base.result in
    table_each a.b.now.places a.b.now.raw.now a.i.0 a.t.now a.ty base _ c.all.result (search rules) (search rules)
    (says_all (λ j. RunType (view_of a.b.now.places a.b.now.raw.now) (u32_at a.t.now (base + 6 * j)) (u16_at a.t.now (base + 6 * j + 4)) a.ty) _ _ _ _ c.all.ensures.ran (λ x q h. search rules) (λ x q h. search rules))
