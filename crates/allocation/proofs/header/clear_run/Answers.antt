use Rattle.allocation.proofs.HeaderLaws.{run_passed, run_longer, run_hit, run_end}
use Rattle.field.specs.Sum.{sum_to}
use Rattle.tables.specs.Sectors.{sector_at}
use Rattle.tables.specs.Views.{view_of}
use native.Mathlib.Omega.{arith}
use mathlib.Core.Path.{refl, sym}
use borrow.Author.Rules.{rules}
use Rattle.allocation.proofs.header.clear_run.Goals as goal

pub loop-from-init : goal.loop-from-init
unfolding sum_to
loop-from-init c = (search rules, search rules, refl, λ j l. absurd (omega arith))

pub loop-from-preserved-then-used-gt0 : goal.loop-from-preserved-then-used-gt0
unfolding sum_to
loop-from-preserved-then-used-gt0 c =
    let u = c.used_ahead-used in
    let l = c.loop-from in
    let a = c.args in
    (search rules, search rules, refl, run_passed (sector_at a.b.now.places a.b.now.raw.now) _ _ l.from l.free u.result l.invariant.0 l.invariant.3 c.if-used-gt0.true u.ensures.set)

pub returns-then-free-n : goal.returns-then-free-n
returns-then-free-n c =
    let l = c.loop-from in
    let first = c.first_sector-first in
    let a = c.args in
    -- the free sectors with one more
    let longer = run_longer (sector_at a.b.now.places a.b.now.raw.now) first.result.0 l.from l.free l.invariant.2 (c.used_ahead-used.ensures.clear (omega arith)) in
    (run_hit (view_of a.b.now.places a.b.now.raw.now) a.n a.z.0 first.result.0 first.ensures l.from l.invariant.3 (search rules) (rw c.if-free-n.true at longer), search rules)

pub loop-from-preserved : goal.loop-from-preserved
loop-from-preserved c =
    let l = c.loop-from in
    let a = c.args in
    let longer = run_longer (sector_at a.b.now.places a.b.now.raw.now) c.first_sector-first.result.0 l.from l.free l.invariant.2 (c.used_ahead-used.ensures.clear (omega arith)) in
    (search rules, search rules, longer, l.invariant.3)

pub returns : goal.returns
returns c =
    let l = c.loop-from in
    let first = c.first_sector-first in
    let a = c.args in
    sym (run_end (view_of a.b.now.places a.b.now.raw.now) a.n a.z.0 first.result.0 first.ensures l.from l.invariant.3 (search rules) (search rules))
