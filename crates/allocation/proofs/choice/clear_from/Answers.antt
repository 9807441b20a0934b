use Rattle.allocation.proofs.FindLaws.{search_hit, search_end}
use Rattle.allocation.proofs.NextBlockLaws.{clear_yes, clear_none, clear_more, block_inside, passed_some, passed_in}
use Rattle.tables.specs.Rules.R1.{ceil}
use Rattle.tables.specs.Views.{view_of}
use native.Mathlib.Omega.{arith}
use Prim.Native.Nat.{◌+◌, ◌*◌, ◌≤◌}
use mathlib.Core.Path.{refl}
use borrow.Author.Rules.{rules}
use Rattle.allocation.proofs.choice.clear_from.Goals as goal

-- the block after those that are passed over

over : (c : goal.Else-used-eq0) → let k = c.loop-k.k in
    k + ceil c.used_ahead-used.result c.block_sectors-size.result ≤ c.zone_blocks-last.result
over c =
    let inside : c.loop-k.k * c.block_sectors-size.result + c.block_sectors-size.result ≤ 1024
    = block_inside _ _ _ c.block_sectors-size.ensures.0 c.block_sectors-size.ensures.1 (omega arith) in
    passed_in _ _ _ _ _ c.block_sectors-size.ensures.0 c.block_sectors-size.ensures.1 c.zone_blocks-last.ensures (omega arith)
    (omega (arith, c.used_ahead-used.ensures.few))

pub loop-k-init : goal.loop-k-init
loop-k-init c = (search rules, omega arith, λ j l h. absurd (omega arith))

pub overflow_mul-at : goal.overflow_mul-at
overflow_mul-at c =
    let inside : c.loop-k.k * c.block_sectors-size.result + c.block_sectors-size.result ≤ 1024
    = block_inside _ _ _ c.block_sectors-size.ensures.0 c.block_sectors-size.ensures.1 (omega arith) in
    omega arith

pub overflow_add-first : goal.overflow_add-first
overflow_add-first c =
    let inside : c.loop-k.k * c.block_sectors-size.result + c.block_sectors-size.result ≤ 1024
    = block_inside _ _ _ c.block_sectors-size.ensures.0 c.block_sectors-size.ensures.1 (omega arith) in
    omega arith

pub overflow_sub-at : goal.overflow_sub-at
overflow_sub-at c =
    let inside : c.loop-k.k * c.block_sectors-size.result + c.block_sectors-size.result ≤ 1024
    = block_inside _ _ _ c.block_sectors-size.ensures.0 c.block_sectors-size.ensures.1 (omega arith) in
    omega arith

pub used_ahead-used-requires : goal.used_ahead-used-requires
used_ahead-used-requires c =
    let inside : c.loop-k.k * c.block_sectors-size.result + c.block_sectors-size.result ≤ 1024
    = block_inside _ _ _ c.block_sectors-size.ensures.0 c.block_sectors-size.ensures.1 (omega arith) in
    record { left_nonzero = (omega arith, omega arith) }

pub returns-then-used-eq0 : goal.returns-then-used-eq0
returns-then-used-eq0 c =
    let l = c.loop-k in
    let a = c.args in
    let v = view_of a.b.now.places a.b.now.raw.now in
    let none = clear_none v a.t a.z.0 _ _ c.first_sector-first.ensures c.block_sectors-size.ensures.0 a.from l.k l.invariant.2 in
    search_hit _ a.from _ l.k l.invariant.0 (omega arith) none (omega arith)
    (clear_yes v a.t a.z.0 _ _ c.first_sector-first.ensures c.block_sectors-size.ensures.0 l.k _ refl (c.used_ahead-used.ensures.clear c.if-used-eq0.true))

pub overflow_add-k : goal.overflow_add-k
overflow_add-k c =
    let inside : c.loop-k.k * c.block_sectors-size.result + c.block_sectors-size.result ≤ 1024
    = block_inside _ _ _ c.block_sectors-size.ensures.0 c.block_sectors-size.ensures.1 (omega arith) in
    omega (arith, c.used_ahead-used.ensures.few)

pub overflow_add-k-in-loop-k : goal.overflow_add-k-in-loop-k
overflow_add-k-in-loop-k c = omega (arith, over c)

pub loop-k-smaller : goal.loop-k-smaller
loop-k-smaller c = omega (arith, passed_some _ _ c.block_sectors-size.ensures.1.some c.if-used-eq0.false, over c)

pub loop-k-preserved : goal.loop-k-preserved
loop-k-preserved c =
    let l = c.loop-k in
    let a = c.args in (
      omega arith,
      over c,
      clear_more (view_of a.b.now.places a.b.now.raw.now) a.t a.z.0 _ _ c.first_sector-first.ensures c.block_sectors-size.ensures.0 a.from l.k l.invariant.2
          _ c.block_sectors-size.ensures.1.some c.used_ahead-used.ensures.set,
    )

pub returns : goal.returns
returns c =
    let l = c.loop-k in
    let a = c.args in
    let none = clear_none (view_of a.b.now.places a.b.now.raw.now) a.t a.z.0 _ _ c.first_sector-first.ensures c.block_sectors-size.ensures.0 a.from l.k l.invariant.2 in
    search_end _ a.from _ l.k l.invariant.0 (omega arith) none (omega arith)
