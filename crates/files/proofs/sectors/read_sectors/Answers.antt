use mathlib.Core.Path.{refl, ◌∙◌}
use Prim.Native.Nat.{◌*◌}
use native.Mathlib.Omega.{arith}
use lib.ListN.{length-take, length-drop}
use Rattle.files.specs.Moves.{fetched}
use Rattle.files.proofs.SectorLaws.{moving_none, moving_here, moving_more, moving_end, read_more}
use Rattle.files.proofs.sectors.read_sectors.Goals as goal

pub seek-c-requires : goal.seek-c-requires
seek-c-requires c = record { lawful_some = c.requires.lawful_some; parent = c.requires.movable.parent; k_bound = c.requires.movable.some }

pub loop-i-init : goal.loop-i-init
unfolding fetched
loop-i-init c = moving_none _ _ _ _ _ _ (λ f. refl)

pub spot_place-a-requires : goal.spot_place-a-requires
spot_place-a-requires c = record { on_sector = moving_here _ _ c.args.b.now.layout c.requires.lawful_some.1 c.args.f.0 _ _ _ _ c.requires.movable _ _ _ c.seek-c.ensures _ _ _ c.loop-i.invariant c.loop-i-test.true }

pub move_sector-requires : goal.move_sector-requires
move_sector-requires c = (simp (length-take, length-drop) (omega arith), simp (length-take, length-drop) (omega arith))

pub onward-c-requires : goal.onward-c-requires
onward-c-requires c = record { on_sector = moving_here _ _ c.args.b.now.layout c.requires.lawful_some.1 c.args.f.0 _ _ _ _ c.requires.movable _ _ _ c.seek-c.ensures _ _ _ c.loop-i.invariant c.loop-i-test.true }

pub loop-i-preserved : goal.loop-i-preserved
loop-i-preserved c =
    let l = c.loop-i in
    let w = c.move_sector in
    moving_more _ _ _ _ _ _ _ _ _ l.invariant c.loop-i-test.true _ c.onward-c.ensures (1024 * l.i) w.new.dst (omega (arith, c.spot_place-a.ensures.1, c.requires.movable.body', c.requires.movable.buffer, l.invariant.len, c.loop-i-test.true))
    (w.auto.dst ∙ simp (length-take, length-drop) (omega arith))
    (λ f at. read_more _ _ _ _ _ _ _ at c.spot_place-a.ensures.0 _ _ _ w.ensures)

pub returns : goal.returns
returns c = moving_end _ _ _ _ _ _ _ _ _ c.loop-i.invariant c.loop-i-test.false _ c.seek-c.ensures
