use Rattle.files.proofs.ReleaseLaws.{clearing_none, clearing_place, clearing_room, clearing_more, clearing_end}
use borrow.Author.Rules.{rules}
use Rattle.files.proofs.release.clear_runs.Goals as goal

pub loop-j-init : goal.loop-j-init
loop-j-init c =
    let t = c.table.ensures.0 in
    clearing_none c.args.p c.args.b.now c.args.i.0 _ _ _ _ c.requires.layout c.requires.runs_within t c.slots-n.ensures.0 c.table-2.ensures.0 c.base-at.ensures.0

pub pointer_at-q-requires : goal.pointer_at-q-requires
pointer_at-q-requires c = record { t_len = search rules; at_bound = search clearing_place }

pub put_sectors-requires : goal.put_sectors-requires
put_sectors-requires c = record { layout = search rules; n_bound = (search clearing_room, search rules) }

pub loop-j-preserved : goal.loop-j-preserved
loop-j-preserved c =
    clearing_more _ _ _ _ _ _ _ c.loop-j.invariant c.loop-j-test.true _ _ c.table-in-loop-j.ensures.0 c.pointer_at-q.ensures.0 _ c.put_sectors.ensures

pub returns : goal.returns
returns c = search clearing_end
