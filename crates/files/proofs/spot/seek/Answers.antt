use Rattle.files.proofs.SeekLaws.{seek_none, seek_last, seek_begin, seek_on, seek_less, seek_next, seek_more}
use Rattle.files.proofs.spot.seek.Goals as goal

pub pointer_of-n-requires : goal.pointer_of-n-requires
pointer_of-n-requires c = let a = c.args in
    let q = c.requires in record { on_table = seek_begin a.b.now.places a.b.now.raw.now a.f.0 a.k a.b.now.layout q.lawful_some.1 q.parent q.k_bound }

pub loop-n-init : goal.loop-n-init
loop-n-init c = search seek_none

pub next_run-c-requires : goal.next_run-c-requires
next_run-c-requires c = record { on_table = search seek_on }

pub pointer_of-n-requires-in-loop-n : goal.pointer_of-n-requires-in-loop-n
pointer_of-n-requires-in-loop-n c = record { on_table = search seek_next }

pub loop-n-smaller : goal.loop-n-smaller
loop-n-smaller c = search seek_less

pub loop-n-preserved : goal.loop-n-preserved
loop-n-preserved c = search seek_more

pub returns : goal.returns
returns c = search seek_last
