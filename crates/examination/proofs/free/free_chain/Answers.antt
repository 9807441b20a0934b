use Rattle.examination.proofs.FreeLaws.{walking_none, walking_more, free_small, stop_marked}
use Rattle.examination.proofs.MetLaws.{clear_less}
use Rattle.examination.proofs.free.free_chain.Goals as goal

pub loop-at-init : goal.loop-at-init
loop-at-init c = search walking_none

pub returns-then-seen-k-ne0 : goal.returns-then-seen-k-ne0
returns-then-seen-k-ne0 c = search stop_marked

pub loop-at-smaller : goal.loop-at-smaller
loop-at-smaller c = search (clear_less, free_small)

pub loop-at-preserved : goal.loop-at-preserved
loop-at-preserved c = search walking_more
