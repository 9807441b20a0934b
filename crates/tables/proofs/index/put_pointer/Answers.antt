use Rattle.tables.specs.Indexes.{put_pointer}
use Rattle.tables.proofs.index.put_pointer.Goals as goal

pub returns : goal.returns
unfolding put_pointer
returns c = cc
