use Rattle.requests.proofs.WriteLaws.{written_layout, written_low, written_high, written_is}
use Rattle.requests.proofs.write.put_written.Goals as goal

pub settle-requires : goal.settle-requires
settle-requires c = search (written_layout, written_low, written_high)

pub returns : goal.returns
returns c = search written_is
