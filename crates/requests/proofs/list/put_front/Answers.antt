use Rattle.requests.proofs.ListLaws.{front_long, front_fits}
use Rattle.requests.proofs.list.put_front.Goals as goal

pub slice_bounds-copy-end : goal.slice_bounds-copy-end
slice_bounds-copy-end c = search front_long

pub copy-requires : goal.copy-requires
copy-requires c = search front_fits
