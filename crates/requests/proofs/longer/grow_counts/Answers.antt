use Rattle.requests.proofs.LongerLaws.{counts_typed}
use Rattle.requests.proofs.longer.grow_counts.Goals as goal

pub only_counts-requires : goal.only_counts-requires
only_counts-requires c = search counts_typed
