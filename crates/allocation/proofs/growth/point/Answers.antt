use Rattle.std.proofs.Common.{rules}
use Rattle.allocation.proofs.ReadyLaws.{way_here, way_further, here_in_table, further_in_table, further_head}
use Rattle.allocation.proofs.growth.point.Goals as goal

pub point_here-requires-clause-in_table : goal.point_here-requires-clause-in_table
point_here-requires-clause-in_table c = search here_in_table

pub point_further-requires : goal.point_further-requires
point_further-requires c = record { layout = search rules; head = search further_head; in_table = search further_in_table; le_table = search rules }

pub returns-in-Joined : goal.returns-in-Joined
returns-in-Joined c = search way_here

pub returns-in-Further : goal.returns-in-Further
returns-in-Further c = search way_further
