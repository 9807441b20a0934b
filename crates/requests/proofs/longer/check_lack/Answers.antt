use Rattle.requests.proofs.LongerLaws.{cursor_small, lack_none, lack_some}
use Rattle.requests.proofs.longer.check_lack.Goals as goal

pub returns-then-byte_length-long : goal.returns-then-byte_length-long
returns-then-byte_length-long c = search lack_none

pub check_room-requires : goal.check_room-requires
check_room-requires c = record { good_some = c.requires.good_some; count_bound = cursor_small _ _ _ c.cursor_of-c.result c.requires.good_some.1 c.requires.parent c.cursor_of-c.ensures }

pub returns : goal.returns
returns c = search lack_some
