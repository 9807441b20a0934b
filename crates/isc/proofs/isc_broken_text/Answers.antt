use Rattle.isc.proofs.BorderLaws.{broken_room, broken_written}
use Rattle.isc.proofs.isc_broken_text.Goals as goal

pub hand_back_text-requires : goal.hand_back_text-requires
hand_back_text-requires c = search broken_room

pub returns : goal.returns
returns c = search broken_written
