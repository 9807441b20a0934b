use Rattle.isc.proofs.BorderLaws.{report_room, report_written}
use Rattle.isc.proofs.isc_report.Goals as goal

pub hand_back_text-requires : goal.hand_back_text-requires
hand_back_text-requires c = search report_room

pub returns : goal.returns
returns c = search report_written
