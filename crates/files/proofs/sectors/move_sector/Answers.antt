use Rattle.files.proofs.SectorLaws.{move_exchanged, move_plain}
use Rattle.files.proofs.sectors.move_sector.Goals as goal

pub returns-then-exchange : goal.returns-then-exchange
returns-then-exchange c = search move_exchanged

pub returns : goal.returns
returns c = search move_plain
