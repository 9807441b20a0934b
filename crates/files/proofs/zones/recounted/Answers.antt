use Rattle.files.proofs.RecountLaws.{recounted_open, recounted_other}
use Rattle.files.proofs.zones.recounted.Goals as goal

pub returns-then-free-zone_blocks : goal.returns-then-free-zone_blocks
returns-then-free-zone_blocks c = search recounted_open

pub returns : goal.returns
returns c = search recounted_other
