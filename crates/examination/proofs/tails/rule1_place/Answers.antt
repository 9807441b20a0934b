use Rattle.examination.proofs.TailLaws.{sector_fails, tails_hold}
use mathlib.Core.Path.{refl}
use Rattle.examination.proofs.tails.rule1_place.Goals as goal

pub returns-then-not-sector_tail_null : goal.returns-then-not-sector_tail_null
returns-then-not-sector_tail_null c = search (sector_fails, refl)

pub returns : goal.returns
returns c = search tails_hold
