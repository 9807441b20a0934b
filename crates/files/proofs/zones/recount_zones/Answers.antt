use Rattle.std.proofs.Common.{rules, refl}
use Rattle.files.proofs.RecountLaws.{zones_none, zones_more, zones_end}
use Rattle.files.proofs.zones.recount_zones.Goals as goal

pub loop-z-init : goal.loop-z-init
loop-z-init c = (zones_none _ _, refl)

pub loop-z-preserved : goal.loop-z-preserved
loop-z-preserved c = (search zones_more, search rules)

pub returns : goal.returns
returns c = let l = c.loop-z in zones_end _ _ l.b l.z (search rules) l.invariant.0 (search rules) (search rules)
