use Rattle.std.proofs.Common.{◌∙◌}
use Rattle.allocation.proofs.HeaderLaws.{place_here, place_there, place_none}
use Rattle.allocation.proofs.header.header_place.Goals as goal

pub returns-in-Some : goal.returns-in-Some
returns-in-Some c = let k = c.in-Some.ensures in (k.1 ∙ place_here _ _ k.0, rw k.1 k.0)

pub returns-in_err-zone : goal.returns-in_err-zone
returns-in_err-zone c = rw c.from_residual.ensures (place_none _ _ c.in_default.ensures c.in_err-zone.ensures)

pub returns : goal.returns
returns c = let z = c.in_ok-zone.ensures in (place_there _ _ c.in_default.ensures c.in_ok-zone.zone z.0, z.1)
