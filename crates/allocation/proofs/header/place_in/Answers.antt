use Rattle.std.proofs.Common.{sym}
use Rattle.allocation.proofs.HeaderLaws.{fitting_none, fitting_short, fitting_run}
use Rattle.allocation.proofs.header.place_in.Goals as goal

pub returns-then-spare_in-eq0 : goal.returns-then-spare_in-eq0
returns-then-spare_in-eq0 c = search fitting_none

pub returns-in_err-number : goal.returns-in_err-number
returns-in_err-number c =
    rw c.from_residual.ensures
    (fitting_short _ _ _ _ _ c.zone_entry-e.ensures c.spare_in.ensures.0 c.if-spare_in-eq0.false c.in_err-number.ensures)

pub returns : goal.returns
returns c =
    let n = c.in_ok-number.ensures in
    (fitting_run _ _ _ _ _ c.zone_entry-e.ensures c.spare_in.ensures.0 c.if-spare_in-eq0.false (rw (sym n.0) n.1), rw (n.0, c.saturating_sub.ensures, c.zone_entry-e.ensures))
