use Rattle.requests.proofs.LocateLaws.{kth_on, kth_found}
use Rattle.requests.proofs.sector.kth_sector.Goals as goal

pub sector_of-requires : goal.sector_of-requires
sector_of-requires c = record { on_sector = search kth_on }

pub returns : goal.returns
returns c =
    let q = c.requires in
    kth_found _ _ _ _ q.good_some.1 q.parent q.k_bound _ c.seek.ensures _ c.sector_of.ensures
