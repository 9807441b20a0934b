use Rattle.std.proofs.Common.{arith}
use Rattle.allocation.proofs.NextBlockLaws.{behind_none, behind_low, behind_spare, behind_block}
use Rattle.allocation.proofs.choice.next_block.Goals as goal

pub returns-in_default : goal.returns-in_default
returns-in_default c = behind_none _ _ _ c.requires.behind _ c.open_block.ensures c.in_default.ensures

pub clear_from-requires-clause-le_z : goal.clear_from-requires-clause-le_z
clear_from-requires-clause-le_z c =
    let z = c.in-Some.ensures in
    (behind_low _ _ _ c.requires.behind c.in-Some.z z.0 z.1, z.1, omega (arith, c.requires.behind.number))

pub zone_entry-requires : goal.zone_entry-requires
zone_entry-requires c =
    let z = c.in-Some.ensures in
    record { le_z = (omega (arith, behind_low _ _ _ c.requires.behind c.in-Some.z z.0 z.1), omega (arith, z.1)) }

pub overflow_sub-result : goal.overflow_sub-result
overflow_sub-result c =
    let z = c.in-Some.ensures in
    let s = behind_spare _ _ _ c.requires.behind c.in-Some.z z.0 z.1 in
    rw c.zone_entry.ensures s.some

pub returns : goal.returns
returns c =
    let z = c.in-Some.ensures in
    behind_block _ _ _ c.requires.behind c.in-Some.z z.0 z.1 _ c.resume.ensures.0 c.resume.ensures.1 c.resume.ensures.2 _ _ c.clear_from.ensures c.zone_entry.ensures
