use borrow.Author.Rules.{rules}
use mathlib.Core.Path.{refl}
use Rattle.requests.proofs.WriteLaws.{write_good, write_parent, write_writes, write_nothing, write_done}
use Rattle.requests.proofs.WriteKeeps.{wrote_room, wrote_asks}
use Rattle.requests.proofs.write.write.Goals as goal

pub returns-then-n-eq0 : goal.returns-then-n-eq0
returns-then-n-eq0 c = search (write_nothing, c.in_ok-check_write.ensures, rules)

pub put_written-requires : goal.put_written-requires
put_written-requires c =
    let h = c.in_ok-check_write.ensures in record {
      good_some = write_good _ _ _ _ _ _ _ _ _ h refl;
      parent = write_parent _ _ _ _ _ _ _ _ _ h refl;
      writes = write_writes _ _ _ _ _ _ _ _ _ h refl
          _ _ _ c.unwrap_or-at.ensures c.unwrap_or.ensures c.whole_sectors-n.ensures.0 c.if-n-eq0.false;
    }

pub read_places-p-requires : goal.read_places-p-requires
read_places-p-requires c =
    wrote_room _ _ _ _ _ _ _ _ _ c.in_ok-check_write.ensures refl
    _ _ _ c.unwrap_or-at.ensures c.unwrap_or.ensures c.whole_sectors-n.ensures.0 _ c.put_written.ensures

pub invariant_of-write_sectors : goal.invariant_of-write_sectors
invariant_of-write_sectors c =
    let asks = wrote_asks _ _ _ _ _ _ _ _ _ c.in_ok-check_write.ensures refl
    _ _ _ c.unwrap_or-at.ensures c.unwrap_or.ensures c.whole_sectors-n.ensures.0 _ c.put_written.ensures
    _ c.read_places-p.ensures c.if-n-eq0.false in record { layout = asks.0 }

pub write_sectors-requires : goal.write_sectors-requires
write_sectors-requires c =
    let asks = wrote_asks _ _ _ _ _ _ _ _ _ c.in_ok-check_write.ensures refl
    _ _ _ c.unwrap_or-at.ensures c.unwrap_or.ensures c.whole_sectors-n.ensures.0 _ c.put_written.ensures
    _ c.read_places-p.ensures c.if-n-eq0.false in record { lawful_some = asks.1.0; movable = asks.1.1 }

pub returns : goal.returns
returns c = search (write_done, c.in_ok-check_write.ensures, rules)
