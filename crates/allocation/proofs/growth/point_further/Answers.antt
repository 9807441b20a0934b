use Rattle.allocation.proofs.ReadyLaws.{point_child}
use Rattle.allocation.proofs.growth.point_further.Goals as goal

pub returns : goal.returns
returns c =
    point_child _ _ _ _ _ _ _ _ _ c.put_child-i.ensures.0 c.put_child-i.ensures.1 c.pointer_place-at.ensures.0 c.put_pointer.ensures
