use Rattle.std.proofs.Common.{rules}
use Rattle.allocation.proofs.GrowthLaws.{all_added_none, all_added_some, all_added_more, all_added_end}
use Rattle.allocation.proofs.growth.add_all.Goals as goal

pub loop-i-init : goal.loop-i-init
loop-i-init g c = search all_added_none

pub add_some-cursor-requires : goal.add_some-cursor-requires
add_some-cursor-requires g c = record {
  laws = c.requires.laws;
  ready = all_added_some c.requires.laws _ _ _ _ _ _ c.loop-i.invariant (search rules) (search rules);
}

pub loop-i-preserved : goal.loop-i-preserved
loop-i-preserved g c = search all_added_more

pub returns : goal.returns
returns g c = all_added_end c.requires.laws _ _ _ _ _ _ c.loop-i.invariant (search rules) (search rules)
