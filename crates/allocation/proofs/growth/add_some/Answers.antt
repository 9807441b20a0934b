use Rattle.allocation.proofs.GrowthLaws.{adding_r3, adding_none, adding_typed, adding_can, adding_more, adding_end}
use Rattle.std.proofs.Common.{rules}
use Rattle.allocation.proofs.growth.add_some.Goals as goal

pub loop-init : goal.loop-init
loop-init g c = search adding_none

pub choose_block-choice-requires : goal.choose_block-choice-requires
choose_block-choice-requires g c = record {
  data_type = search adding_typed;
  r3 = adding_r3 c.requires.laws _ _ _ _ _ _ _ _ c.loop.invariant;
  behind = search rules;
}

pub add-cursor-requires : goal.add-cursor-requires
add-cursor-requires g c = adding_can c.requires.laws _ _ _ _ _ _ _ _ c.loop.invariant (search rules) _ c.choose_block-choice.ensures

pub loop-preserved : goal.loop-preserved
loop-preserved g c = search adding_more

pub returns : goal.returns
returns g c = adding_end c.requires.laws _ _ _ _ _ _ _ _ c.loop.invariant (search rules)
