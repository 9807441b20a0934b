use Rattle.patterns.proofs.PatternLaws.{both_end, pattern_ends, any_passes, any_stands, any_ends, any_more, name_ends, byte_stands, byte_differs}
use Rattle.patterns.proofs.pattern.+three_way.Goals as goal

pub returns-in-empty-name : goal.returns-in-empty-name
returns-in-empty-name t c = search both_end

pub returns-in-len1-up-name : goal.returns-in-len1-up-name
returns-in-len1-up-name t c = search pattern_ends

pub returns-in-No : goal.returns-in-No
returns-in-No t c = search any_ends

pub returns-in_default : goal.returns-in_default
returns-in_default t c = search (any_stands, c.in_default.not-No)

pub returns-in-len1-up-name-2 : goal.returns-in-len1-up-name-2
returns-in-len1-up-name-2 t c = search any_passes

pub returns-in-No-three_way : goal.returns-in-No-three_way
returns-in-No-three_way t c = search any_more

pub returns-in_default-three_way : goal.returns-in_default-three_way
returns-in_default-three_way t c = search (any_stands, c.in_default-three_way.not-No)

pub returns-in-empty-name-3 : goal.returns-in-empty-name-3
returns-in-empty-name-3 t c = search name_ends

pub returns-in-len1-up-name-3 : goal.returns-in-len1-up-name-3
returns-in-len1-up-name-3 t c = search byte_stands

pub returns-in-len1-up-2-name : goal.returns-in-len1-up-2-name
returns-in-len1-up-2-name t c = search byte_differs
