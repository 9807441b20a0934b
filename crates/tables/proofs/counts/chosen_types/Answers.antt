use Rattle.tables.proofs.CountsLaws.{flag_default, flag_below, flag_cast, flag_sum}
use Rattle.tables.proofs.counts.chosen_types.Goals as goal

pub returns-then-flag-eqminus1 : goal.returns-then-flag-eqminus1
returns-then-flag-eqminus1 c = flag_default c.args.flag c.ranges.flag c.if-flag-eqminus1.true

pub returns-then-flag-lt0 : goal.returns-then-flag-lt0
returns-then-flag-lt0 c = flag_below c.args.flag c.ranges.flag c.if-flag-eqminus1.false c.if-flag-lt0.true

pub overflow_cast-flag : goal.overflow_cast-flag
overflow_cast-flag c = flag_cast c.args.flag c.ranges.flag c.if-flag-lt0.false

pub returns : goal.returns
returns c =
    flag_sum c.args.flag c.ranges.flag c.types_of.result c.if-flag-lt0.false c.types_of.ensures
