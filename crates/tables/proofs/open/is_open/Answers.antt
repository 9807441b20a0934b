use mathlib.Core.Path.{◌∙◌}
use borrow.Author.Tests.{eq-eqb}
use Rattle.tables.proofs.OpenLaws.{open_untyped, open_other, open_typed}
use Rattle.tables.proofs.open.is_open.Goals as goal

pub returns-then-t-eq0 : goal.returns-then-t-eq0
returns-then-t-eq0 c = eq-eqb _ _ c.if-t-eq0.true ∙ open_untyped _ c.if-t-eq0.true

pub returns-then-is_zone_type : goal.returns-then-is_zone_type
returns-then-is_zone_type c = open_typed _ _ c.if-is_zone_type.ensures c.zone_blocks.ensures

pub returns-else-is_zone_type : goal.returns-else-is_zone_type
returns-else-is_zone_type c = c.if-is_zone_type.false ∙ open_other _ c.if-t-eq0.false c.if-is_zone_type.ensures
