use Rattle.tables.proofs.FormatStepLaws.{layout_same, tables_end}
use Rattle.tables.proofs.format.write_tables.Goals as goal

pub write_system-requires : goal.write_system-requires
write_system-requires c = search layout_same

pub write_links-requires : goal.write_links-requires
write_links-requires c = search layout_same

pub returns : goal.returns
returns c = search tables_end
