use Rattle.tables.proofs.entry.decode.Goals as goal

pub returns : goal.returns
returns c = rw (← c.table.ensures.0) c.entry_of.ensures
