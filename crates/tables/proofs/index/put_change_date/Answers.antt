use Rattle.tables.proofs.index.put_change_date.Goals as goal

pub returns : goal.returns
returns c = cc
