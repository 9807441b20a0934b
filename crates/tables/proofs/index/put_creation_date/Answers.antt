use Rattle.tables.proofs.index.put_creation_date.Goals as goal

pub returns : goal.returns
returns c = cc
