use Rattle.tables.proofs.index.put_name.Goals as goal

pub returns : goal.returns
returns c = cc
