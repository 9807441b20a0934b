use Rattle.tables.proofs.index.put_length.Goals as goal

pub returns : goal.returns
returns c = cc
