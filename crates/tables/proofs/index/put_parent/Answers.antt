use Rattle.tables.proofs.index.put_parent.Goals as goal

pub returns : goal.returns
returns c = cc
