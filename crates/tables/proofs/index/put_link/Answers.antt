use Rattle.tables.proofs.index.put_link.Goals as goal

pub returns : goal.returns
returns c = cc
