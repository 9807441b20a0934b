use Rattle.tables.proofs.index.erase.Goals as goal

pub returns : goal.returns
returns c = cc
