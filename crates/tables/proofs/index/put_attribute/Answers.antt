use Rattle.tables.proofs.index.put_attribute.Goals as goal

pub returns : goal.returns
returns c = cc
