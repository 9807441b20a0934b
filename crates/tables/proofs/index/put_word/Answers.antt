use Rattle.tables.proofs.index.put_word.Goals as goal

pub returns : goal.returns
returns c = cc
