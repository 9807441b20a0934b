use Rattle.tables.proofs.fresh.write_sector0.Goals as goal

pub returns : goal.returns
returns c = cc
