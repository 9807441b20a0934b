use Rattle.tables.proofs.places.read_places.Goals as goal

pub returns : goal.returns
returns c = cc
