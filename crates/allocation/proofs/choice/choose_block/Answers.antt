use Rattle.allocation.proofs.ChooseLaws.{chooses_neighbour, chooses_next}
use Rattle.allocation.proofs.choice.choose_block.Goals as goal

pub returns-in-Some : goal.returns-in-Some
returns-in-Some c = chooses_neighbour _ _ _ _ _ _ c.requires.data_type c.requires.r3 c.requires.behind c.in-Some.ensures

pub returns : goal.returns
returns c = chooses_next _ _ _ _ _ c.args.b.now.layout c.in_default.ensures c.next_block-k.ensures
