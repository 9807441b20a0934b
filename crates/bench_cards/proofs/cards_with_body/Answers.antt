-- The body is lent whole; its length is a law, since its bytes are too many to be counted.
use Rattle.std.proofs.Common.{ℕ, sym}
use Rattle.std.proofs.lemmas.List.{length-replicate}
use Rattle.bench_cards.proofs.cards_with_body.Goals as goal

pub slice_bounds-cards_on-end : goal.slice_bounds-cards_on-end
slice_bounds-cards_on-end g c = sym (length-replicate {A = ℕ} 2097152 0)

pub cards_on-requires : goal.cards_on-requires
cards_on-requires g c = length-replicate {A = ℕ} 2097152 0
