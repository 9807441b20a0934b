use native.Mathlib.Omega.{arith}
use Rattle.requests.proofs.LocateLaws.{shown_inside, shown_part}
use Rattle.requests.proofs.show.show.Goals as goal

pub overflow_add-end : goal.overflow_add-end
overflow_add-end c = omega (arith, shown_inside _ _ _ _ _ _ c.show_part-part.ensures)

pub slice_bounds-result-end : goal.slice_bounds-result-end
slice_bounds-result-end c = shown_inside _ _ _ _ _ _ c.show_part-part.ensures

pub returns : goal.returns
returns c = search shown_part
