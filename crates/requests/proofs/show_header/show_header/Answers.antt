use native.Mathlib.Omega.{arith}
use Rattle.requests.proofs.ShowHeaderLaws.{header_shown_inside}
use Rattle.requests.proofs.show_header.show_header.Goals as goal

pub overflow_add-end : goal.overflow_add-end
overflow_add-end c = omega (arith, header_shown_inside _ _ _ _ _ c.header_part-part.ensures)

pub slice_bounds-result-end : goal.slice_bounds-result-end
slice_bounds-result-end c = header_shown_inside _ _ _ _ _ c.header_part-part.ensures
