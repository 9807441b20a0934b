use Rattle.allocation.proofs.GrowthLaws.{AddingAll}
use Rattle.allocation.proofs.growth.add_all.Given as goal

abbrev pub invariant-loop-i : goal.invariant-loop-i
invariant-loop-i g l =
    AddingAll g.W.Way.ready g.W.Way.step l.p l.f.0 l.fn.counts (record { books = l.initial.b; cursor = l.initial.cursor }) (record { books = l.b; cursor = l.cursor }) l.i
