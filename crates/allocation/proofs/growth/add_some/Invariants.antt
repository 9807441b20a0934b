use Rattle.allocation.proofs.GrowthLaws.{Adding}
use Rattle.allocation.proofs.growth.add_some.Given as goal

abbrev pub invariant-loop : goal.invariant-loop
invariant-loop g l =
    Adding g.W.Way.ready g.W.Way.step l.p l.f.0 l.t l.n (record { books = l.initial.b; cursor = l.initial.cursor }) (record { books = l.b; cursor = l.cursor }) l.from l.counter
