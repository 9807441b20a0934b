use Rattle.tables.specs.Views.{view_of}
use Rattle.allocation.proofs.LastLaws.{Onward}
use Rattle.allocation.proofs.last.last_table.Given as goal

abbrev pub invariant-loop : goal.invariant-loop
invariant-loop l = Onward (view_of l.b.places l.b.raw.now) l.initial.i.0 l.i.0 l.counter
