use Rattle.requests.proofs.ListLaws.{Filled}
use Rattle.tables.specs.Views.{view_of}
use Rattle.requests.proofs.list.list_files.Given as goal

abbrev pub invariant-loop-i : goal.invariant-loop-i
invariant-loop-i l = Filled (view_of l.b.places l.b.raw.now) l.from l.initial.entries l.i l.n l.entries
