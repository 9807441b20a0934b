use Rattle.requests.proofs.SearchRequestLaws.{Sought}
use Rattle.requests.specs.Search.{is_match}
use Rattle.tables.specs.Views.{view_of}
use Rattle.requests.proofs.search.find_files.Given as goal

abbrev pub invariant-loop-i : goal.invariant-loop-i
invariant-loop-i l = Sought (is_match (view_of l.b.places l.b.raw.now) l.pattern) l.initial.ids l.i l.n l.ids
