use Rattle.tables.specs.Views.{view_of}
use Rattle.files.specs.Moves.{filled}
use Rattle.files.proofs.SectorLaws.{Moving}
use Rattle.files.proofs.sectors.write_sectors.Given as goal

abbrev pub invariant-loop-i : goal.invariant-loop-i
invariant-loop-i l = Moving (view_of l.b.places l.b.raw.now) l.k l.n (λ f j. filled (view_of l.b.places l.b.raw.now) f l.k l.exchange l.input l.initial.body j) l.initial.body l.initial.c l.body l.c l.i
