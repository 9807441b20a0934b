use Rattle.tables.specs.Views.{view_of}
use Rattle.files.specs.Moves.{fetched}
use Rattle.files.proofs.SectorLaws.{Moving}
use Rattle.files.proofs.sectors.read_sectors.Given as goal

abbrev pub invariant-loop-i : goal.invariant-loop-i
invariant-loop-i l = Moving (view_of l.b.places l.b.raw.now) l.k l.n (λ f j. fetched (view_of l.b.places l.b.raw.now) f l.k l.exchange l.body l.initial.out j) l.initial.out l.initial.c l.out l.c l.i
