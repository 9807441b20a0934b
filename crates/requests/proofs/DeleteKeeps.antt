-- Actual delete keeps the books good: the rules hold of the books afterwards, at the same places.
use mathlib.Core.Path.{refl}
use mathlib.Core.List.{List}
use Prim.Native.Nat.{ℕ}
use Rattle.tables.specs.declared.places.Places.{Places}
use Rattle.tables.specs.Books.{GoodWith}
use Rattle.tables.specs.Places.{places_of}
use Rattle.allocation.proofs.HeldLawful.{quiet_good}
use Rattle.files.specs.Release.{released}
use Rattle.files.proofs.ReleasedLawful.{released_quiet, released_lawful}
use Rattle.requests.specs.Delete.{Deleted}
use Rattle.requests.proofs.RequestLaws.{done_keeps}
use Rattle.requests.proofs.StateLaws.{recover_asks}

-- "the rules still hold" (demand 3): after actual delete
pub deleted_keeps : (b withheld body : List ℕ) (id : ℕ) (date : List ℕ) (r : ℕ) (b' body' : List ℕ) (p : Places) {extra : ℕ → ℕ} → GoodWith extra b p → Deleted b withheld body id date r b' body' → GoodWith extra b' p
deleted_keeps b withheld body id date r b' body' p g h =
    done_keeps r (released (places_of b) b id date) b b' p h.books (λ z.
    (let q = places_of b in
    let good = rw g.places at g in
    let file = (recover_asks b withheld body id date r h.number z q refl).1 in
    rw g.places (quiet_good b (released q b id date) q good
    (released_quiet q b good.layout good.lawful id file.0 file.1.0 date file.1.1)
    (released_lawful q b good.layout good.lawful id file.0 file.1.0 date file.1.1)))) g
