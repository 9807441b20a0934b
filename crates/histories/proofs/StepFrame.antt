-- What every step keeps: a lawful volume, and of files their tables, places, bytes and headers.
use mathlib.Core.Path.{◌≡◌, refl, sym, ap, subst, ◌∙◌}
use mathlib.Core.Logic.{◌≢◌}
use mathlib.Core.List.{List}
use Prim.Native.Nat.{ℕ, ◌-◌, ◌*◌}
use Rattle.tables.specs.declared.places.Places.{Places}
use Rattle.tables.specs.Books.{Good}
use Rattle.tables.specs.Places.{places_of}
use Rattle.tables.specs.Views.{view_of, Parent}
use Rattle.tables.specs.Withheld.{withheld_over, KeepsTypes}
use Rattle.files.specs.Moves.{sector_content}
use Rattle.files.specs.Unchanged.{Untouched, SamePlaces}
use Rattle.tables.proofs.GateLaws.{zero_good, good_zero}
use Rattle.tables.proofs.WithheldLaws.{kept_over, good_kept}
use Rattle.histories.specs.History.{Volume, seen, LawfulVolume, Request, Does, named_by, Belongs, header_of, PutsIn, Deletes, PutsHeaderIn, SameHeader}
use Rattle.histories.proofs.StepLeaves.{Leaves}
use Rattle.histories.proofs.StepEffects.{Effect, step_effect}

module _ (v v' : Volume) (lawful : LawfulVolume v) (q : Request) (d : Does q v v') where
  good : Good v.books v.withheld (places_of v.books)
  good = zero_good v.books v.withheld lawful.lawful

  effect : Effect (withheld_over (seen v) v.withheld) v v' (named_by q) (Deletes v v' q d) (PutsIn v v' q d) (PutsHeaderIn v v' q d)
  effect = step_effect q v v' good.books d

  leaves : Leaves v.books v'.books (named_by q) (Deletes v v' q d)
  leaves = effect.leaves

  places : places_of v.books ≡ places_of v'.books
  places = effect.good.places

  -- the tables stay where they are
  pub step_places : places_of v'.books ≡ places_of v.books
  step_places = sym places

  pub step_lawful : LawfulVolume v'
  step_lawful = record {
    lawful = rw effect.list (good_zero v'.books v.withheld (places_of v.books) (good_kept v.books v'.books v.withheld (places_of v.books) good effect.good effect.types));
    sized = effect.long ∙ lawful.sized ∙ ap (λ (p : Places). 1048576 * (p.zones - 2)) places;
  }

  -- so does the list of withheld blocks, and the type of each of their zones
  pub step_list : v'.withheld ≡ v.withheld
  step_list = effect.list

  pub step_types : KeepsTypes (withheld_over (seen v) v.withheld) (seen v) (seen v')
  step_types = subst (λ (p : Places). KeepsTypes (withheld_over (seen v) v.withheld) (seen v) (view_of p v'.books)) places effect.types

  -- the same sectors are withheld
  pub step_over : (s : ℕ) → withheld_over (seen v') v'.withheld s ≡ withheld_over (seen v) v.withheld s
  step_over s =
      let here : withheld_over (view_of (places_of v.books) v'.books) v.withheld s ≡ withheld_over (seen v) v.withheld s
      = kept_over (seen v) (view_of (places_of v.books) v'.books) v.withheld refl good.list good.books.lawful.r2 effect.types s in
      rw effect.list (subst (λ (p : Places). withheld_over (view_of p v'.books) v.withheld s ≡ withheld_over (seen v) v.withheld s) places here)

  -- of the files that stand, only the named one's tables may change; a new file is none of them
  pub step_untouched : (x : ℕ) × Untouched (seen v) (seen v') x × ((g : ℕ) → Parent (seen v) g → g ≢ named_by q → g ≢ x)
  step_untouched = (leaves.changed, subst (λ (p : Places). Untouched (seen v) (view_of p v'.books) leaves.changed) places leaves.untouched, leaves.only)

  -- every file that is not actually deleted stands, its sectors at their places
  pub step_stands : (f : ℕ) → Parent (seen v) f → (Deletes v v' q d f → ⊥) → Parent (seen v') f × SamePlaces (seen v) (seen v') f
  step_stands f parent kept =
      subst (λ (p : Places). Parent (view_of p v'.books) f × SamePlaces (seen v) (view_of p v'.books) f) places (leaves.stands f parent kept)

  -- a sector of a file holds what it held, unless the request puts bytes there
  pub step_bytes : (f k s : ℕ) → Belongs v' f k s → ((bytes : List ℕ) → PutsIn v v' q d f k bytes → ⊥) → sector_content v'.body s ≡ sector_content v.body s
  step_bytes = effect.bytes

  -- and where it does, these bytes
  pub step_puts : (f k : ℕ) (bytes : List ℕ) → PutsIn v v' q d f k bytes → (s : ℕ) × Belongs v' f k s × (sector_content v'.body s ≡ bytes)
  step_puts = effect.put

  -- of the files that stand, only the named one is written
  pub step_own : (f k : ℕ) (bytes : List ℕ) → PutsIn v v' q d f k bytes → Parent (seen v) f → named_by q ≡ f
  step_own = effect.own

  -- a header stays, but for the id, unless the file is actually deleted or gets another
  pub step_header : (f : ℕ) → Parent (seen v) f → (Deletes v v' q d f → ⊥) → ((bytes : List ℕ) → PutsHeaderIn v v' q d f bytes → ⊥) → SameHeader v v' f
  step_header = effect.header

  -- of a file that is not named the id stays too
  pub step_other : (f : ℕ) → Parent (seen v) f → named_by q ≢ f → header_of v' f ≡ header_of v f
  step_other = effect.other

  -- and where it gets another, it has these bytes
  pub step_headed : (f : ℕ) (bytes : List ℕ) → PutsHeaderIn v v' q d f bytes → Parent (seen v') f × (header_of v' f ≡ bytes)
  step_headed = effect.headed
