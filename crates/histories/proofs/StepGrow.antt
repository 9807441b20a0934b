-- Creates and grow leave the tables of other files, and a file that grows has its sectors and its header where it had them.
use Rattle.std.specs.Prelude.{Option, Result}
use mathlib.Core.Path.{◌≡◌, refl}
use mathlib.Core.List.{List}
use Prim.Native.Nat.{ℕ}
use native.Mathlib.Decide.{dec_lt}
use native.Mathlib.Omega.{arith}
use lib.ListN.{length}
use borrow.Author.Tests.{lt-ltb, le-ltb}
use Rattle.tables.specs.Books.{GoodWith}
use Rattle.tables.specs.Gates.{Gate}
use Rattle.tables.specs.Indexes.{length_of}
use Rattle.tables.specs.Places.{places_of}
use Rattle.tables.specs.Sector1.{first_free_of}
use Rattle.tables.specs.Views.{view_of, Parent}
use Rattle.allocation.specs.NewLawful.{NewLawful}
use Rattle.allocation.specs.NewTables.{New}
use Rattle.allocation.specs.MadeFiles.{created}
use Rattle.allocation.proofs.GrownLawful.{grown_header_start, grown_header_count}
use Rattle.files.specs.Unchanged.{Untouched, SamePlaces, HeaderKept}
use Rattle.files.proofs.UntouchedLaws.{untouched_refl, places_refl}
use Rattle.files.proofs.GrownFrame.{grown_untouched, grown_places, created_untouched, created_new}
use Rattle.requests.specs.Answers.{argument_tests}
use Rattle.requests.specs.Create.{Creates, CreatedFixed, CreatedVariable}
use Rattle.requests.specs.Amounts.{amount_value}
use Rattle.requests.specs.Grow.{grow_counts, lack_tests, grown_to, Grew}
use Rattle.requests.specs.Named.{file_bytes}
use Rattle.requests.proofs.CreateKeeps.{creates_asks, fixed_lawful, variable_lawful}
use Rattle.requests.proofs.GrowLaws.{grow_parent, grow_room, grow_date}
use Rattle.requests.proofs.LongerLaws.{lack_provided}
use Rattle.requests.proofs.WriteLaws.{grown_is}
use Rattle.histories.proofs.StepLeaves.{Leaves, leaves_at, leaves_new, leaves_done, header_refl, header_done}
use Rattle.tables.specs.Refusals.{number_of}
use Rattle.tables.specs.declared.refusal.Refusal.{Refusal}
use Rattle.tables.specs.declared.kinds.Index.{Index}

-- ---- a new file

module _ (b withheld : List ℕ) {extra : ℕ → ℕ} (g : GoodWith extra b (places_of b)) (gone : ℕ → Type 0) where
  creates_leaves : (P : Type 0) (counts : List ℕ) (n : New) (r : Result Index Refusal) (b' : List ℕ) → (P → NewLawful n counts × (length counts ≡ 6)) → Creates (argument_tests b withheld P) b counts n r b' → Leaves b b' 0 gone
  creates_leaves P counts n r b' new h =
      leaves_done b g 0 gone (number_of r) (created (places_of b) b n counts) b' h.books (λ z.
      (let a = creates_asks b withheld P counts n r b' g new h z in
      let l = a.0 in
      leaves_new b g 0 gone (created (places_of b) b n counts) (first_free_of b) (created_untouched (places_of b) b n counts a.1 l.name.most l.date.long l.weights)
      (created_new (places_of b) b n counts a.1 l.name.most l.date.long l.weights)))

  pub fixed_leaves : (name : List ℕ) (size : Option ℕ) (types : Option ℕ) (kind : ℕ) (date : List ℕ) (r : Result Index Refusal) (b' : List ℕ) → CreatedFixed b withheld name size types kind date r b' → Leaves b b' 0 gone
  fixed_leaves name size types kind date r b' = creates_leaves _ _ _ r b' (fixed_lawful name size types kind date)

  pub variable_leaves : (name : List ℕ) (cell : Option ℕ) (kind : ℕ) (date : List ℕ) (r : Result Index Refusal) (b' : List ℕ) → CreatedVariable b withheld name cell kind date r b' → Leaves b b' 0 gone
  variable_leaves name cell kind date r b' = creates_leaves _ _ _ r b' (variable_lawful name cell kind date)

-- ---- a file that grows

module _ (b : List ℕ) {extra : ℕ → ℕ} (g : GoodWith extra b (places_of b)) (id long : ℕ) (date : List ℕ) (parent : Parent (view_of (places_of b) b) id) (room : Gate (lack_tests b id long) 0) (six : length date ≡ 6) where
  pub longer_frame : Untouched (view_of (places_of b) b) (view_of (places_of b) (grown_to b id long date)) id × SamePlaces (view_of (places_of b) b) (view_of (places_of b) (grown_to b id long date)) id
      × HeaderKept (view_of (places_of b) b) (view_of (places_of b) (grown_to b id long date)) id
  unfolding grown_to
  longer_frame =
      let p = places_of b in
      let counts = grow_counts b id long in
      elim (dec_lt (length_of (file_bytes b id)) long) [
        | yes l ↦ (let provided = lack_provided b id long g room l in
            rw (lt-ltb (length_of (file_bytes b id)) long l) (
              grown_untouched p b id counts long date provided parent six,
              grown_places p b id counts long date provided parent six,
              record { start = grown_header_start p b id counts provided parent long date six; count = grown_header_count p b id counts provided parent long date six },
            ))
        | no nl ↦ rw (le-ltb (length_of (file_bytes b id)) long (omega arith)) (untouched_refl (view_of p b) id, places_refl (view_of p b) id, header_refl (view_of p b) id)
      ]

module _ (b withheld : List ℕ) {extra : ℕ → ℕ} (g : GoodWith extra b (places_of b)) (id : ℕ) (long : Option ℕ) (date : List ℕ) (r : ℕ) (b' : List ℕ) (h : Grew b withheld id long date r b') where
  abbrev new : List ℕ
  new = grown_to b id (amount_value long) date

  module _ (e : r ≡ 0) where
    parent : Parent (view_of (places_of b) b) id
    parent = grow_parent b withheld id long date r h.number e

    room : Gate (lack_tests b id (amount_value long)) 0
    room = grow_room b withheld id long date r h.number e (amount_value long) refl

    six : length date ≡ 6
    six = grow_date b withheld id long date r h.number e

    frame : Untouched (view_of (places_of b) b) (view_of (places_of b) new) id × SamePlaces (view_of (places_of b) b) (view_of (places_of b) new) id
        × HeaderKept (view_of (places_of b) b) (view_of (places_of b) new) id
    frame = longer_frame b g id (amount_value long) date parent room six

  pub grew_leaves : (gone : ℕ → Type 0) → Leaves b b' id gone
  grew_leaves gone = leaves_done b g id gone r new b' h.books (λ e.
      leaves_at b g id gone new id (frame e).0 (λ h stands ne. ne) (λ stands kept. ((grown_is b id (amount_value long) date g (parent e) (room e) (six e)).parent, (frame e).1)))

  pub grew_header : HeaderKept (view_of (places_of b) b) (view_of (places_of b) b') id
  grew_header = header_done b id r new b' h.books (λ e. (frame e).2)
