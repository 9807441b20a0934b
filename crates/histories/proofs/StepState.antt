-- Temporary delete, recover and set protection leave the tables of other files, and their file has its sectors and its header where it had them.
use mathlib.Core.Path.{◌≡◌, sym}
use mathlib.Core.Logic.{◌≢◌, inl, inr}
use mathlib.Core.List.{List}
use Prim.Native.Nat.{ℕ, ◌≤◌, ◌<◌}
use native.Mathlib.Omega.{arith}
use lib.ListN.{length, get_or}
use Rattle.tables.specs.declared.places.Places.{Places}
use Rattle.tables.specs.Books.{GoodWith}
use Rattle.tables.specs.Indexes.{table_at}
use Rattle.tables.specs.Lawful.{LawfulWith}
use Rattle.tables.specs.Places.{places_of, Layout}
use Rattle.tables.specs.Views.{view_of, Parent}
use Rattle.tables.proofs.FrameLaws.{header_start_kept, header_count_kept}
use Rattle.allocation.proofs.RestatedLaws.{Restated, restated_parent}
use Rattle.files.specs.Unchanged.{Untouched, SamePlaces, HeaderKept}
use Rattle.files.proofs.UntouchedLaws.{restated_untouched, restated_places}
use Rattle.requests.specs.Answers.{after}
use Rattle.requests.specs.State.{removed, recovered, protected, Removed, Recovered, Protected}
use Rattle.requests.proofs.StampLaws.{removed_restates, recovered_restates, protected_restates}
use Rattle.histories.proofs.StepLeaves.{Leaves, leaves_at, leaves_done, header_done, stood, stood_done}

module _ (p : Places) (b : List ℕ) (lay : Layout p (length b)) {extra : ℕ → ℕ} (lawful : LawfulWith extra p b) (b' : List ℕ) (f : ℕ) (parent : Parent (view_of p b) f) (h : Restated (view_of p b) (view_of p b') f) where
  low : (o : ℕ) → o < 28 → get_or (table_at p b' f) o 0 ≡ get_or (table_at p b f) o 0
  low o l = h.here.out o (inl (omega arith))

  high : (o : ℕ) → 64 ≤ o → get_or (table_at p b' f) o 0 ≡ get_or (table_at p b f) o 0
  high o l = h.here.out o (inr (omega arith))

  pub restates_frame : Untouched (view_of p b) (view_of p b') f × SamePlaces (view_of p b) (view_of p b') f × HeaderKept (view_of p b) (view_of p b') f
  restates_frame = (
    restated_untouched p b lay lawful b' f parent h.there low high,
    restated_places p b lay lawful b' f parent h.there low high,
    record { start = header_start_kept h.here (inr (omega arith)); count = header_count_kept h.here (inr (omega arith)) },
  )

-- of the file's parent bytes 28 to 63 change at most, of others none: the files are those that stood before
pub stated_stood : (p : Places) (b b' : List ℕ) {extra : ℕ → ℕ} → GoodWith extra b' p → (f : ℕ) → Parent (view_of p b) f → Untouched (view_of p b) (view_of p b') f
    → ((j : ℕ) → 1 ≤ j → j ≤ p.indexes → j ≢ f → table_at p b' j ≡ table_at p b j)
    → ((o : ℕ) → o < 28 → get_or (table_at p b' f) o 0 ≡ get_or (table_at p b f) o 0) → ((o : ℕ) → 64 ≤ o → get_or (table_at p b' f) o 0 ≡ get_or (table_at p b f) o 0)
    → (h : ℕ) → Parent (view_of p b') h → Parent (view_of p b) h × SamePlaces (view_of p b') (view_of p b) h
stated_stood p b b' g f parent u there under over =
    stood p b b' g f u (λ now. (parent, restated_places p b' g.layout g.lawful b f now (λ j lo hi ne. sym (there j lo hi ne)) (λ o l. sym (under o l)) (λ o l. sym (over o l))))

-- such a request names f, and leaves all files standing
module _ (b : List ℕ) {extra : ℕ → ℕ} (g : GoodWith extra b (places_of b)) (f : ℕ) where
  restated_leaves : (gone : ℕ → Type 0) (r : ℕ) (new b' : List ℕ) → b' ≡ after r new b → (r ≡ 0 → Parent (view_of (places_of b) b) f × Restated (view_of (places_of b) b) (view_of (places_of b) new) f)
      → Leaves b b' f gone
  restated_leaves gone r new b' e h =
      let p = places_of b in
      leaves_done b g f gone r new b' e (λ z.
      (let q = h z in
      let frame = restates_frame p b g.layout g.lawful new f q.0 q.1 in
      leaves_at b g f gone new f frame.0 (λ i stands ne. ne) (λ stands kept. (restated_parent (view_of p b) (view_of p new) f q.1 q.0, frame.1))))

  restated_header : (r : ℕ) (new b' : List ℕ) → b' ≡ after r new b → (r ≡ 0 → Parent (view_of (places_of b) b) f × Restated (view_of (places_of b) b) (view_of (places_of b) new) f)
      → HeaderKept (view_of (places_of b) b) (view_of (places_of b) b') f
  restated_header r new b' e h = header_done b f r new b' e (λ z. (restates_frame (places_of b) b g.layout g.lawful new f (h z).0 (h z).1).2)

  restated_stood : (r : ℕ) (new b' : List ℕ) → b' ≡ after r new b → GoodWith extra b' (places_of b) → (r ≡ 0 → Parent (view_of (places_of b) b) f × Restated (view_of (places_of b) b) (view_of (places_of b) new) f)
      → (i : ℕ) → Parent (view_of (places_of b) b') i → Parent (view_of (places_of b) b) i × SamePlaces (view_of (places_of b) b') (view_of (places_of b) b) i
  restated_stood r new b' e good h =
      let p = places_of b in
      stood_done b r new b' e (λ z.
      (let is : b' ≡ new = rw z at e in
      let q : Restated (view_of p b) (view_of p b') f = rw is (h z).1 in
      stated_stood p b b' good f (h z).0 (restates_frame p b g.layout g.lawful b' f (h z).0 q).0 q.there
      (low p b g.layout g.lawful b' f (h z).0 q) (high p b g.layout g.lawful b' f (h z).0 q)))

module _ (b withheld : List ℕ) {extra : ℕ → ℕ} (g : GoodWith extra b (places_of b)) (f : ℕ) where
  module _ (date : List ℕ) (r : ℕ) (b' : List ℕ) where
    module _ (body body' : List ℕ) (h : Removed b withheld body f date r b' body') where
      pub removed_leaves : (gone : ℕ → Type 0) → Leaves b b' f gone
      removed_leaves gone = restated_leaves b g f gone r (removed (places_of b) b f date) b' h.books (removed_restates b withheld (_, g) f date r body h.number)

      pub removed_header : HeaderKept (view_of (places_of b) b) (view_of (places_of b) b') f
      removed_header = restated_header b g f r (removed (places_of b) b f date) b' h.books (removed_restates b withheld (_, g) f date r body h.number)

      pub removed_stood : GoodWith extra b' (places_of b) → (i : ℕ) → Parent (view_of (places_of b) b') i → Parent (view_of (places_of b) b) i × SamePlaces (view_of (places_of b) b') (view_of (places_of b) b) i
      removed_stood good = restated_stood b g f r (removed (places_of b) b f date) b' h.books good (removed_restates b withheld (_, g) f date r body h.number)

    module _ (body body' : List ℕ) (h : Recovered b withheld body f date r b' body') where
      pub recovered_leaves : (gone : ℕ → Type 0) → Leaves b b' f gone
      recovered_leaves gone = restated_leaves b g f gone r (recovered (places_of b) b f date) b' h.books (recovered_restates b withheld (_, g) f date r body h.number)

      pub recovered_header : HeaderKept (view_of (places_of b) b) (view_of (places_of b) b') f
      recovered_header = restated_header b g f r (recovered (places_of b) b f date) b' h.books (recovered_restates b withheld (_, g) f date r body h.number)

      pub recovered_stood : GoodWith extra b' (places_of b) → (i : ℕ) → Parent (view_of (places_of b) b') i → Parent (view_of (places_of b) b) i × SamePlaces (view_of (places_of b) b') (view_of (places_of b) b) i
      recovered_stood good = restated_stood b g f r (recovered (places_of b) b f date) b' h.books good (recovered_restates b withheld (_, g) f date r body h.number)

    module _ (w : ℕ) (h : Protected b withheld f w date r b') where
      pub protected_leaves : (gone : ℕ → Type 0) → Leaves b b' f gone
      protected_leaves gone = restated_leaves b g f gone r (protected (places_of b) b f w date) b' h.books (protected_restates b withheld (_, g) f date r w h.number)

      pub protected_header : HeaderKept (view_of (places_of b) b) (view_of (places_of b) b') f
      protected_header = restated_header b g f r (protected (places_of b) b f w date) b' h.books (protected_restates b withheld (_, g) f date r w h.number)
