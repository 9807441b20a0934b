-- What a step does to the volume: one record, shown once for each request.
use mathlib.Core.Path.{◌≡◌, refl, sym, ap, subst, ◌∙◌}
use mathlib.Core.Logic.{◌≢◌}
use mathlib.Core.List.{List}
use Prim.Native.Nat.{ℕ}
use native.Mathlib.Decide.{ℕ_discrete}
use native.Mathlib.Omega.{arith}
use lib.ListN.{length}
use Rattle.tables.specs.declared.places.Places.{Places}
use Rattle.tables.specs.Books.{GoodWith}
use Rattle.tables.specs.Indexes.{minus}
use Rattle.tables.specs.Places.{places_of}
use Rattle.tables.specs.Views.{view_of, Parent, UnderHeader}
use Rattle.tables.specs.Withheld.{KeepsTypes}
use Rattle.files.specs.Moves.{sector_content}
use Rattle.files.specs.Unchanged.{SamePlaces, HeaderKept}
use Rattle.requests.specs.Answers.{after}
use Rattle.requests.specs.State.{marked_body}
use Rattle.requests.proofs.BodyLaws.{marked_long}
use Rattle.requests.proofs.MountKeeps.{mounted_keeps, dismounted_keeps}
use Rattle.requests.proofs.CreateKeeps.{fixed_keeps, variable_keeps, grew_keeps}
use Rattle.requests.proofs.StateKeeps.{removed_keeps, recovered_keeps, protected_keeps}
use Rattle.requests.proofs.StateLaws.{remove_asks, recover_asks}
use Rattle.requests.proofs.DeleteKeeps.{deleted_keeps}
use Rattle.requests.proofs.PlaceHeaderKeeps.{header_placed_keeps, header_placed_long}
use Rattle.requests.proofs.WriteKeeps.{wrote_keeps}
use Rattle.requests.proofs.TypesKept.{mounted_types, dismounted_types, removed_types, recovered_types, protected_types, fixed_types, variable_types, grew_types, wrote_types, deleted_types, header_placed_types}
use Rattle.histories.specs.History.{Volume, seen, Request, looks, mount, dismount, create_fixed, create_variable, grow, temporary_delete, recover, actual_delete, set_protection, place_header, write, Does, named_by, Belongs, header_of, PutsIn, Deletes, PutsHeaderIn, SameHeader}
use Rattle.histories.proofs.HeaderBody.{pointer_seen, header_past_id, header_same, header_whole}
use Rattle.histories.proofs.StepLeaves.{Leaves, leaves_same, other_pointer, every_pointer, mounted_leaves, dismounted_leaves, deleted_parent, deleted_leaves, deleted_header, deleted_stood}
use Rattle.histories.proofs.StepState.{removed_leaves, removed_header, removed_stood, recovered_leaves, recovered_header, recovered_stood, protected_leaves, protected_header}
use Rattle.histories.proofs.StepGrow.{fixed_leaves, variable_leaves, grew_leaves, grew_header}
use Rattle.histories.proofs.StepWrite.{wrote_leaves, wrote_header, wrote_bytes, wrote_headers, wrote_puts}
use Rattle.histories.proofs.StepDelete.{marked_data, marked_others, marked_own}
use Rattle.histories.proofs.StepHeader.{placed_leaves, placed_stood, refused_pointer, refused_body, placed_data, placed_others, placed_headed}

-- from v to v': `named` is the file that the step names, `gone` the files that it deletes, `puts f k bytes` says that it puts these bytes at
-- place k of file f, and `heads f bytes` that it makes these bytes the header of file f
pub record Effect (extra : ℕ → ℕ) (v v' : Volume) (named : ℕ) (gone : ℕ → Type 0) (puts : ℕ → ℕ → List ℕ → Type 0) (heads : ℕ → List ℕ → Type 0) : Type 0 where
  -- the books stay good at their places, zones with sectors that are set besides keep their types, the body is as long as it was, and the list
  -- of withheld blocks is the same
  pub good : GoodWith extra v'.books (places_of v.books)
  pub types : KeepsTypes extra (seen v) (view_of (places_of v.books) v'.books)
  pub list : v'.withheld ≡ v.withheld
  pub long : length v'.body ≡ length v.body
  -- the files, their tables and places
  pub leaves : Leaves v.books v'.books named gone
  -- a sector of a file holds what it held, unless bytes are put there
  pub bytes : (f k s : ℕ) → Belongs v' f k s → ((bytes : List ℕ) → puts f k bytes → ⊥) → sector_content v'.body s ≡ sector_content v.body s
  -- and where they are, these bytes
  pub put : (f k : ℕ) (bytes : List ℕ) → puts f k bytes → (s : ℕ) × Belongs v' f k s × (sector_content v'.body s ≡ bytes)
  -- of the files before, only the named one is written
  pub own : (f k : ℕ) (bytes : List ℕ) → puts f k bytes → Parent (seen v) f → named ≡ f
  -- a header stays, but for the id, unless the file is gone or gets another
  pub header : (f : ℕ) → Parent (seen v) f → (gone f → ⊥) → ((bytes : List ℕ) → heads f bytes → ⊥) → SameHeader v v' f
  -- of a file that is not named the id stays too
  pub other : (f : ℕ) → Parent (seen v) f → named ≢ f → header_of v' f ≡ header_of v f
  -- and where it gets another, it has these bytes
  pub headed : (f : ℕ) (bytes : List ℕ) → heads f bytes → Parent (seen v') f × (header_of v' f ≡ bytes)

module _ (v v' : Volume) {extra : ℕ → ℕ} (g : GoodWith extra v.books (places_of v.books)) (good : GoodWith extra v'.books (places_of v.books)) (long : length v'.body ≡ length v.body)
    {named : ℕ} {gone : ℕ → Type 0} (leaves : Leaves v.books v'.books named gone) where
  -- headers of files that are not named, if their sectors hold what they held
  others : ((f s : ℕ) → UnderHeader (seen v) f s → named ≢ f → sector_content v'.body s ≡ sector_content v.body s) → (f : ℕ) → Parent (seen v) f → named ≢ f → header_of v' f ≡ header_of v f
  others each f parent ne =
      header_same v g v' good.places f (other_pointer v.books g named gone v'.books leaves f parent (λ e. ne (sym e))) parent long (λ s u. each f s u ne)

  others_same : ((f s : ℕ) → UnderHeader (seen v) f s → named ≢ f → sector_content v'.body s ≡ sector_content v.body s) → (f : ℕ) → Parent (seen v) f → named ≢ f → SameHeader v v' f
  others_same each f parent ne =
      header_whole v g v' good.places f (other_pointer v.books g named gone v'.books leaves f parent (λ e. ne (sym e))) (others each f parent ne)

  -- all headers, if the named file has its own where it was, and all sectors of headers hold what they held
  module _ (own : Parent (seen v) named → (gone named → ⊥) → HeaderKept (seen v) (view_of (places_of v.books) v'.books) named) where
    -- a header's sector is one afterwards
    still_under : (f s : ℕ) → UnderHeader (seen v) f s → (gone f → ⊥) → UnderHeader (seen v') f s
    still_under f s u kept =
        let pointer = pointer_seen v g v' good.places f (every_pointer v.books g named gone v'.books leaves own f u.parent kept) in
        let stands = subst (λ (p : Places). Parent (view_of p v'.books) f) good.places (leaves.stands f u.parent kept).0 in
        record { parent = stands; from = rw pointer.start u.from; to = rw (pointer.start, pointer.count) u.to }

    module _ (each : (f s : ℕ) → UnderHeader (seen v) f s → (gone f → ⊥) → sector_content v'.body s ≡ sector_content v.body s) where
      all_same : (f : ℕ) → Parent (seen v) f → (gone f → ⊥) → SameHeader v v' f
      all_same f parent kept =
          let pointer = every_pointer v.books g named gone v'.books leaves own f parent kept in
          header_whole v g v' good.places f pointer (header_same v g v' good.places f pointer parent long (λ s u. each f s u kept))

  -- what stood before, in what is seen after
  stood_seen : ((f : ℕ) → Parent (view_of (places_of v.books) v'.books) f → Parent (seen v) f × SamePlaces (view_of (places_of v.books) v'.books) (seen v) f)
      → (f k s : ℕ) → Belongs v' f k s → Belongs v f k s
  stood_seen back f k s here =
      let q = subst (λ (p : Places). (i : ℕ) → Parent (view_of p v'.books) i → Parent (seen v) i × SamePlaces (view_of p v'.books) (seen v) i) good.places back f here.file in
      record { file = q.0; place = omega (arith, here.place, q.1.most); here = q.1.place k here.place ∙ here.here }

-- a body that stays: the books tell all
books_effect : (v v' : Volume) {extra : ℕ → ℕ} → GoodWith extra v.books (places_of v.books) → {named : ℕ} {gone : ℕ → Type 0} → v'.body ≡ v.body → v'.withheld ≡ v.withheld
    → GoodWith extra v'.books (places_of v.books) → KeepsTypes extra (seen v) (view_of (places_of v.books) v'.books) → Leaves v.books v'.books named gone
    → (Parent (seen v) named → HeaderKept (seen v) (view_of (places_of v.books) v'.books) named) → Effect extra v v' named gone (λ f k bytes. ⊥) (λ f bytes. ⊥)
books_effect v v' g same list good types leaves own = record {
  good = good;
  types = types;
  list = list;
  long = ap length same;
  leaves = leaves;
  bytes = λ f k s here unwritten. ap (λ (y : List ℕ). sector_content y s) same;
  put = λ f k bytes put. absurd put;
  own = λ f k bytes put parent. absurd put;
  header = λ f parent kept unplaced. all_same v v' g good (ap length same) leaves (λ parent kept. own parent) (λ f s u kept. ap (λ (y : List ℕ). sector_content y s) same) f parent kept;
  other = others v v' g good (ap length same) leaves (λ f s u ne. ap (λ (y : List ℕ). sector_content y s) same);
  headed = λ f bytes heads. absurd heads;
}

-- no file is named
nobody : (v v' : Volume) → Parent (seen v) 0 → HeaderKept (seen v) (view_of (places_of v.books) v'.books) 0
nobody v v' parent = absurd (omega (arith, parent.low))

-- the id of the named file's header is written, where it has one
marked_effect : (v v' : Volume) {extra : ℕ → ℕ} → GoodWith extra v.books (places_of v.books) → {gone : ℕ → Type 0} → (id w r : ℕ) → v'.withheld ≡ v.withheld → v'.body ≡ after r (marked_body v.books id w v.body) v.body
    → GoodWith extra v'.books (places_of v.books) → KeepsTypes extra (seen v) (view_of (places_of v.books) v'.books) → Leaves v.books v'.books id gone → (r ≡ 0 → Parent (seen v) id)
    → ((gone id → ⊥) → HeaderKept (seen v) (view_of (places_of v.books) v'.books) id)
    → ((f : ℕ) → Parent (view_of (places_of v.books) v'.books) f → Parent (seen v) f × SamePlaces (view_of (places_of v.books) v'.books) (seen v) f)
    → Effect extra v v' id gone (λ f k bytes. ⊥) (λ f bytes. ⊥)
marked_effect v v' g {gone} id w r list is good types leaves here own back =
    let long = marked_long r v.books id w v.body v'.body is in
    let each = marked_others v g id w r v'.body is here in
    record {
      good = good;
      types = types;
      list = list;
      long = long;
      leaves = leaves;
      bytes = λ f k s now unwritten. marked_data v g id w r v'.body is here f k s (stood_seen v v' g good long leaves back f k s now);
      put = λ f k bytes put. absurd put;
      own = λ f k bytes put parent. absurd put;
      header = λ f parent kept unplaced. header f parent kept;
      other = others v v' g good long leaves each;
      headed = λ f bytes heads. absurd heads;
    }
  where
    header : (f : ℕ) → Parent (seen v) f → (gone f → ⊥) → SameHeader v v' f
    header f parent kept =
        let long = marked_long r v.books id w v.body v'.body is in
        elim (ℕ_discrete id f) [
          | yes e ↦ rw (← e) (header_past_id v g v' good.places id (own (rw (← e) at kept)) (marked_own v g id w r v'.body is here))
          | no ne ↦ others_same v v' g good long leaves (marked_others v g id w r v'.body is here) f parent ne
        ]

-- each request
pub step_effect : (q : Request) (v v' : Volume) {extra : ℕ → ℕ} → GoodWith extra v.books (places_of v.books) → (d : Does q v v')
    → Effect extra v v' (named_by q) (Deletes v v' q d) (PutsIn v v' q d) (PutsHeaderIn v v' q d)
step_effect (looks q) v v' g (a, e) =
    books_effect v v' g (ap (λ (w : Volume). w.body) e) (ap (λ (w : Volume). w.withheld) e) (rw e g) (rw e (λ s l lo some. refl))
    (leaves_same v.books g 0 _ v'.books (ap (λ (w : Volume). w.books) e)) (nobody v v')
step_effect mount v v' g (r, h) =
    books_effect v v' g h.same h.list (mounted_keeps _ _ r _ _ h.promise g) (mounted_types _ _ g r _ h.promise) (mounted_leaves _ _ g 0 _ r _ h.promise) (nobody v v')
step_effect dismount v v' g (r, h) =
    books_effect v v' g h.same h.list (dismounted_keeps _ _ r _ _ h.promise g) (dismounted_types _ _ g r _ h.promise) (dismounted_leaves _ _ g 0 _ r _ h.promise) (nobody v v')
step_effect (create_fixed name size types kind date) v v' g (r, h) =
    books_effect v v' g h.same h.list (fixed_keeps _ _ name size types kind date r _ _ h.promise g) (fixed_types _ _ g name size types kind date r _ h.promise)
    (fixed_leaves _ _ g _ name size types kind date r _ h.promise) (nobody v v')
step_effect (create_variable name cell kind date) v v' g (r, h) =
    books_effect v v' g h.same h.list (variable_keeps _ _ name cell kind date r _ _ h.promise g) (variable_types _ _ g name cell kind date r _ h.promise)
    (variable_leaves _ _ g _ name cell kind date r _ h.promise) (nobody v v')
step_effect (grow id long date) v v' g (r, h) =
    books_effect v v' g h.same h.list (grew_keeps _ _ id long date r _ _ h.promise g) (grew_types _ _ g id long date r _ h.promise)
    (grew_leaves _ _ g id long date r _ h.promise _) (λ parent. grew_header _ _ g id long date r _ h.promise)
step_effect (temporary_delete id date) v v' g (r, k) =
    let h = k.promise in
    let good = removed_keeps v.books v.withheld v.body id date r v'.books v'.body _ h g in
    marked_effect v v' g id (minus id) r k.list h.body'' good (removed_types v.books v.withheld g v.body id date r v'.books v'.body h)
    (removed_leaves v.books v.withheld g id date r v'.books v.body v'.body h _)
    (λ z. (remove_asks v.books v.withheld v.body id date r h.number z (places_of v.books) refl).1.0)
    (λ kept. removed_header v.books v.withheld g id date r v'.books v.body v'.body h) (removed_stood v.books v.withheld g id date r v'.books v.body v'.body h good)
step_effect (recover id date) v v' g (r, k) =
    let h = k.promise in
    let good = recovered_keeps v.books v.withheld v.body id date r v'.books v'.body _ h g in
    marked_effect v v' g id id r k.list h.body'' good (recovered_types v.books v.withheld g v.body id date r v'.books v'.body h)
    (recovered_leaves v.books v.withheld g id date r v'.books v.body v'.body h _)
    (λ z. (recover_asks v.books v.withheld v.body id date r h.number z (places_of v.books) refl).1.0)
    (λ kept. recovered_header v.books v.withheld g id date r v'.books v.body v'.body h) (recovered_stood v.books v.withheld g id date r v'.books v.body v'.body h good)
step_effect (actual_delete id date) v v' g (r, k) =
    let h = k.promise in
    let good = deleted_keeps v.books v.withheld v.body id date r v'.books v'.body _ g h in
    marked_effect v v' g id 0 r k.list h.body'' good (deleted_types v.books v.withheld g v.body id date r v'.books v'.body h)
    (deleted_leaves v.books v.withheld v.body g id date r v'.books v'.body h)
    (deleted_parent v.books v.withheld v.body g id date r v'.books v'.body h)
    (deleted_header v.books v.withheld v.body g id date r v'.books v'.body h)
    (deleted_stood v.books v.withheld v.body g id date r v'.books v'.body h good)
step_effect (set_protection id w date) v v' g (r, h) =
    books_effect v v' g h.same h.list (protected_keeps _ _ id w date r _ _ h.promise g) (protected_types _ _ g id w date r _ h.promise)
    (protected_leaves _ _ g id date r _ w h.promise _) (λ parent. protected_header _ _ g id date r _ w h.promise)
step_effect (place_header id content date) v v' g (r, q) =
    let h = q.promise in
    let good = header_placed_keeps v.books v.withheld v.body id content date r v'.books v'.body (places_of v.books) h g in
    let long = header_placed_long v.books v.withheld v.body id content date r v'.books v'.body h in
    let leaves = placed_leaves v v' g good id content date r h (λ f. ⊥) in
    let each = placed_others v v' g good id content date r h in
    record {
      good = good;
      types = header_placed_types v.books v.withheld g v.body id content date r v'.books v'.body h;
      list = q.list;
      long = long;
      leaves = leaves;
      bytes = λ f k s now unwritten. placed_data v v' g good id content date r h f k s (stood_seen v v' g good long leaves (placed_stood v v' g good id content date r h) f k s now);
      put = λ f k bytes put. absurd put;
      own = λ f k bytes put parent. absurd put;
      header = λ f parent kept unplaced. elim (ℕ_discrete id f) [
        | yes e ↦ elim (ℕ_discrete r 0) [
          | yes done ↦ absurd (unplaced _ (record { file = e; done = done; bytes' = refl }))
          | no ne ↦ all_same v v' g good long leaves (λ parent kept. refused_pointer v v' g good id content date r h ne)
              (λ f s u kept. ap (λ (y : List ℕ). sector_content y s) (refused_body v v' g good id content date r h ne)) f parent kept
        ]
        | no ne ↦ others_same v v' g good long leaves each f parent ne
      ];
      other = others v v' g good long leaves each;
      headed = placed_headed v v' g good id content date r h;
    }
step_effect (write id position long exchange input date) v v' g (r, q) =
    let h = q.promise in
    let keeps = wrote_keeps v.books v.withheld v.body id position long exchange input date r v'.books v'.body (places_of v.books) g h in
    let leaves = wrote_leaves v v' id position long exchange input date r h g (λ f. ⊥) in
    let own : Parent (seen v) id → (⊥ → ⊥) → HeaderKept (seen v) (view_of (places_of v.books) v'.books) id
    = λ parent kept. wrote_header v v' id position long exchange input date r h g in
    let each : (f s : ℕ) → UnderHeader (seen v) f s → (⊥ → ⊥) → sector_content v'.body s ≡ sector_content v.body s
    = λ f s u kept. wrote_headers v v' id position long exchange input date r h f s (still_under v v' g keeps.0 keeps.1 leaves own f s u kept) in
    record {
      good = keeps.0;
      types = wrote_types v.books v.withheld g v.body id position long exchange input date r v'.books v'.body h;
      list = q.list;
      long = keeps.1;
      leaves = leaves;
      bytes = wrote_bytes v v' id position long exchange input date r h;
      put = wrote_puts v v' id position long exchange input date r h;
      own = λ f k bytes put parent. put.file;
      header = λ f parent kept unplaced. all_same v v' g keeps.0 keeps.1 leaves own each f parent kept;
      other = others v v' g keeps.0 keeps.1 leaves (λ f s u ne. each f s u (λ z. z));
      headed = λ f bytes heads. absurd heads;
    }
