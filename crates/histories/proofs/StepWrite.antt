-- Write: it leaves the tables of other files, its file has its sectors and its header where it had them, and only the written
-- sectors' bytes change.
use Rattle.std.specs.Prelude.{Option, Result}
use mathlib.Core.Path.{◌≡◌, refl, sym, ap, ◌∙◌}
use mathlib.Core.Logic.{◌≢◌}
use mathlib.Core.Bool.{Bool}
use mathlib.Core.List.{List}
use Prim.Native.Nat.{ℕ, zero, suc, ◌+◌, ◌-◌, ◌/◌, ◌≤◌, ◌<◌}
use native.Mathlib.Decide.{ℕ_discrete}
use native.Mathlib.Omega.{arith}
use lib.ListN.{length}
use Rattle.field.proofs.BitLaws.{bit_at_lt}
use Rattle.tables.specs.declared.places.Places.{Places}
use Rattle.tables.specs.Books.{GoodWith}
use Rattle.tables.specs.Dates.{Date}
use Rattle.tables.specs.Gates.{Gate}
use Rattle.tables.specs.Lawful.{LawfulWith, LawfulSome}
use Rattle.tables.specs.Places.{places_of, Layout}
use Rattle.tables.specs.Sector1.{flag_of}
use Rattle.tables.specs.Views.{view_of, Parent, UnderHeader}
use Rattle.tables.proofs.PointerLaws.{header_inside, pointer_apart}
use Rattle.files.specs.Moves.{moved, sector_content, buffer_sector, filled, Movable}
use Rattle.files.specs.Spots.{kth_sector}
use Rattle.files.specs.Unchanged.{Untouched, SamePlaces, HeaderKept}
use Rattle.files.proofs.MoveLaws.{filled_in, filled_out}
use Rattle.files.proofs.SectorPlaceLaws.{kth_under, place_one}
use Rattle.files.proofs.SpotLaws.{kth_inside}
use Rattle.files.proofs.UntouchedLaws.{untouched_refl, untouched_trans, places_refl, places_trans}
use Rattle.requests.specs.Answers.{after}
use Rattle.requests.specs.Amounts.{amount_value}
use Rattle.requests.specs.Grow.{lack_tests, grown_to}
use Rattle.requests.specs.Moving.{whole_sectors}
use Rattle.requests.specs.Write.{asked_length, settle, written_books, written_body, Wrote}
use Rattle.histories.specs.History.{Volume, seen, Belongs, Puts}
use Rattle.requests.proofs.RequestLaws.{after_refused}
use Rattle.requests.proofs.WriteLaws.{write_allows, write_parent, write_lack}
use Rattle.requests.proofs.WriteKeeps.{some_written, none_written, grown, grown_good, settles, written_parent, written_flag, wrote_asks}
use Rattle.histories.proofs.StepLeaves.{Leaves, leaves_at, leaves_done, header_refl, header_trans, header_done}
use Rattle.histories.proofs.StepState.{restates_frame}
use Rattle.histories.proofs.StepGrow.{longer_frame}
use Rattle.tables.specs.Refusals.{number_of}
use Rattle.tables.specs.declared.refusal.Refusal.{Refusal}

-- ---- the books

module _ (b : List ℕ) {extra : ℕ → ℕ} (g : GoodWith extra b (places_of b)) (id at n : ℕ) (date : List ℕ) (parent : Parent (view_of (places_of b) b) id) (room : Gate (lack_tests b id (asked_length b id at n)) 0)
    (valid : Date date) where
  abbrev p : Places
  p = places_of b

  abbrev b₁ : List ℕ
  b₁ = grown_to b id (asked_length b id at n) date

  abbrev b₂ : List ℕ
  b₂ = settle b₁ id date

  settled_frame : Untouched (view_of p b) (view_of p b₂) id × SamePlaces (view_of p b) (view_of p b₂) id × HeaderKept (view_of p b) (view_of p b₂) id
  settled_frame =
      let first = longer_frame b g id (asked_length b id at n) date parent room valid.long in
      let good = grown_good b id at n date g parent room valid in
      let last = restates_frame p b₁ good.layout good.lawful b₂ id (grown b id at n date g parent room valid).parent (settles b id at n date g parent room valid).restated in (
        untouched_trans (view_of p b) (view_of p b₁) (view_of p b₂) id first.0 last.0,
        places_trans (view_of p b) (view_of p b₁) (view_of p b₂) id first.1 last.1,
        header_trans (view_of p b) (view_of p b₁) (view_of p b₂) id first.2 last.2,
      )

  written_frame : Untouched (view_of p b) (view_of p (written_books b id at n date)) id × SamePlaces (view_of p b) (view_of p (written_books b id at n date)) id
      × HeaderKept (view_of p b) (view_of p (written_books b id at n date)) id
  written_frame = elim (ℕ_discrete n 0) [
    | yes e ↦ rw (none_written b id at n date e) (untouched_refl (view_of p b) id, places_refl (view_of p b) id, header_refl (view_of p b) id)
    | no ne ↦ rw (some_written b id at n date ne) settled_frame
  ]

-- ---- the request

module _ (v v' : Volume) (id : ℕ) (position long : Option ℕ) (x : Bool) (input date : List ℕ) (r : Result ℕ Refusal)
    (h : Wrote v.books v.withheld v.body id position long x input date r v'.books v'.body) where
  abbrev at : ℕ
  at = amount_value position

  abbrev n : ℕ
  n = whole_sectors (amount_value long)

  abbrev b : List ℕ
  b = v.books

  abbrev new : List ℕ
  new = written_books b id at n date

  module _ {extra : ℕ → ℕ} (g : GoodWith extra b (places_of b)) where
    module _ (done : number_of r ≡ 0) where
      here : Parent (view_of (places_of b) b) id
      here = write_parent b v.withheld v.body id position long (length input) date (number_of r) h.number done

      room : Gate (lack_tests b id (asked_length b id at n)) 0
      room = write_lack b v.withheld v.body id position long (length input) date (number_of r) h.number done

      valid : Date date
      valid = (write_allows b v.withheld v.body id position long (length input) date (number_of r) h.number done).date'

      frame : Untouched (view_of (places_of b) b) (view_of (places_of b) new) id × SamePlaces (view_of (places_of b) b) (view_of (places_of b) new) id
          × HeaderKept (view_of (places_of b) b) (view_of (places_of b) new) id
      frame = written_frame b g id at n date here room valid

    pub wrote_leaves : (gone : ℕ → Type 0) → Leaves b v'.books id gone
    wrote_leaves gone =
        leaves_done b g id gone (number_of r) new v'.books h.books (λ e.
        leaves_at b g id gone new id (frame e).0 (λ f stands ne. ne) (λ stands kept. (written_parent b id at n date g (here e) (room e) (valid e), (frame e).1)))

    pub wrote_header : HeaderKept (view_of (places_of b) b) (view_of (places_of b) v'.books) id
    wrote_header = header_done b id (number_of r) new v'.books h.books (λ e. (frame e).2)

    -- no other file comes to be, and the flag stays
    pub wrote_steady : Untouched (view_of (places_of b) b) (view_of (places_of b) v'.books) id × (flag_of v'.books ≡ flag_of b)
    wrote_steady = go (number_of r) h.books (λ e. ((frame e).0, written_flag b id at n date g (here e) (room e) (valid e)))
      where
        go : (m : ℕ) → v'.books ≡ after m new b → (m ≡ 0 → Untouched (view_of (places_of b) b) (view_of (places_of b) new) id × (flag_of new ≡ flag_of b))
            → Untouched (view_of (places_of b) b) (view_of (places_of b) v'.books) id × (flag_of v'.books ≡ flag_of b)
        go zero e k = rw e (k refl)
        go (suc m) e k = rw e (untouched_refl (view_of (places_of b) b) id, refl)

  refused_same : number_of r ≢ 0 → v'.body ≡ v.body
  refused_same ne = h.body'' ∙ sym (after_refused (number_of r) _ v.body ne)

  -- it is done, for some bytes: sectors of the file as it is then are filled
  module _ (done : number_of r ≡ 0) where
    books_are : v'.books ≡ written_books v.books id at n date
    books_are = rw done at h.books

    body_is : v'.body ≡ filled (seen v') id (at / 1024) x input v.body (n / 1024)
    unfolding written_body
    body_is = rw books_are (rw done at h.body'')

    none_same : n ≡ 0 → v'.body ≡ v.body
    unfolding filled
    none_same e = body_is ∙ ap (λ (k : ℕ). filled (seen v') id (at / 1024) x input v.body (k / 1024)) e

    module _ (some : n ≢ 0) where
      abbrev p' : Places
      p' = places_of v'.books

      asked : Layout p' (length v'.books) × (LawfulSome p' v'.books × Movable (seen v') id (at / 1024) (n / 1024) (length input) (length v.body))
      asked =
          wrote_asks v.books v.withheld v.body id position long (length input) date (number_of r) h.number done at (amount_value long) n refl refl refl v'.books books_are p' refl some

      layout : Layout p' (length v'.books)
      layout = asked.0

      lawful : LawfulWith asked.1.0.0 p' v'.books
      lawful = asked.1.0.1

      moves : Movable (seen v') id (at / 1024) (n / 1024) (length input) (length v.body)
      moves = asked.1.1

      -- no written sector is another place's
      some_bytes : (f k s : ℕ) → Belongs v' f k s → ((bytes : List ℕ) → Puts id position long x input r f k bytes → ⊥) → sector_content v'.body s ≡ sector_content v.body s
      some_bytes f k s here unwritten =
          let in' = rw here.here at (kth_inside p' v'.books layout lawful f here.file k here.place) in
          ap (λ (y : List ℕ). sector_content y s) body_is
          ∙ filled_out p' v'.books layout lawful id (at / 1024) (n / 1024) x input v.body moves s in'.0 in'.1 (λ i l e.
          (let q = place_one p' v'.books layout lawful id f (at / 1024 + i) k moves.parent here.file (omega (arith, moves.within)) here.place (e ∙ sym here.here) in
          unwritten _ (record { file = q.0; done = done; from = omega (arith, q.1); to = omega (arith, q.1); bytes' = refl })))

      -- nor a header's
      some_headers : (f s : ℕ) → UnderHeader (seen v') f s → sector_content v'.body s ≡ sector_content v.body s
      some_headers f s u =
          let in' = header_inside (seen v') lawful.r6 f s u in
          ap (λ (y : List ℕ). sector_content y s) body_is
          ∙ filled_out p' v'.books layout lawful id (at / 1024) (n / 1024) x input v.body moves s in'.0 in'.1 (λ i l e.
          (let q = kth_under p' v'.books layout lawful id (at / 1024 + i) moves.parent (omega (arith, moves.within)) in
          pointer_apart (seen v') lawful.r6 lawful.r7 (bit_at_lt v'.books p'.sectortable) s q.0 q.1 f (rw e at q.2) u))

      some_puts : (k : ℕ) → at / 1024 ≤ k → k < at / 1024 + amount_value long / 1024 → Belongs v' id k (kth_sector (seen v') id k) × (sector_content v'.body (kth_sector (seen v') id k) ≡ moved x (buffer_sector input (k - at / 1024)))
      some_puts k lo hi =
          let there : at / 1024 + (k - at / 1024) ≡ k = omega arith in (
            record { file = moves.parent; place = omega (arith, moves.within); here = refl },
            ap (λ (y : List ℕ). sector_content y (kth_sector (seen v') id k)) body_is
                ∙ rw there at (filled_in p' v'.books layout lawful id (at / 1024) (n / 1024) x input v.body moves (k - at / 1024) (omega arith)),
          )

  pub wrote_bytes : (f k s : ℕ) → Belongs v' f k s → ((bytes : List ℕ) → Puts id position long x input r f k bytes → ⊥) → sector_content v'.body s ≡ sector_content v.body s
  wrote_bytes f k s here unwritten = elim (ℕ_discrete (number_of r) 0) [
    | yes done ↦ elim (ℕ_discrete n 0) [ yes none ↦ ap (λ (y : List ℕ). sector_content y s) (none_same done none) | no some ↦ some_bytes done some f k s here unwritten ]
    | no ne ↦ ap (λ (y : List ℕ). sector_content y s) (refused_same ne)
  ]

  pub wrote_headers : (f s : ℕ) → UnderHeader (seen v') f s → sector_content v'.body s ≡ sector_content v.body s
  wrote_headers f s u = elim (ℕ_discrete (number_of r) 0) [
    | yes done ↦ elim (ℕ_discrete n 0) [ yes none ↦ ap (λ (y : List ℕ). sector_content y s) (none_same done none) | no some ↦ some_headers done some f s u ]
    | no ne ↦ ap (λ (y : List ℕ). sector_content y s) (refused_same ne)
  ]

  pub wrote_puts : (f k : ℕ) (bytes : List ℕ) → Puts id position long x input r f k bytes → (s : ℕ) × Belongs v' f k s × (sector_content v'.body s ≡ bytes)
  wrote_puts f k bytes put =
      let p = some_puts put.done (λ e. omega (arith, put.from, put.to)) k put.from put.to in
      rw (← put.file, put.bytes') (kth_sector (seen v') id k, p.0, p.1)
