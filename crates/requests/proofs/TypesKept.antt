-- "A zone with a withheld block .. keeps its type" (W7) through every request that changes the books: so does each zone with a sector that is
-- set besides.
use Rattle.tables.specs.declared.kinds.Index.{Index}
use Rattle.std.specs.Prelude.{Option, Result}
use mathlib.Core.Path.{◌≡◌, refl}
use mathlib.Core.Logic.{inl}
use mathlib.Core.Bool.{Bool}
use mathlib.Core.List.{List}
use Prim.Native.Nat.{ℕ, zero, suc}
use native.Mathlib.Decide.{ℕ_discrete, dec_lt}
use native.Mathlib.Omega.{arith}
use lib.ListN.{length}
use borrow.Author.Tests.{lt-ltb, le-ltb}
use Rattle.field.proofs.Frames.{kept_wider}
use Rattle.field.proofs.NumberLaws.{u32_kept}
use Rattle.tables.specs.declared.places.Places.{Places}
use Rattle.tables.specs.Books.{GoodWith}
use Rattle.tables.specs.Dates.{Date}
use Rattle.tables.specs.Gates.{Gate}
use Rattle.tables.specs.Indexes.{length_of}
use Rattle.tables.specs.Places.{places_of}
use Rattle.tables.specs.Sector1.{put_flag}
use Rattle.tables.specs.Views.{View, view_of, Parent}
use Rattle.tables.specs.Withheld.{KeepsTypes}
use Rattle.tables.proofs.FrameLaws.{sector1_same}
use Rattle.tables.proofs.WithheldLaws.{keeps_same, keeps_trans}
use Rattle.allocation.specs.NewTables.{New}
use Rattle.allocation.specs.NewLawful.{NewLawful}
use Rattle.allocation.specs.MadeFiles.{created}
use Rattle.allocation.proofs.CreatedLawful.{created_types}
use Rattle.allocation.proofs.FileLaws.{ready_start}
use Rattle.allocation.proofs.GrownLawful.{grown_types}
use Rattle.allocation.proofs.RestatedLaws.{Restated}
use Rattle.files.specs.HeaderBytes.{header_sectors}
use Rattle.files.specs.Headers.{headed}
use Rattle.files.specs.Release.{released}
use Rattle.files.proofs.HeadedLawful.{headed_types}
use Rattle.files.proofs.ReleasedLawful.{released_types}
use Rattle.requests.specs.Amounts.{amount_value}
use Rattle.requests.specs.Answers.{after, argument_tests}
use Rattle.requests.specs.Create.{Creates, CreatedFixed, CreatedVariable}
use Rattle.requests.specs.Delete.{Deleted}
use Rattle.requests.specs.Grow.{grow_counts, lack_tests, grow_tests, grown_to, Grew}
use Rattle.requests.specs.Header.{header_placed, HeaderPlaced}
use Rattle.requests.specs.Mount.{Mounted, Dismounted}
use Rattle.requests.specs.Moving.{whole_sectors}
use Rattle.requests.specs.Named.{file_bytes}
use Rattle.requests.specs.State.{removed, Removed, recovered, Recovered, protected, Protected}
use Rattle.requests.specs.Write.{asked_length, settle, write_tests, written_books, Wrote}
use Rattle.requests.proofs.CreateKeeps.{creates_asks, fixed_lawful, variable_lawful}
use Rattle.requests.proofs.GrowLaws.{grow_allows, grow_parent, grow_room}
use Rattle.requests.proofs.LongerLaws.{lack_provided}
use Rattle.requests.proofs.MountKeeps.{kept_flag}
use Rattle.requests.proofs.PlaceHeaderKeeps.{header_placed_restates}
use Rattle.requests.proofs.PlaceHeaderLaws.{placed_file, placed_count, placed_high}
use Rattle.requests.proofs.StampLaws.{removed_restates, recovered_restates, protected_restates}
use Rattle.requests.proofs.StateLaws.{recover_asks}
use Rattle.requests.proofs.WriteKeeps.{some_written, none_written, settles}
use Rattle.requests.proofs.WriteLaws.{write_parent, write_lack, write_allows}
use Rattle.tables.specs.Refusals.{number_of}
use Rattle.tables.specs.declared.refusal.Refusal.{Refusal}

-- a refusal leaves the books as they were
done_types : (r : ℕ) (new old b' : List ℕ) (p : Places) {extra : ℕ → ℕ} → b' ≡ after r new old → (r ≡ 0 → KeepsTypes extra (view_of p old) (view_of p new)) → KeepsTypes extra (view_of p old) (view_of p b')
done_types zero new old b' p e h = rw e (h refl)
done_types (suc k) new old b' p e h = rw e (λ s l lo some. refl)

-- ---- requests that leave the zone table

flag_types : (b : List ℕ) (f : ℕ) {extra : ℕ → ℕ} → GoodWith extra b (places_of b) → KeepsTypes extra (view_of (places_of b) b) (view_of (places_of b) (put_flag b f))
flag_types b f {extra = extra} g =
    let k = kept_flag b f in
    keeps_same extra (view_of (places_of b) b) (view_of (places_of b) (put_flag b f))
    (sector1_same b (put_flag b f) (kept_wider k (omega arith) (omega arith)) (places_of b) g.layout (u32_kept 1050 k (inl (omega arith)))).zone

module _ (b withheld : List ℕ) {extra : ℕ → ℕ} (g : GoodWith extra b (places_of b)) where
  abbrev p : Places
  p = places_of b

  abbrev v : View
  v = view_of (places_of b) b

  pub mounted_types : (r : ℕ) (b' : List ℕ) → Mounted b withheld r b' → KeepsTypes extra v (view_of p b')
  mounted_types r b' h = done_types r (put_flag b 1) b b' p h.books (λ z. flag_types b 1 g)

  pub dismounted_types : (r : ℕ) (b' : List ℕ) → Dismounted b withheld r b' → KeepsTypes extra v (view_of p b')
  dismounted_types r b' h = done_types r (put_flag b 0) b b' p h.books (λ z. flag_types b 0 g)

  restated_types : (d : List ℕ) (f : ℕ) → Restated v (view_of p d) f → KeepsTypes extra v (view_of p d)
  restated_types d f h = keeps_same extra v (view_of p d) h.ground.zone

  pub removed_types : (body : List ℕ) (id : ℕ) (date : List ℕ) (r : ℕ) (b' body' : List ℕ) → Removed b withheld body id date r b' body' → KeepsTypes extra v (view_of p b')
  removed_types body id date r b' body' h =
      done_types r (removed p b id date) b b' p h.books (λ z. restated_types _ id (removed_restates b withheld (extra, g) id date r body h.number z).1)

  pub recovered_types : (body : List ℕ) (id : ℕ) (date : List ℕ) (r : ℕ) (b' body' : List ℕ) → Recovered b withheld body id date r b' body' → KeepsTypes extra v (view_of p b')
  recovered_types body id date r b' body' h =
      done_types r (recovered p b id date) b b' p h.books (λ z. restated_types _ id (recovered_restates b withheld (extra, g) id date r body h.number z).1)

  pub protected_types : (id w : ℕ) (date : List ℕ) (r : ℕ) (b' : List ℕ) → Protected b withheld id w date r b' → KeepsTypes extra v (view_of p b')
  protected_types id w date r b' h =
      done_types r (protected p b id w date) b b' p h.books (λ z. restated_types _ id (protected_restates b withheld (extra, g) id date r w h.number z).1)

  -- ---- a new file

  creates_types : (P : Type 0) (counts : List ℕ) (n : New) (r : Result Index Refusal) (b' : List ℕ) → (P → NewLawful n counts × (length counts ≡ 6)) → Creates (argument_tests b withheld P) b counts n r b'
      → KeepsTypes extra v (view_of p b')
  creates_types P counts n r b' new h = done_types (number_of r) (created p b n counts) b b' p h.books (λ z.
      (let a = creates_asks b withheld P counts n r b' g new h z in
      created_types p b n counts a.1 a.0 (ready_start p b counts n a.1 a.0.name.most a.0.date.long)))

  pub fixed_types : (name : List ℕ) (size : Option ℕ) (types : Option ℕ) (kind : ℕ) (date : List ℕ) (r : Result Index Refusal) (b' : List ℕ) → CreatedFixed b withheld name size types kind date r b'
      → KeepsTypes extra v (view_of p b')
  fixed_types name size types kind date r b' = creates_types _ _ _ r b' (fixed_lawful name size types kind date)

  pub variable_types : (name : List ℕ) (cell : Option ℕ) (kind : ℕ) (date : List ℕ) (r : Result Index Refusal) (b' : List ℕ) → CreatedVariable b withheld name cell kind date r b' → KeepsTypes extra v (view_of p b')
  variable_types name cell kind date r b' = creates_types _ _ _ r b' (variable_lawful name cell kind date)

  -- ---- a file that grows

  longer_types : (id long : ℕ) (date : List ℕ) → Parent v id → Gate (lack_tests b id long) 0 → length date ≡ 6 → KeepsTypes extra v (view_of p (grown_to b id long date))
  unfolding grown_to
  longer_types id long date parent room six = elim (dec_lt (length_of (file_bytes b id)) long) [
    | yes l ↦ rw (lt-ltb (length_of (file_bytes b id)) long l) (grown_types p b id (grow_counts b id long) long date (lack_provided b id long g room l) parent six)
    | no nl ↦ rw (le-ltb (length_of (file_bytes b id)) long (omega arith)) (λ s l lo some. refl)
  ]

  pub grew_types : (id : ℕ) (long : Option ℕ) (date : List ℕ) (r : ℕ) (b' : List ℕ) → Grew b withheld id long date r b' → KeepsTypes extra v (view_of p b')
  grew_types id long date r b' h = done_types r (grown_to b id (amount_value long) date) b b' p h.books (λ z.
      (let q : Gate (grow_tests b withheld id long date) 0 = rw z at h.number in
      longer_types id (amount_value long) date (grow_parent b withheld id long date 0 q refl) (grow_room b withheld id long date 0 q refl (amount_value long) refl)
      (grow_allows b withheld id long date 0 q refl).date'.long))

  written_types : (id at n : ℕ) (date : List ℕ) → Parent v id → Gate (lack_tests b id (asked_length b id at n)) 0 → Date date → KeepsTypes extra v (view_of p (written_books b id at n date))
  written_types id at n date parent room valid = elim (ℕ_discrete n 0) [
    | yes e ↦ rw (none_written b id at n date e) (λ s l lo some. refl)
    | no ne ↦ (let b₁ = grown_to b id (asked_length b id at n) date in
        let c = settle b₁ id date in
        rw (some_written b id at n date ne) (keeps_trans extra v (view_of p b₁) (view_of p c) refl (longer_types id (asked_length b id at n) date parent room valid.long)
        (keeps_same extra (view_of p b₁) (view_of p c) (settles b id at n date g parent room valid).restated.ground.zone)))
  ]

  pub wrote_types : (body : List ℕ) (id : ℕ) (position long : Option ℕ) (x : Bool) (input date : List ℕ) (r : Result ℕ Refusal) (b' body' : List ℕ) → Wrote b withheld body id position long x input date r b' body'
      → KeepsTypes extra v (view_of p b')
  wrote_types body id position long x input date r b' body' h =
      let n = whole_sectors (amount_value long) in
      done_types (number_of r) (written_books b id (amount_value position) n date) b b' p h.books (λ z.
      (let q : Gate (write_tests b withheld body id position long (length input) date) 0 = rw z at h.number in
      written_types id (amount_value position) n date (write_parent b withheld body id position long (length input) date 0 q refl)
      (write_lack b withheld body id position long (length input) date 0 q refl) (write_allows b withheld body id position long (length input) date 0 q refl).date'))

  -- ---- blocks and a header's sectors given back

  pub deleted_types : (body : List ℕ) (id : ℕ) (date : List ℕ) (r : ℕ) (b' body' : List ℕ) → Deleted b withheld body id date r b' body' → KeepsTypes extra v (view_of p b')
  deleted_types body id date r b' body' h = done_types r (released p b id date) b b' p h.books (λ z.
      (let file = (recover_asks b withheld body id date r h.number z p refl).1 in
      released_types p b g.layout g.lawful id file.0 file.1.0 date file.1.1))

  pub header_placed_types : (body : List ℕ) (id : ℕ) (content date : List ℕ) (r : ℕ) (b' body' : List ℕ) → HeaderPlaced b withheld body id content date r b' body' → KeepsTypes extra v (view_of p b')
  header_placed_types body id content date r b' body' h =
      let n = header_sectors (length content) in
      done_types r (header_placed b id n date) b b' p h.books (λ z.
      (let count = placed_count b withheld body id (length content) date r h.number z in
      let w = view_of p (headed p b id n) in
      keeps_trans extra v w (view_of p (header_placed b id n date)) refl (headed_types p b g.layout g.lawful id (placed_file b withheld body id (length content) date r h.number z) n count.0 count.1
      (placed_high b withheld body id (length content) date r h.number z))
      (keeps_same extra w (view_of p (header_placed b id n date)) (header_placed_restates b withheld body id content date r h.number z).1.ground.zone)))
