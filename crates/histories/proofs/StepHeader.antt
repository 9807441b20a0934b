-- Place header: it leaves the tables of other files, its file has its sectors where it had them, and of the body the new header's run and
-- the old header's id change.
use mathlib.Core.Path.{◌≡◌, refl, sym, ap, ap₂, subst, ◌∙◌}
use mathlib.Core.Logic.{◌⊎◌, ◌≢◌, inl, inr}
use mathlib.Core.List.{List}
use Prim.Native.Nat.{ℕ, ◌+◌, ◌-◌, ◌*◌, ◌≤◌, ◌<◌}
use native.Mathlib.Decide.{ℕ_discrete, dec_lt}
use native.Mathlib.Omega.{arith}
use lib.ListN.{length}
use Rattle.field.specs.Kept.{Kept}
use Rattle.field.specs.Parts.{over}
use Rattle.tables.specs.declared.places.Places.{Places}
use Rattle.tables.specs.Books.{GoodWith}
use Rattle.tables.specs.Indexes.{table_at, header_start, header_count}
use Rattle.tables.specs.Places.{places_of}
use Rattle.tables.specs.Views.{view_of, Parent, UnderHeader}
use Rattle.allocation.specs.declared.choice.Found.{Found}
use Rattle.allocation.specs.Headers.{header_place, run_start}
use Rattle.allocation.proofs.PointerBytes.{kept_pointer}
use Rattle.allocation.proofs.RestatedLaws.{Restated}
use Rattle.allocation.proofs.RunTakenLaws.{RunFree, header_free}
use Rattle.files.specs.HeaderBytes.{header_sectors, header_bytes, header_marked}
use Rattle.files.specs.Headers.{headed, headed_body}
use Rattle.files.specs.Moves.{body_place, sector_content, sectors_content}
use Rattle.files.specs.Unchanged.{SamePlaces, HeaderKept}
use Rattle.files.proofs.HeaderByteLaws.{length_header_bytes, length_header_marked, laid_run_in, laid_run_out}
use Rattle.files.proofs.HeadedLaws.{new_header}
use Rattle.files.proofs.HeadedLawful.{headed_table, headed_others}
use Rattle.requests.specs.Header.{header_placed, HeaderPlaced}
use Rattle.requests.proofs.PlaceHeaderLaws.{placed_file, placed_count, placed_high, placed_inside}
use Rattle.requests.proofs.PlaceHeaderKeeps.{header_placed_restates, header_placed_untouched, header_placed_places, header_placed_start, header_placed_count, header_placed_parent, header_placed_is}
use Rattle.requests.proofs.RequestLaws.{after_refused}
use Rattle.histories.specs.History.{Volume, seen, Belongs, header_of, PutsHeader}
use Rattle.histories.proofs.HeaderBody.{run_same, data_inside, data_set, data_apart, head_inside, head_set, headers_apart}
use Rattle.histories.proofs.StepDelete.{marked_stays}
use Rattle.histories.proofs.StepLeaves.{Leaves, leaves_at, leaves_done, header_done, stood_done}
use Rattle.histories.proofs.StepState.{stated_stood}

module _ (v v' : Volume) {extra : ℕ → ℕ} (g : GoodWith extra v.books (places_of v.books)) (good : GoodWith extra v'.books (places_of v.books)) (id : ℕ) (content date : List ℕ) (r : ℕ)
    (h : HeaderPlaced v.books v.withheld v.body id content date r v'.books v'.body) where
  abbrev b : List ℕ
  b = v.books

  abbrev p : Places
  p = places_of v.books

  abbrev n : ℕ
  n = header_sectors (length content)

  abbrev new : List ℕ
  new = header_placed v.books id (header_sectors (length content)) date

  -- ---- the books

  module _ (done : r ≡ 0) where
    here : Parent (seen v) id
    here = placed_file b v.withheld v.body id (length content) date r h.number done

    books_are : v'.books ≡ new
    books_are = header_placed_is b v.withheld v.body id content date r v'.books v'.body h done

    count : (1 ≤ n) × (n ≤ 32)
    count = placed_count b v.withheld v.body id (length content) date r h.number done

    room : (header_place (seen v) n).zone.0 < p.zones
    room = placed_high b v.withheld v.body id (length content) date r h.number done

    -- the header pointer, then the dates
    restated : Restated (view_of p (headed p b id n)) (view_of p new) id
    restated = (header_placed_restates b v.withheld v.body id content date r h.number done).1

    pointed : Kept (table_at p b id) (table_at p (headed p b id n) id) 58 6
    pointed = rw (headed_table p b g.layout g.lawful id here n count.0 count.1 room) (kept_pointer (table_at p b id) 58 (new_header p b n))

    stood_then : (f : ℕ) → Parent (view_of p v'.books) f → Parent (view_of p b) f × SamePlaces (view_of p v'.books) (view_of p b) f
    stood_then =
        stated_stood p b v'.books good id here (header_placed_untouched b v.withheld v.body id content date r h.number done v'.books books_are)
        (λ j lo hi ne. rw books_are (restated.there j lo hi ne ∙ headed_others p b g.layout g.lawful id here n count.0 count.1 room j lo hi ne))
        (λ o l. rw books_are (restated.here.out o (inl (omega arith)) ∙ pointed.out o (inl (omega arith))))
        (λ o l. rw books_are (restated.here.out o (inr (omega arith)) ∙ pointed.out o (inr (omega arith))))

  pub placed_leaves : (gone : ℕ → Type 0) → Leaves v.books v'.books id gone
  placed_leaves gone = leaves_done b g id gone r new v'.books h.books (λ e.
      leaves_at b g id gone new id (header_placed_untouched b v.withheld v.body id content date r h.number e new refl) (λ f stands ne. ne)
      (λ stands kept. (header_placed_parent b v.withheld v.body id content date r h.number e new refl, header_placed_places b v.withheld v.body id content date r h.number e new refl)))

  pub placed_stood : (f : ℕ) → Parent (view_of (places_of v.books) v'.books) f → Parent (seen v) f × SamePlaces (view_of (places_of v.books) v'.books) (seen v) f
  placed_stood = stood_done b r new v'.books h.books stood_then

  -- a refusal leaves the header pointer and the body
  pub refused_pointer : r ≢ 0 → HeaderKept (seen v) (view_of (places_of v.books) v'.books) id
  refused_pointer ne = header_done b id r new v'.books h.books (λ e. absurd (ne e))

  pub refused_body : r ≢ 0 → v'.body ≡ v.body
  refused_body ne = h.body'' ∙ sym (after_refused r _ v.body ne)

  -- ---- the body

  module _ (done : r ≡ 0) where
    abbrev k : Found
    k = header_place (seen v) n

    -- the new header, laid over the body
    abbrev laid : List ℕ
    laid = over v.body (body_place (run_start k)) (header_bytes id content)

    body_is : v'.body ≡ header_marked (seen v) id 0 laid
    unfolding headed_body
    body_is = rw done at h.body''

    inside : (1024 ≤ run_start k) × (body_place (run_start k) + 1024 * n ≤ length v.body)
    inside = placed_inside b v.withheld v.body id (length content) date r h.number done

    free : RunFree (seen v) n k
    free = header_free (seen v) n g.lawful.r2 g.lawful.r3 (count done).1 (room done)

    -- a sector in use is none of the new run's
    outside : (s : ℕ) → (seen v).bit s ≡ 1 → (s < run_start k) ⊎ (run_start k + n ≤ s)
    outside s set = elim (dec_lt s (run_start k)) [
      | yes l ↦ inl l
      | no l ↦ elim (dec_lt s (run_start k + n)) [
        | yes m ↦ (let e : run_start k + (s - run_start k) ≡ s = omega arith in absurd (omega (arith, set, rw e at (free.clear (s - run_start k) (omega arith)))))
        | no m ↦ inr (omega arith)
      ]
    ]

    -- so it holds what it held, unless it is the old header's
    used_sector : (s : ℕ) → 1024 ≤ s → (seen v).bit s ≡ 1 → (UnderHeader (seen v) id s → ⊥) → sector_content v'.body s ≡ sector_content v.body s
    used_sector s low set out =
        ap (λ (y : List ℕ). sector_content y s) body_is ∙ marked_stays v g id 0 (here done) laid s low out
        ∙ laid_run_out v.body (header_bytes id content) (run_start k) n (length_header_bytes id content) inside.1 s inside.0 low (outside s set)

    -- the new run is the new header: the old one is in use, and lies elsewhere
    run_is : sectors_content v'.body (run_start k) n ≡ header_bytes id content
    run_is =
        run_same v'.body laid (run_start k) n (ap length body_is ∙ length_header_marked (seen v) id 0 laid) (λ some. inside.0) (λ i l.
        ap (λ (y : List ℕ). sector_content y (run_start k + i)) body_is
        ∙ marked_stays v g id 0 (here done) laid (run_start k + i) (omega (arith, inside.0)) (λ u.
        omega (arith, free.clear i l, head_set v g id (run_start k + i) u)))
        ∙ laid_run_in v.body (header_bytes id content) (run_start k) n (length_header_bytes id content) inside.1

    place_is : (header_start ((seen v').table id) ≡ run_start k) × (header_count ((seen v').table id) ≡ n)
    place_is =
        subst (λ (q : Places). (header_start (table_at q v'.books id) ≡ run_start k) × (header_count (table_at q v'.books id) ≡ n)) good.places
        (header_placed_start b v.withheld v.body id content date r h.number done v'.books (books_are done), header_placed_count b v.withheld v.body id content date r h.number done v'.books (books_are done))

    header_is : header_of v' id ≡ header_bytes id content
    header_is = ap₂ (λ (x y : ℕ). sectors_content v'.body x y) place_is.0 place_is.1 ∙ run_is

    parent_is : Parent (seen v') id
    parent_is =
        subst (λ (q : Places). Parent (view_of q v'.books) id) good.places
        (header_placed_parent b v.withheld v.body id content date r h.number done v'.books (books_are done))

  -- a file's sector holds what it held
  pub placed_data : (f k s : ℕ) → Belongs v f k s → sector_content v'.body s ≡ sector_content v.body s
  placed_data f k s own = elim (ℕ_discrete r 0) [
    | yes done ↦ used_sector done s (data_inside v g f k s own).0 (data_set v g f k s own) (λ u. data_apart v g f k id s own u)
    | no ne ↦ ap (λ (y : List ℕ). sector_content y s) (refused_body ne)
  ]

  -- so does a sector of another header
  pub placed_others : (f s : ℕ) → UnderHeader (seen v) f s → id ≢ f → sector_content v'.body s ≡ sector_content v.body s
  placed_others f s u other = elim (ℕ_discrete r 0) [
    | yes done ↦ used_sector done s (head_inside v g f s u).0 (head_set v g f s u) (λ own. other (headers_apart v g id f s own u))
    | no ne ↦ ap (λ (y : List ℕ). sector_content y s) (refused_body ne)
  ]

  -- the file has the header that is placed
  pub placed_headed : (f : ℕ) (bytes : List ℕ) → PutsHeader id content r f bytes → Parent (seen v') f × (header_of v' f ≡ bytes)
  placed_headed f bytes heads = rw (← heads.file, heads.bytes') (parent_is heads.done, header_is heads.done)
