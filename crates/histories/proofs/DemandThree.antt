-- Demand 3 as W1 and W7 amend it, sentence by sentence: "From lawful books and a body of the right length, after any requests without format, refused
-- ones included: the rules still hold; each sector outside the system zones is free or belongs to one place of one file; a request changes no
-- index table and no data byte of a file it does not name; each file sector holds what the last write put there until the file's actual delete;
-- no index chain is longer than the number of index tables." "Header runs are owned sectors of the file"; "Demand 3 then reads 'data and header
-- bytes'. Its sentence on the last write stays one about data sectors; a header holds what its placing put there, but for the id, until it is
-- replaced or its file actually deleted." "Demand 3 reads 'free, withheld, or one place of one file'": what else W7 says of withheld sectors
-- stands in WornSectors. The terms are those of specs/History.antt.
use Rattle.std.specs.Prelude.{Option, Result}
use mathlib.Core.Path.{◌≡◌, refl, sym, ap, ◌∙◌}
use mathlib.Core.Logic.{◌⊎◌, inl, inr, ⊎_elim, ◌≢◌}
use mathlib.Core.Bool.{Bool}
use mathlib.Core.List.{List}
use Prim.Native.Nat.{ℕ, suc, ◌+◌, ◌-◌, ◌*◌, ◌≤◌, ◌<◌}
use native.Mathlib.Decide.{ℕ_discrete, dec_lt}
use native.Mathlib.Omega.{arith}
use lib.ListN.{length, drop}
use Rattle.field.proofs.BitLaws.{bit_at_lt}
use Rattle.tables.specs.declared.index.Pointer.{Pointer}
use Rattle.tables.specs.Books.{GoodWith}
use Rattle.tables.specs.Indexes.{base_of, pointer_at, file_of, header_start, header_count}
use Rattle.tables.specs.Lawful.{Lawful}
use Rattle.tables.specs.Places.{places_of, Layout}
use Rattle.tables.specs.Rules.R4.{FreeChain}
use Rattle.tables.specs.Rules.R5.{FileChain}
use Rattle.tables.specs.Rules.R8.{file_sectors}
use Rattle.tables.specs.Views.{view_of, Parent, UnderHeader}
use Rattle.tables.specs.Withheld.{withheld_over, Withheld}
use Rattle.tables.proofs.GateLaws.{zero_good}
use Rattle.tables.proofs.PointerLaws.{set_owned}
use Rattle.tables.proofs.WithheldLaws.{counts_withheld}
use Rattle.allocation.proofs.LastLaws.{file_short}
use Rattle.files.specs.Moves.{sector_content}
use Rattle.files.specs.Spots.{kth_sector}
use Rattle.files.proofs.SectorPlaceLaws.{place_one, under_place}
use Rattle.requests.specs.Header.{HeaderShown}
use Rattle.requests.specs.Read.{ReadOut}
use Rattle.requests.specs.Show.{bytes_of, Shown}
use Rattle.requests.specs.State.{removed, recovered, protected}
use Rattle.histories.specs.History.{Volume, seen, LawfulVolume, temporary_delete, recover, set_protection, write, Does, RequestStep, History, named_by, Belongs, HeaderAt, bytes_at, header_of, PutsIn, Deletes, SparedIn, PutsHeaderIn, SameHeader, HeaderLeftIn}
use Rattle.requests.proofs.StateKeeps.{removed_keeps, recovered_keeps, protected_keeps, after_pointer}
use Rattle.histories.proofs.HeaderBody.{data_inside, data_set, data_apart, head_inside, head_set, headers_apart}
use Rattle.histories.proofs.StepFrame.{step_lawful, step_untouched, step_bytes, step_puts, step_other, step_headed}
use Rattle.histories.proofs.HistoryLaws.{other_bytes, step_place, lawful_after, spared_stays, header_left, free_short}
use Rattle.requests.proofs.StampLaws.{removed_restates, recovered_restates, protected_restates}
use Rattle.histories.proofs.AlikeLaws.{SameFile, shows_same, headers_same, reads_same, wrote_same}
use Rattle.tables.specs.declared.refusal.Refusal.{Refusal}

module _ (v w : Volume) (start : LawfulVolume v) (h : History v w) where
  -- ---- "the rules still hold", and the body has its length

  pub still_lawful : LawfulVolume w
  still_lawful = lawful_after v w start h

  good : GoodWith (withheld_over (seen w) w.withheld) w.books (places_of w.books)
  good = (zero_good w.books w.withheld still_lawful.lawful).books

  layout : Layout (places_of w.books) (length w.books)
  layout = good.layout

  lawful : Lawful (places_of w.books) w.books w.withheld
  lawful = good.lawful

  bits : (s : ℕ) → (seen w).bit s < 2
  bits s = bit_at_lt w.books (places_of w.books).sectortable s

  -- ---- "each sector outside the system zones is free, withheld, or one place of one file", "header runs are owned sectors of the file"

  -- a header's sector, by its place and by its pointer
  at_under : (f k s : ℕ) → HeaderAt w f k s → UnderHeader (seen w) f s
  at_under f k s here = record { parent = here.file; from = omega (arith, here.here); to = omega (arith, here.here, here.place) }

  under_at : (f s : ℕ) → UnderHeader (seen w) f s → (k : ℕ) × HeaderAt w f k s
  under_at f s u = (s - header_start ((seen w).table f), record { file = u.parent; place = omega (arith, u.from, u.to); here = omega (arith, u.from) })

  pub free_withheld_or_owned : (s : ℕ) → 1024 ≤ s → s < 1024 * ((seen w).zones - 1)
      → ((seen w).bit s ≡ 0) ⊎ (Withheld (seen w) w.withheld s ⊎ (((f : ℕ) × (k : ℕ) × Belongs w f k s) ⊎ ((f : ℕ) × (k : ℕ) × HeaderAt w f k s)))
  free_withheld_or_owned s low high = elim (ℕ_discrete ((seen w).bit s) 0) [
    | yes z ↦ inl z
    | no ne ↦ inr (elim (dec_lt 0 (withheld_over (seen w) w.withheld s)) [
      | yes some ↦ inl (counts_withheld (seen w) w.withheld s some)
      | no none ↦ inr (⊎_elim
          (λ u. (let q = under_place (places_of w.books) w.books layout lawful u.0 u.1 s u.2 in
          inl (file_of u.0 ((seen w).table u.0), q.1.0, record { file = q.0; place = q.1.1; here = q.1.2 })))
          (λ u. (let q = under_at u.0 s u.1 in inr (u.0, q.0, q.1)))
          (set_owned (seen w) lawful.r6 lawful.r7 bits s high low (omega (arith, bits s)) (omega arith)))
    ])
  ]

  -- not both
  pub belongs_set : (f k s : ℕ) → Belongs w f k s → (seen w).bit s ≡ 1
  belongs_set f k s here = data_set w good f k s here

  pub header_in_use : (f k s : ℕ) → HeaderAt w f k s → (seen w).bit s ≡ 1
  header_in_use f k s here = head_set w good f s (at_under f k s here)

  -- one file, one place
  pub belongs_one : (f g k l s : ℕ) → Belongs w f k s → Belongs w g l s → (f ≡ g) × (k ≡ l)
  belongs_one f g k l s here there =
      place_one (places_of w.books) w.books layout lawful f g k l here.file there.file here.place there.place (here.here ∙ sym there.here)

  pub header_one : (f g k l s : ℕ) → HeaderAt w f k s → HeaderAt w g l s → (f ≡ g) × (k ≡ l)
  header_one f g k l s here there =
      let e = headers_apart w good f g s (at_under f k s here) (at_under g l s there) in
      (e, omega (arith, here.here, there.here, ap (λ (i : ℕ). header_start ((seen w).table i)) e))

  -- data or header
  pub belongs_no_header : (f g k l s : ℕ) → Belongs w f k s → HeaderAt w g l s → ⊥
  belongs_no_header f g k l s here there = data_apart w good f k g s here (at_under g l s there)

  -- and no sector of the system zones
  pub belongs_inside : (f k s : ℕ) → Belongs w f k s → (1024 ≤ s) × (s < 1024 * ((seen w).zones - 1))
  belongs_inside f k s here = data_inside w good f k s here

  pub header_inside : (f k s : ℕ) → HeaderAt w f k s → (1024 ≤ s) × (s < 1024 * ((seen w).zones - 1))
  header_inside f k s here = head_inside w good f s (at_under f k s here)

  -- ---- "no index chain is longer than the number of index tables": a parent and its m children, and the m free tables

  pub file_chain : (f : ℕ) → Parent (seen w) f → (m : ℕ) × FileChain (seen w) f m × (suc m ≤ (seen w).indexes)
  file_chain f parent = let chain = lawful.r5.chain f parent in (lawful.r5.long f, chain, file_short (seen w) f (lawful.r5.long f) parent chain)

  pub free_chain : (m : ℕ) × FreeChain (seen w) m × (m ≤ (seen w).indexes)
  free_chain = (lawful.r4.long, lawful.r4.chain, free_short (seen w) lawful.r4.long lawful.r4.chain)

  -- ---- "a request changes no index table and no data byte of a file it does not name", and no header byte

  module _ (x : Volume) (s : RequestStep w x) where
    module _ (g : ℕ) (parent : Parent (seen w) g) (other : g ≢ named_by s.request) where
      -- the file's index tables are those that it had, byte for byte
      pub other_tables : (j : ℕ) → 1 ≤ j → j ≤ (seen w).indexes → file_of j ((seen w).table j) ≡ g → (seen x).table j ≡ (seen w).table j
      other_tables j low high is =
          let u = step_untouched w x still_lawful s.request s.does in
          u.1.was j low high (λ z. omega (arith, parent.low)) (λ z. u.2 g parent other (sym is ∙ z))

      pub no_other_tables : (j : ℕ) → 1 ≤ j → j ≤ (seen w).indexes → file_of j ((seen x).table j) ≡ g → (seen x).table j ≡ (seen w).table j
      no_other_tables j low high is =
          let u = step_untouched w x still_lawful s.request s.does in
          u.1.now j low high (λ z. omega (arith, parent.low)) (λ z. u.2 g parent other (sym is ∙ z))

      pub other_data : (k : ℕ) → k < file_sectors (seen w) g → bytes_at x g k ≡ bytes_at w g k
      other_data k l = other_bytes w x still_lawful s.request s.does g parent other k l

      -- the id too
      pub other_header : header_of x g ≡ header_of w g
      other_header = step_other w x still_lawful s.request s.does g parent (λ e. other (sym e))

    -- any file, the named one too, keeps its sectors at their places until its actual delete
    pub place_kept : (f k n : ℕ) → Belongs w f k n → (Deletes w x s.request s.does f → ⊥) → Belongs x f k n
    place_kept f k n here kept = step_place w x still_lawful s f k n here kept

    -- what is not written stays, in old sectors as in new ones
    pub bytes_kept : (f k n : ℕ) → Belongs x f k n → ((bytes : List ℕ) → PutsIn w x s.request s.does f k bytes → ⊥) → sector_content x.body n ≡ sector_content w.body n
    bytes_kept f k n here unwritten = step_bytes w x still_lawful s.request s.does f k n here unwritten

  -- ---- "each file sector holds what the last write put there until the file's actual delete"

  pub memory : (x y : Volume) (s : RequestStep w x) (f k : ℕ) (bytes : List ℕ) → PutsIn w x s.request s.does f k bytes → (after : History x y) → SparedIn after f k
      → (n : ℕ) × Belongs y f k n × (sector_content y.body n ≡ bytes)
  memory x y s f k bytes put after spared =
      let p = step_puts w x still_lawful s.request s.does f k bytes put in
      let q = spared_stays x y (step_lawful w x still_lawful s.request s.does) f k p.0 p.1 after spared in
      (p.0, q.0, q.1 ∙ p.2)

  -- and so does every sector hold what it held, written or not, while nothing is put there and the file is not actually deleted
  pub stays : (y : Volume) (f k n : ℕ) → Belongs w f k n → (after : History w y) → SparedIn after f k → Belongs y f k n × (sector_content y.body n ≡ sector_content w.body n)
  stays y f k n here after spared = spared_stays w y still_lawful f k n here after spared

  -- ---- "a header holds what its placing put there, but for the id, until it is replaced or its file actually deleted"

  pub header_memory : (x y : Volume) (s : RequestStep w x) (f : ℕ) (bytes : List ℕ) → PutsHeaderIn w x s.request s.does f bytes → (after : History x y) → HeaderLeftIn after f
      → Parent (seen y) f × (drop 4 (header_of y f) ≡ drop 4 bytes)
  header_memory x y s f bytes heads after left =
      let p = step_headed w x still_lawful s.request s.does f bytes heads in
      let q = header_left x y (step_lawful w x still_lawful s.request s.does) f p.0 after left in
      (q.0, q.1.bytes ∙ ap (drop 4) p.1)

  -- and so does every header hold what it held, while it is not replaced and the file is not actually deleted
  pub header_stays : (y : Volume) (f : ℕ) → Parent (seen w) f → (after : History w y) → HeaderLeftIn after f → Parent (seen y) f × SameHeader w y f
  header_stays y f parent after left = header_left w y still_lawful f parent after left

  -- ---- for the person who reads only one line: two files share no sector, and a write to one changes nothing that the other gives

  pub apart : (f g k l : ℕ) → f ≢ g → Parent (seen w) f → Parent (seen w) g → k < file_sectors (seen w) f → l < file_sectors (seen w) g → kth_sector (seen w) f k ≢ kth_sector (seen w) g l
  apart f g k l ne pf pg lk ll e = ne (place_one (places_of w.books) w.books layout lawful f g k l pf pg lk ll e).0

  -- nor do their headers, nor the data of one and the header of another or of its own
  pub header_apart : (f g k l : ℕ) → f ≢ g → Parent (seen w) f → Parent (seen w) g → k < header_count ((seen w).table f) → l < header_count ((seen w).table g)
      → header_start ((seen w).table f) + k ≢ header_start ((seen w).table g) + l
  header_apart f g k l ne pf pg lk ll e =
      ne (header_one f g k l _ (record { file = pf; place = lk; here = e }) (record { file = pg; place = ll; here = refl })).0

  pub data_header_apart : (f g k l : ℕ) → Parent (seen w) f → Parent (seen w) g → k < file_sectors (seen w) f → l < header_count ((seen w).table g)
      → kth_sector (seen w) f k ≢ header_start ((seen w).table g) + l
  data_header_apart f g k l pf pg lk ll e =
      belongs_no_header f g k l _ (record { file = pf; place = lk; here = e }) (record { file = pg; place = ll; here = refl })

  module _ (x : Volume) (f : ℕ) (at many : Option ℕ) (swap : Bool) (input date : List ℕ) (d : Does (write f at many swap input date) w x) (g : ℕ) (other : g ≢ f) where
    twin : SameFile w x g
    twin = wrote_same w x still_lawful f at many swap input date d g other

    pub read_same : (position long : Option ℕ) (exchange : Bool) (out : List ℕ) (r r' : Result ℕ Refusal) (y y' : List ℕ)
        → ReadOut w.books w.withheld w.body g position long exchange out r y → ReadOut x.books x.withheld x.body g position long exchange out r' y' → (r ≡ r') × (y ≡ y')
    read_same position long exchange out r r' y y' a b = reads_same w x g twin position long exchange out r r' y y' a b

    pub show_same : (k : ℕ) (y y' : List ℕ) → Shown w.books w.withheld w.body g k y → Shown x.books x.withheld x.body g k y' → y ≡ y'
    show_same k y y' a b = shows_same w x g twin k y y' a b

    pub show_header_same : (y y' : List ℕ) → HeaderShown w.books w.withheld w.body g y → HeaderShown x.books x.withheld x.body g y' → y ≡ y'
    show_header_same y y' a b = headers_same w x g twin y y' a b

-- ---- the bytes that all this speaks of are those that show and show header hand back

pub shown_data : (w : Volume) (f k : ℕ) (part : List ℕ) (s : Shown w.books w.withheld w.body f k part) → s.number ≡ 0 → part ≡ bytes_at w f k
shown_data w f k part s z = s.bytes ∙ ap (λ (r : ℕ). bytes_of r w.body (kth_sector (seen w) f k) 1) z

pub shown_header : (w : Volume) (f : ℕ) (part : List ℕ) (s : HeaderShown w.books w.withheld w.body f part) → s.number ≡ 0 → part ≡ header_of w f
shown_header w f part s z = s.bytes ∙ ap (λ (r : ℕ). bytes_of r w.body (header_start ((seen w).table f)) (header_count ((seen w).table f))) z

-- the j-th pointer of index table i
abbrev pointer : List ℕ → ℕ → ℕ → Pointer
pointer b i j = let t = (view_of (places_of b) b).table i in pointer_at t (base_of i t + 6 * j)

-- ---- "temporary delete, recover and set protection change neither pointers nor data": data, since they put no bytes (`bytes-kept`); set protection
-- leaves the body (`BooksOnly`), and of the body the two others write the id of the file's header alone (`marked_body`)

module _ (v v' : Volume) {extra : ℕ → ℕ} (good : GoodWith extra v.books (places_of v.books)) (id w : ℕ) (date : List ℕ) (i j : ℕ) (low : 1 ≤ i) (high : i ≤ (seen v).indexes) where
  abbrev b : List ℕ
  b = v.books

  abbrev b' : List ℕ
  b' = v'.books

  pub removed_pointers : Does (temporary_delete id date) v v' → pointer b' i j ≡ pointer b i j
  removed_pointers (r, d) = after_pointer r (removed (places_of b) b id date) b b' id i j low high good (removed_keeps b v.withheld v.body id date r b' v'.body (places_of b) d.promise good) d.promise.books
      (removed_restates b v.withheld (_, good) id date r v.body d.promise.number)

  pub recovered_pointers : Does (recover id date) v v' → pointer b' i j ≡ pointer b i j
  recovered_pointers (r, d) = after_pointer r (recovered (places_of b) b id date) b b' id i j low high good (recovered_keeps b v.withheld v.body id date r b' v'.body (places_of b) d.promise good) d.promise.books
      (recovered_restates b v.withheld (_, good) id date r v.body d.promise.number)

  pub protected_pointers : Does (set_protection id w date) v v' → pointer b' i j ≡ pointer b i j
  protected_pointers (r, d) = after_pointer r (protected (places_of b) b id w date) b b' id i j low high good (protected_keeps b v.withheld id w date r b' (places_of b) d.promise good) d.promise.books
      (protected_restates b v.withheld (_, good) id date r w d.promise.number)
