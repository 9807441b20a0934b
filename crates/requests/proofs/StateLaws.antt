-- Temporary delete, recover and set protection: what a file's attribute and sector 1's counts allow, each way out, and that each promise
-- allows one result.
use mathlib.Core.Path.{◌≡◌, refl, ap, ◌∙◌}
use mathlib.Core.Logic.{◌≢◌}
use mathlib.Core.Bool.{Bool, true}
use mathlib.Core.List.{List}
use Prim.Native.Nat.{ℕ, ◌+◌, ◌-◌, ◌/◌, ◌%◌, ◌≤◌, ◌<◌}
use native.Mathlib.Omega.{arith}
use lib.ListN.{length}
use Rattle.field.specs.Says.{Says}
use Rattle.field.proofs.Sums.{sum_part}
use Rattle.tables.specs.declared.places.Places.{Places}
use Rattle.tables.specs.Dates.{Date}
use Rattle.tables.specs.Indexes.{table_at, word_of, attribute_of, directory_bit, system_bit, deleted_bit, minus}
use Rattle.tables.specs.Places.{places_of, Layout}
use Rattle.tables.specs.Sector1.{active_of, deleted_of, system_of, directory_of}
use Rattle.tables.specs.Gates.{Gate}
use Rattle.tables.specs.Books.{GoodSome, GoodWith}
use Rattle.tables.specs.Rules.R9.{active_one, deleted_one, system_one, directory_one}
use Rattle.tables.specs.Views.{View, view_of, Parent, tally}
use Rattle.tables.proofs.Sector1CountLaws.{ones_active, ones_deleted}
use Rattle.tables.proofs.GateLaws.{gate_one, gate_stop, gate_skip, gate_rest, gate_front}
use Rattle.files.specs.HeaderBytes.{header_marked, HeaderInBody}
use Rattle.requests.specs.Answers.{argument_tests}
use Rattle.requests.specs.Body.{BodySized, lent_tests}
use Rattle.requests.specs.Named.{state_tests, asked_tests, usable_tests}
use Rattle.requests.specs.State.{put_state, put_counts, removed, recovered, protection_of, protected, remove_tests, Removed, recover_tests, Recovered, ProtectAllowed, protect_tests, Protected}
use Rattle.requests.proofs.RequestLaws.{after_one, good_few}
use Rattle.requests.proofs.ArgumentLaws.{argument_allowed, argument_good, argument_room}
use Rattle.requests.proofs.BodyLaws.{lent_says, lent_allowed, lent_sized, lent_good, lent_room, mark_asks}
use Rattle.requests.proofs.NamedLaws.{asked_says, state_file, usable_active}

-- ---- what the rules say of a file's attribute, and of sector 1's counts

-- what file f adds to a count is part of it
part : (v : View) (one : ℕ → List ℕ → ℕ) (f : ℕ) → Parent v f → one f (v.table f) ≤ tally v one
unfolding tally
part v one f h =
    let e : f - 1 + 1 ≡ f = omega (arith, h.low) in
    rw e at (sum_part v.indexes (f - 1) (λ k. one (k + 1) (v.table (k + 1))) (omega (arith, h.low, h.high)))

module _ (b : List ℕ) (p : Places) {extra : ℕ → ℕ} (g : GoodWith extra b p) (f : ℕ) (h : Parent (view_of p b) f) where
  pub weights_few : attribute_of (table_at p b f) < 128
  weights_few = (g.lawful.r8 f (omega (arith, h.high)) h.low h.word).weights

  nonzero : word_of (table_at p b f) ≡ 0 → ⊥
  nonzero e = omega (arith, h.low, h.word)

  module _ (is : deleted_bit (attribute_of (table_at p b f)) ≡ 0) where
    pub active_some : 1 ≤ active_of b
    active_some = omega (arith, g.lawful.r9.active, part (view_of p b) active_one f h, (ones_active f (table_at p b f) nonzero h.word (λ e. omega arith)).active)

    pub system_some : system_bit (attribute_of (table_at p b f)) ≤ system_of b
    system_some = rw ((ones_active f (table_at p b f) nonzero h.word (λ e. omega arith)).system, ← g.lawful.r9.system) at (part (view_of p b) system_one f h)

    pub directory_some : directory_bit (attribute_of (table_at p b f)) ≤ directory_of b
    directory_some = rw ((ones_active f (table_at p b f) nonzero h.word (λ e. omega arith)).directory, ← g.lawful.r9.directory) at (part (view_of p b) directory_one f h)

  pub deleted_some : deleted_bit (attribute_of (table_at p b f)) ≡ 1 → 1 ≤ deleted_of b
  deleted_some is = omega (arith, g.lawful.r9.deleted, part (view_of p b) deleted_one f h, (ones_deleted f (table_at p b f) nonzero h.word is).deleted)

-- ---- what the code reads

module _ (b : List ℕ) (p : Places) (f : ℕ) {extra : ℕ → ℕ} (g : GoodWith extra b p) (h : Parent (view_of p b) f) where
  pub remove_active : (n : ℕ) → deleted_bit (attribute_of (table_at p b f)) ≡ 0 → n ≡ active_of b → 1 ≤ n
  remove_active n is e = rw e (active_some b p g f h is)

  pub remove_deleted : (n : ℕ) → n ≡ deleted_of b → n + 1 < 4294967296
  remove_deleted n e = omega (arith, (good_few b p g).deleted)

  pub restore_active : (n : ℕ) → n ≡ active_of b → n + 1 < 4294967296
  restore_active n e = omega (arith, (good_few b p g).active)

  pub restore_deleted : (n : ℕ) → deleted_bit (attribute_of (table_at p b f)) ≡ 1 → n ≡ deleted_of b → 1 ≤ n
  restore_deleted n is e = rw e (deleted_some b p g f h is)

  module _ (t : List ℕ) (bytes : t ≡ table_at p b f) (a : ℕ) (read : a ≡ attribute_of t) where
    here : a ≡ attribute_of (table_at p b f)
    here = read ∙ ap attribute_of bytes

    pub remove_system : (n : ℕ) → deleted_bit (attribute_of (table_at p b f)) ≡ 0 → n ≡ system_of b → a / 64 % 2 ≤ n
    remove_system n is e = rw (here, e) (system_some b p g f h is)

    pub remove_directory : (n : ℕ) → deleted_bit (attribute_of (table_at p b f)) ≡ 0 → n ≡ directory_of b → a / 32 % 2 ≤ n
    remove_directory n is e = rw (here, e) (directory_some b p g f h is)

    pub restore_system : (n : ℕ) → n ≡ system_of b → n + a / 64 % 2 < 65536
    restore_system n e = omega (arith, (good_few b p g).system)

    pub restore_directory : (n : ℕ) → n ≡ directory_of b → n + a / 32 % 2 < 65536
    restore_directory n e = omega (arith, (good_few b p g).directory)

    pub remove_is : (active deleted system directory : ℕ) (x y date : List ℕ) → (active ≡ active_of b) → (deleted ≡ deleted_of b) → (system ≡ system_of b) → (directory ≡ directory_of b)
        → x ≡ put_counts b (active - 1) (deleted + 1) (system - a / 64 % 2) (directory - a / 32 % 2) → y ≡ put_state p x f (a + 1) date → y ≡ removed p b f date
    unfolding removed
    remove_is active deleted system directory x y date ea ed es er ex ey = rw (ey, ex, ea, ed, es, er, here)

    pub restore_is : (active deleted system directory : ℕ) (x y date : List ℕ) → (active ≡ active_of b) → (deleted ≡ deleted_of b) → (system ≡ system_of b) → (directory ≡ directory_of b)
        → x ≡ put_counts b (active + 1) (deleted - 1) (system + a / 64 % 2) (directory + a / 32 % 2) → y ≡ put_state p x f (a - 1) date → y ≡ recovered p b f date
    unfolding recovered
    restore_is active deleted system directory x y date ea ed es er ex ey = rw (ey, ex, ea, ed, es, er, here)

    pub protect_is : (w r : ℕ) (y date : List ℕ) → r ≡ protection_of a w → y ≡ put_state p b f r date → y ≡ protected p b f w date
    unfolding protected
    protect_is w r y date er ey = rw (ey, er, here)

-- ---- temporary delete and recover

module _ (b withheld body : List ℕ) (id : ℕ) (date : List ℕ) where
  module _ (a : Bool) (n : ℕ) (s : Says a (Date date)) (g : Gate (lent_tests b withheld body (a ≡ true)) n) where
    pub remove_stops : n ≢ 0 → Gate (remove_tests b withheld body id date) n
    unfolding remove_tests
    remove_stops ne = gate_stop (lent_tests b withheld body (Date date)) _ n (lent_says b withheld body a _ n s g) ne

    pub remove_goes : (r : ℕ) → n ≡ 0 → Gate (usable_tests 4 b id) r → Gate (remove_tests b withheld body id date) r
    unfolding remove_tests
    remove_goes r e h = gate_skip (lent_tests b withheld body (Date date)) _ n r (lent_says b withheld body a _ n s g) e h

    pub recover_stops : n ≢ 0 → Gate (recover_tests b withheld body id date) n
    unfolding recover_tests
    recover_stops ne = gate_stop (lent_tests b withheld body (Date date)) _ n (lent_says b withheld body a _ n s g) ne

    pub recover_goes : (r : ℕ) → n ≡ 0 → Gate (state_tests 1 b id) r → Gate (recover_tests b withheld body id date) r
    unfolding recover_tests
    recover_goes r e h = gate_skip (lent_tests b withheld body (Date date)) _ n r (lent_says b withheld body a _ n s g) e h

  module _ (n : ℕ) (g : Gate (remove_tests b withheld body id date) n) (e : n ≡ 0) where
    remove_front : Gate (lent_tests b withheld body (Date date)) 0
    unfolding remove_tests
    remove_front = gate_front (lent_tests b withheld body (Date date)) _ (rw e at g)

    pub remove_room : 2048 ≤ length b
    remove_room = lent_room b withheld body (Date date) 0 remove_front refl

    pub remove_valid : Date date
    remove_valid = lent_allowed b withheld body (Date date) 0 remove_front refl

    pub remove_sized : BodySized b body
    remove_sized = lent_sized b withheld body (Date date) 0 remove_front refl

    -- what the books' change asks
    pub remove_asks : (p : Places) → p ≡ places_of b → GoodSome b p × (Parent (view_of p b) id × ((deleted_bit (attribute_of (table_at p b id)) ≡ 0) × (length date ≡ 6)))
    unfolding remove_tests
    remove_asks p is = let f = usable_active 4 b id (gate_rest (lent_tests b withheld body (Date date)) _ (rw e at g)) in rw is (lent_good b withheld body (Date date) 0 remove_front refl, (f.0, (f.1, remove_valid.long)))

    -- what the header's asks, and the id that is written there
    pub remove_marks : (p : Places) → p ≡ places_of b → Layout p (length b) × (((1 ≤ id) × (id ≤ p.indexes)) × HeaderInBody (table_at p b id) (length body))
    remove_marks p is = let a = remove_asks p is in mark_asks b body p id a.0.1 a.1.0 remove_sized

    pub remove_few : (1 ≤ id) × (id ≤ 4096)
    remove_few = let m = remove_marks (places_of b) refl in (m.1.0.0, omega (arith, m.1.0.1, m.0.few))

  pub remove_done : (n : ℕ) (p : Places) (w : ℕ) (b' body' : List ℕ) → Gate (remove_tests b withheld body id date) n → n ≡ 0 → p ≡ places_of b → w ≡ minus id
      → body' ≡ header_marked (view_of p b) id w body → b' ≡ removed p b id date → Removed b withheld body id date 0 b' body'
  remove_done n p w b' body' g e is own k h = record { number = rw e at g; books = h ∙ ap (λ (q : Places). removed q b id date) is; body'' = rw (k, is, own) }

  module _ (n : ℕ) (g : Gate (recover_tests b withheld body id date) n) (e : n ≡ 0) where
    recover_front : Gate (lent_tests b withheld body (Date date)) 0
    unfolding recover_tests
    recover_front = gate_front (lent_tests b withheld body (Date date)) _ (rw e at g)

    pub recover_room : 2048 ≤ length b
    recover_room = lent_room b withheld body (Date date) 0 recover_front refl

    pub recover_valid : Date date
    recover_valid = lent_allowed b withheld body (Date date) 0 recover_front refl

    pub recover_sized : BodySized b body
    recover_sized = lent_sized b withheld body (Date date) 0 recover_front refl

    pub recover_asks : (p : Places) → p ≡ places_of b → GoodSome b p × (Parent (view_of p b) id × ((deleted_bit (attribute_of (table_at p b id)) ≡ 1) × (length date ≡ 6)))
    unfolding recover_tests
    recover_asks p is = let f = state_file b id 1 (gate_rest (lent_tests b withheld body (Date date)) _ (rw e at g)) in rw is (lent_good b withheld body (Date date) 0 recover_front refl, (f.0, (f.1, recover_valid.long)))

    pub recover_marks : (p : Places) → p ≡ places_of b → Layout p (length b) × (((1 ≤ id) × (id ≤ p.indexes)) × HeaderInBody (table_at p b id) (length body))
    recover_marks p is = let a = recover_asks p is in mark_asks b body p id a.0.1 a.1.0 recover_sized

-- ---- set protection

module _ (b withheld : List ℕ) (id w : ℕ) (date : List ℕ) where
  pub protect_asked : (a : Bool) (n : ℕ) → Says a (ProtectAllowed w date) → Gate (asked_tests 0 b withheld (a ≡ true) id) n → Gate (protect_tests b withheld id w date) n
  unfolding protect_tests
  protect_asked a n s g = asked_says 0 b withheld id a (ProtectAllowed w date) n s g

  module _ (n : ℕ) (g : Gate (protect_tests b withheld id w date) n) (e : n ≡ 0) where
    protect_front : Gate (argument_tests b withheld (ProtectAllowed w date)) 0
    unfolding protect_tests
    protect_front = gate_front (argument_tests b withheld (ProtectAllowed w date)) _ (rw e at g)

    pub protect_room : 2048 ≤ length b
    protect_room = argument_room b withheld (ProtectAllowed w date) 0 protect_front refl

    pub protect_valid : ProtectAllowed w date
    protect_valid = argument_allowed b withheld (ProtectAllowed w date) 0 protect_front refl

    pub protect_asks : (p : Places) → p ≡ places_of b → GoodSome b p × (Parent (view_of p b) id × ((w ≤ 12) × (length date ≡ 6)))
    unfolding protect_tests
    protect_asks p is =
        let f = state_file b id 0 (gate_rest (argument_tests b withheld (ProtectAllowed w date)) _ (rw e at g)) in
        rw is (argument_good b withheld (ProtectAllowed w date) 0 protect_front refl, (f.0, (protect_valid.most, protect_valid.date'.long)))

-- ---- one result

pub removed_one : (b withheld body : List ℕ) (id : ℕ) (date : List ℕ) (r s : ℕ) (x y m n : List ℕ) → Removed b withheld body id date r x m → Removed b withheld body id date s y n → (r ≡ s) × ((x ≡ y) × (m ≡ n))
removed_one b withheld body id date r s x y m n h k =
    let e = gate_one (remove_tests b withheld body id date) r s h.number k.number in
    (e, (after_one r s x y _ b e h.books k.books, after_one r s m n _ body e h.body'' k.body''))

pub recovered_one : (b withheld body : List ℕ) (id : ℕ) (date : List ℕ) (r s : ℕ) (x y m n : List ℕ) → Recovered b withheld body id date r x m → Recovered b withheld body id date s y n → (r ≡ s) × ((x ≡ y) × (m ≡ n))
recovered_one b withheld body id date r s x y m n h k =
    let e = gate_one (recover_tests b withheld body id date) r s h.number k.number in
    (e, (after_one r s x y _ b e h.books k.books, after_one r s m n _ body e h.body'' k.body''))

pub protected_one : (b withheld : List ℕ) (id w : ℕ) (date : List ℕ) (r s : ℕ) (x y : List ℕ) → Protected b withheld id w date r x → Protected b withheld id w date s y → (r ≡ s) × (x ≡ y)
protected_one b withheld id w date r s x y h k =
    let e = gate_one (protect_tests b withheld id w date) r s h.number k.number in
    (e, after_one r s x y _ b e h.books k.books)
