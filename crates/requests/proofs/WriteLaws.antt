-- Write: each way out, what its parts ask, the books once the file has grown, and that the promise allows one result.
use Rattle.std.specs.Prelude.{Option, Result, Ok}
use mathlib.Core.Path.{◌≡◌, refl, sym, ap, ap₂, ◌∙◌}
use mathlib.Core.Logic.{◌≢◌}
use mathlib.Core.Bool.{Bool, not, true, false}
use mathlib.Core.List.{List, ◌∷◌}
use Prim.Native.Nat.{ℕ, ◌+◌, ◌-◌, ◌*◌, ◌/◌, ◌%◌, ◌≤◌, ◌<◌}
use native.Mathlib.Decide.{dec_lt}
use native.Mathlib.Omega.{arith}
use lib.ListN.{length}
use borrow.Author.Tests.{eq-eqb, ne_eqb, lt-ltb, le-ltb}
use Rattle.field.specs.Says.{Says}
use Rattle.field.proofs.Tests.{passed, refused}
use Rattle.tables.specs.declared.places.Places.{Places}
use Rattle.tables.specs.Books.{GoodSome, GoodWith}
use Rattle.tables.specs.Gates.{Gate}
use Rattle.tables.specs.Indexes.{table_at, length_of, attribute_of, variable_bit}
use Rattle.tables.specs.Places.{places_of, Layout}
use Rattle.tables.specs.Sector1.{flag_of}
use Rattle.tables.specs.Views.{view_of, Parent}
use Rattle.tables.proofs.GateLaws.{gate_one, gate_fails, gate_passes, gate_stop, gate_skip, gate_rest, gate_head, gate_front}
use Rattle.allocation.specs.Choice.{in_order}
use Rattle.allocation.specs.MadeFiles.{grown}
use Rattle.allocation.proofs.FileLaws.{ready_grow}
use Rattle.allocation.proofs.HeldLawful.{quiet_places}
use Rattle.allocation.proofs.GrownLawful.{length_resized, grown_lengthened, grown_calm, grown_parent, grown_long, grown_attribute}
use Rattle.files.specs.Moves.{filled}
use Rattle.requests.specs.Answers.{argument_tests}
use Rattle.requests.specs.Body.{BodySized, body_test}
use Rattle.requests.specs.Amounts.{amount_value}
use Rattle.requests.specs.Grow.{grow_counts, lack_tests, grown_to}
use Rattle.requests.specs.Named.{file_bytes, VariableSize, usable_tests}
use Rattle.requests.specs.Moving.{whole_sectors, MoveAllowed}
use Rattle.requests.specs.State.{put_state}
use Rattle.requests.specs.Write.{WriteAllowed, Within, asked_length, move_tests, write_tests, settle, written_books, written_body, Wrote, Writes}
use Rattle.requests.proofs.RequestLaws.{after_one}
use Rattle.requests.proofs.ArgumentLaws.{argument_says, argument_allowed, argument_good}
use Rattle.requests.proofs.NamedLaws.{usable_parent}
use Rattle.requests.proofs.AmountLaws.{signed_most}
use Rattle.requests.proofs.LongerLaws.{lack_provided}
use Rattle.requests.proofs.FlagLaws.{flag_turn}
use Rattle.tables.specs.Refusals.{number_of}
use Rattle.tables.specs.declared.refusal.Refusal.{Refusal}
use Rattle.tables.proofs.RefusalLaws.{answers_one}

-- ---- arguments

-- ---- where may be written, and what length that asks for

module _ (b : List ℕ) (id at n : ℕ) where
  pub asked_variable : n ≢ 0 → VariableSize b id → at + n ≡ asked_length b id at n
  unfolding asked_length
  asked_variable ne v = rw (ne_eqb n 0 ne, eq-eqb (variable_bit (attribute_of (file_bytes b id))) 1 v)

  module _ (r : Bool) (s : Says r (VariableSize b id)) where
    pub asked_fixed : n ≢ 0 → not r ≡ true → 0 ≡ asked_length b id at n
    unfolding asked_length
    asked_fixed ne h = rw (ne_eqb n 0 ne, ne_eqb (variable_bit (attribute_of (file_bytes b id))) 1 (refused r s h))

    pub asked_more : n ≢ 0 → not r ≡ false → at + n ≡ asked_length b id at n
    asked_more ne h = asked_variable ne (passed r s h)

pub asked_none : (b : List ℕ) (id at n : ℕ) → n ≡ 0 → 0 ≡ asked_length b id at n
unfolding asked_length
asked_none b id at n e = rw (eq-eqb n 0 e)

-- ---- the numbers

module _ (b : List ℕ) (id at n m : ℕ) (h : Gate (usable_tests 4 b id) m) where
  pub move_unusable : m ≢ 0 → Gate (move_tests b id at n) m
  unfolding move_tests
  move_unusable ne = gate_stop (usable_tests 4 b id) _ m h ne

  module _ (e : m ≡ 0) (r : Bool) (s : Says r (Within b id at n)) where
    pub move_past : not r ≡ true → Gate (move_tests b id at n) 14
    unfolding move_tests
    move_past out = gate_skip (usable_tests 4 b id) _ m 14 h e (gate_fails 14 _ _ (omega arith) (refused r s out))

    pub move_lack : (x k : ℕ) → not r ≡ false → x ≡ asked_length b id at n → Gate (lack_tests b id x) k → Gate (move_tests b id at n) k
    unfolding move_tests
    move_lack x k in' is q = gate_skip (usable_tests 4 b id) _ m k h e (gate_passes 14 _ _ k (passed r s in') (rw is at q))

module _ (b withheld body : List ℕ) (id : ℕ) (position long : Option ℕ) (room : ℕ) (date : List ℕ) where
  module _ (a : Bool) (n : ℕ) (s : Says a (WriteAllowed position long room date)) (g : Gate (argument_tests b withheld (a ≡ true)) n) where
    pub write_stops : n ≢ 0 → Gate (write_tests b withheld body id position long room date) n
    unfolding write_tests
    write_stops ne = gate_stop (argument_tests b withheld (WriteAllowed position long room date)) _ n (argument_says b withheld a _ n s g) ne

    pub write_goes : (r : ℕ) → n ≡ 0 → Gate (body_test b body ∷ move_tests b id (amount_value position) (whole_sectors (amount_value long))) r → Gate (write_tests b withheld body id position long room date) r
    unfolding write_tests
    write_goes r e h = gate_skip (argument_tests b withheld (WriteAllowed position long room date)) _ n r (argument_says b withheld a _ n s g) e h

    module _ (e : n ≡ 0) (x y w : ℕ) (place : x ≡ amount_value position) (wanted : y ≡ amount_value long) (whole : w ≡ whole_sectors y) where
      moves : MoveAllowed position long room
      moves = (argument_allowed b withheld (WriteAllowed position long room date) n (argument_says b withheld a _ n s g) e).move

      pub write_early : x ≤ 2147483647
      write_early = rw place (signed_most position moves.position')

      pub write_short : w ≤ 2147483647
      write_short = omega (arith, signed_most long moves.long')

  -- the values that the code tests
  pub write_these : (x y w r : ℕ) → x ≡ amount_value position → y ≡ amount_value long → w ≡ whole_sectors y → Gate (move_tests b id x w) r
      → Gate (move_tests b id (amount_value position) (whole_sectors (amount_value long))) r
  write_these x y w r place wanted whole h = rw (whole, wanted, place) at h

  -- what a number 0 says
  module _ (m : ℕ) (h : Gate (write_tests b withheld body id position long room date) m) (e : m ≡ 0) where
    front : Gate (argument_tests b withheld (WriteAllowed position long room date)) 0
    unfolding write_tests
    front = gate_front (argument_tests b withheld (WriteAllowed position long room date)) _ (rw e at h)

    rest : BodySized b body × Gate (move_tests b id (amount_value position) (whole_sectors (amount_value long))) 0
    unfolding write_tests
    rest = gate_head 15 (BodySized b body) _ (gate_rest (argument_tests b withheld (WriteAllowed position long room date)) _ (rw e at h))

    usable : Gate (usable_tests 4 b id) 0
    unfolding move_tests
    usable = gate_front (usable_tests 4 b id) _ rest.1

    pub write_allows : WriteAllowed position long room date
    write_allows = argument_allowed b withheld (WriteAllowed position long room date) 0 front refl

    pub write_good : GoodSome b (places_of b)
    write_good = argument_good b withheld (WriteAllowed position long room date) 0 front refl

    pub write_parent : Parent (view_of (places_of b) b) id
    write_parent = usable_parent 4 b id (places_of b) 0 write_good usable refl

    pub write_sized : BodySized b body
    write_sized = rest.0

    pub write_within : Within b id (amount_value position) (whole_sectors (amount_value long))
    unfolding move_tests
    write_within = (gate_head 14 _ _ (gate_rest (usable_tests 4 b id) _ rest.1)).0

    pub write_lack : Gate (lack_tests b id (asked_length b id (amount_value position) (whole_sectors (amount_value long)))) 0
    unfolding move_tests
    write_lack = (gate_head 14 _ _ (gate_rest (usable_tests 4 b id) _ rest.1)).1

    -- what the writing of the books asks
    pub write_writes : (x y w : ℕ) → x ≡ amount_value position → y ≡ amount_value long → w ≡ whole_sectors y → w ≢ 0 → Writes b id x w date
    write_writes x y w place wanted whole ne =
        let a = write_allows.move in
        record {
          some = ne;
          small = omega (arith, signed_most position a.position', signed_most long a.long');
          room = rw (whole, wanted, place) write_lack;
          date' = write_allows.date'.long;
        }

-- ---- the books: the attribute

module _ (b : List ℕ) (p : Places) (is : p ≡ places_of b) where
  pub settle_is : (id : ℕ) (t : List ℕ) (a : ℕ) (date b' : List ℕ) → t ≡ table_at p b id → a ≡ attribute_of t → b' ≡ put_state p b id (a - a / 2 % 2 * 2) date → b' ≡ settle b id date
  unfolding settle
  settle_is id t a date b' bytes read h = rw (h, read, bytes, is)

-- ---- the books: the length

-- in books b' file id of b is of so many bytes at least, no shorter than it was, and has its attribute
pub record Grown (b : List ℕ) (id long : ℕ) (b' : List ℕ) : Type 0 where
  pub places : places_of b' ≡ places_of b
  pub len : length b' ≡ length b
  pub flag : flag_of b' ≡ flag_of b
  pub parent : Parent (view_of (places_of b) b') id
  pub long' : long ≤ length_of (table_at (places_of b) b' id)
  pub more : length_of (file_bytes b id) ≤ length_of (table_at (places_of b) b' id)
  pub attribute : attribute_of (table_at (places_of b) b' id) ≡ attribute_of (file_bytes b id)

module _ (b : List ℕ) (id long : ℕ) (date : List ℕ) {extra : ℕ → ℕ} (g : GoodWith extra b (places_of b)) (parent : Parent (view_of (places_of b) b) id) (room : Gate (lack_tests b id long) 0) (six : length date ≡ 6) where
  longer : length_of (file_bytes b id) < long → Grown b id long (grown (places_of b) b id (grow_counts b id long) long date)
  unfolding grown
  longer l =
      let p = places_of b in
      let counts = grow_counts b id long in
      let has = lack_provided b id long g room l in
      let quiet = grown_calm p b id counts has parent long date six in
      let is = grown_long p b id counts has parent long date six in
      let h = grown_lengthened p b id counts has parent in
      let resized = length_resized p _ id long date (rw (← h.quiet.len) at g.layout) parent.low parent.high six in
      record {
        places = quiet_places p b _ quiet;
        len = quiet.len;
        flag = resized.counts.flag ∙ flag_turn p id _ (in_order counts) (ready_grow p b id counts has parent);
        parent = grown_parent p b id counts has parent long date six;
        long' = omega (arith, is);
        more = omega (arith, is);
        attribute = grown_attribute p b id counts has parent long date six;
      }

  pub grown_is : Grown b id long (grown_to b id long date)
  unfolding grown_to
  grown_is = elim (dec_lt (length_of (file_bytes b id)) long) [
    | yes l ↦ rw (lt-ltb (length_of (file_bytes b id)) long l) (longer l)
    | no nl ↦ rw (le-ltb (length_of (file_bytes b id)) long (omega arith)) (record { places = refl; len = refl; flag = refl; parent = parent; long' = omega arith; more = omega arith; attribute = refl })
  ]

-- ---- the books, written

module _ (b : List ℕ) (id at n : ℕ) (date : List ℕ) {extra : ℕ → ℕ} (g : GoodWith extra b (places_of b)) (parent : Parent (view_of (places_of b) b) id) (h : Writes b id at n date) (x : ℕ) (is : x ≡ asked_length b id at n) where
  pub written_room : Gate (lack_tests b id x) 0
  written_room = rw is h.room

  module _ (b' : List ℕ) (e : b' ≡ grown_to b id x date) where
    grows : Grown b id x b'
    grows = rw e (grown_is b id x date g parent written_room h.date')

    pub written_layout : Layout (places_of b') (length b')
    written_layout = rw (grows.places, grows.len) g.layout

    pub written_low : 1 ≤ id
    written_low = parent.low

    pub written_high : id ≤ (places_of b').indexes
    written_high = omega (arith, parent.high, ap (λ (q : Places). q.indexes) grows.places)

  pub written_is : (b' b'' : List ℕ) → b' ≡ grown_to b id x date → b'' ≡ settle b' id date → b'' ≡ written_books b id at n date
  unfolding written_books
  written_is b' b'' e q = rw (q, e, is, ne_eqb n 0 h.some)

-- ---- the request

module _ (b withheld body : List ℕ) (id : ℕ) (position long : Option ℕ) (x : Bool) (input date : List ℕ) where
  module _ (g : Gate (write_tests b withheld body id position long (length input) date) 0) (at y n : ℕ) (place : at ≡ amount_value position) (wanted : y ≡ amount_value long) (whole : n ≡ whole_sectors y) where
    amount : n ≡ whole_sectors (amount_value long)
    amount = whole ∙ ap whole_sectors wanted

    -- "Zero bytes after rounding changes nothing"
    pub write_nothing : n ≡ 0 → Wrote b withheld body id position long x input date (Ok 0) b body
    unfolding written_books written_body filled
    write_nothing z =
        let none : whole_sectors (amount_value long) ≡ 0 = sym amount ∙ z in
        record {
          number = g;
          answer = sym none;
          books = sym (ap (λ (k : ℕ). written_books b id (amount_value position) k date) none);
          body'' = sym (ap (λ (k : ℕ). written_body b id (amount_value position) k x input date body) none);
        }

    pub write_done : (b' body' : List ℕ) (p : Places) → b' ≡ written_books b id at n date → p ≡ places_of b' → body' ≡ filled (view_of p b') id (at / 1024) x input body (n / 1024)
        → Wrote b withheld body id position long x input date (Ok n) b' body'
    unfolding written_body
    write_done b' body' p books is filled' = record {
      number = g;
      answer = amount;
      books = books ∙ ap₂ (λ (i j : ℕ). written_books b id i j date) place amount;
      body'' = rw (filled', is, books, place, amount);
    }

-- ---- one result

pub wrote_one : (b withheld body : List ℕ) (id : ℕ) (position long : Option ℕ) (x : Bool) (input date : List ℕ) (r s : Result ℕ Refusal) (c d u w : List ℕ)
    → Wrote b withheld body id position long x input date r c u → Wrote b withheld body id position long x input date s d w → (r ≡ s) × (c ≡ d) × (u ≡ w)
wrote_one b withheld body id position long x input date r s c d u w h k =
    let e = gate_one _ (number_of r) (number_of s) h.number k.number in (
      answers_one r s _ _ h.answer k.answer (λ x y p q. p ∙ sym q) e,
      after_one (number_of r) (number_of s) c d _ b e h.books k.books,
      after_one (number_of r) (number_of s) u w _ body e h.body'' k.body'',
    )
