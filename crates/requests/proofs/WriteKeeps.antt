-- Write keeps the books good, and the body as long as it was: the rules hold of the books afterwards, at the same places.
use Rattle.std.specs.Prelude.{Option, Result}
use mathlib.Core.Path.{◌≡◌, refl, sym, ap, ap₂, ◌∙◌}
use mathlib.Core.Logic.{◌≢◌}
use mathlib.Core.Bool.{Bool, true, false, cond}
use mathlib.Core.List.{List}
use Prim.Native.Nat.{ℕ, zero, suc, ◌+◌, ◌*◌, ◌/◌, ◌≤◌, ◌<◌}
use native.Mathlib.Decide.{ℕ_discrete}
use native.Mathlib.Omega.{arith}
use lib.Dec.{eqb}
use lib.ListN.{length}
use borrow.Author.Tests.{eq-eqb, ne_eqb, eqb-true}
use Rattle.tables.specs.declared.places.Places.{Places}
use Rattle.tables.specs.Books.{GoodSome, GoodWith}
use Rattle.tables.specs.Dates.{Date}
use Rattle.tables.specs.Gates.{Gate}
use Rattle.tables.specs.Indexes.{attribute_of, variable_bit}
use Rattle.tables.specs.Places.{places_of, Layout}
use Rattle.tables.specs.Lawful.{LawfulSome}
use Rattle.tables.specs.Rules.R8.{file_sectors}
use Rattle.tables.specs.Sector1.{flag_of}
use Rattle.tables.specs.Views.{view_of, Parent}
use Rattle.files.specs.Moves.{filled, Movable}
use Rattle.files.proofs.MoveLaws.{length_filled}
use Rattle.requests.specs.Answers.{after}
use Rattle.requests.specs.Amounts.{amount_value}
use Rattle.requests.specs.Grow.{lack_tests, grown_to}
use Rattle.requests.specs.Named.{file_bytes}
use Rattle.requests.specs.Moving.{whole_sectors}
use Rattle.requests.specs.Write.{WriteAllowed, Within, asked_length, write_tests, settle, written_books, written_body, Wrote}
use Rattle.requests.proofs.RequestLaws.{good_room}
use Rattle.requests.proofs.CreateKeeps.{grown_keeps}
use Rattle.requests.proofs.MovingLaws.{file_here}
use Rattle.requests.proofs.WriteLaws.{asked_variable, Grown, grown_is, write_allows, write_good, write_parent, write_sized, write_within, write_lack}
use Rattle.requests.proofs.WriteRoom.{room_few}
use Rattle.requests.proofs.SettleLaws.{Settled, settle_keeps}
use Rattle.tables.specs.Refusals.{number_of}
use Rattle.tables.specs.declared.refusal.Refusal.{Refusal}

-- ---- the books written

-- a length that is asked for is a variable file's
asked_grows : (b : List ℕ) (id at n : ℕ) → 0 < asked_length b id at n → variable_bit (attribute_of (file_bytes b id)) ≡ 1
unfolding asked_length
asked_grows b id at n = go (eqb n 0) (eqb v 1) refl
  where
    v : ℕ
    v = variable_bit (attribute_of (file_bytes b id))

    go : (r s : Bool) → eqb v 1 ≡ s → 0 < cond r 0 (cond s (at + n) 0) → v ≡ 1
    go true s e l = absurd (omega arith)
    go false true e l = eqb-true v 1 e
    go false false e l = absurd (omega arith)

module _ (b : List ℕ) (id at n : ℕ) (date : List ℕ) where
  pub some_written : n ≢ 0 → written_books b id at n date ≡ settle (grown_to b id (asked_length b id at n) date) id date
  unfolding written_books
  some_written ne = rw (ne_eqb n 0 ne)

  pub none_written : n ≡ 0 → written_books b id at n date ≡ b
  unfolding written_books
  none_written e = rw (eq-eqb n 0 e)

module _ (b : List ℕ) (id at n : ℕ) (date : List ℕ) {extra : ℕ → ℕ} (g : GoodWith extra b (places_of b)) (parent : Parent (view_of (places_of b) b) id) (room : Gate (lack_tests b id (asked_length b id at n)) 0) (valid : Date date) where
  abbrev b₁ : List ℕ
  b₁ = grown_to b id (asked_length b id at n) date

  pub grown : Grown b id (asked_length b id at n) b₁
  grown = grown_is b id (asked_length b id at n) date g parent room valid.long

  pub grown_good : GoodWith extra b₁ (places_of b)
  grown_good = grown_keeps b id (asked_length b id at n) date g parent room valid (λ l. (asked_grows b id at n (omega arith), room_few b id (asked_length b id at n) g parent room l))

  pub settles : Settled extra b₁ id (places_of b) (settle b₁ id date)
  settles = settle_keeps b₁ id date (places_of b) grown_good grown.parent valid

  written_good : GoodWith extra (written_books b id at n date) (places_of b)
  written_good = elim (ℕ_discrete n 0) [ yes e ↦ rw (none_written b id at n date e) g | no ne ↦ rw (some_written b id at n date ne) settles.good ]

  pub written_parent : Parent (view_of (places_of b) (written_books b id at n date)) id
  written_parent = elim (ℕ_discrete n 0) [ yes e ↦ rw (none_written b id at n date e) parent | no ne ↦ rw (some_written b id at n date ne) settles.parent ]

  pub written_flag : flag_of (written_books b id at n date) ≡ flag_of b
  written_flag = elim (ℕ_discrete n 0) [ yes e ↦ ap flag_of (none_written b id at n date e) | no ne ↦ ap flag_of (some_written b id at n date ne) ∙ settles.flag ∙ grown.flag ]

  -- the bytes written are within the file's sectors
  written_sectors : n ≢ 0 → Within b id at n → at + n ≤ 1024 * file_sectors (view_of (places_of b) (written_books b id at n date)) id
  written_sectors ne w = rw (some_written b id at n date ne) within
    where
      within : at + n ≤ 1024 * file_sectors (view_of (places_of b) (settle b₁ id date)) id
      within =
          let a = attribute_of (file_bytes b id) in
          let most = (file_here (settle b₁ id date) (places_of b) id settles.good settles.parent).most in
          elim (ℕ_discrete (variable_bit a) 1) [
            | yes e ↦ omega (arith, asked_variable b id at n ne e, settles.long, grown.long', most)
            | no nv ↦ omega (arith, w.fixed (omega arith), settles.long, grown.more, most)
          ]

-- ---- the request

module _ (b withheld body : List ℕ) (id : ℕ) (position long : Option ℕ) (room : ℕ) (date : List ℕ) (m : ℕ) (h : Gate (write_tests b withheld body id position long room date) m) (e : m ≡ 0) where
  abbrev at : ℕ
  at = amount_value position

  abbrev n : ℕ
  n = whole_sectors (amount_value long)

  abbrev new : List ℕ
  new = written_books b id at n date

  g : GoodSome b (places_of b)
  g = write_good b withheld body id position long room date m h e

  parent : Parent (view_of (places_of b) b) id
  parent = write_parent b withheld body id position long room date m h e

  lack : Gate (lack_tests b id (asked_length b id at n)) 0
  lack = write_lack b withheld body id position long room date m h e

  allowed : WriteAllowed position long room date
  allowed = write_allows b withheld body id position long room date m h e

  new_good : GoodSome new (places_of b)
  new_good = (_, written_good b id at n date g.1 parent lack allowed.date')

  new_moves : n ≢ 0 → Movable (view_of (places_of b) new) id (at / 1024) (n / 1024) room (length body)
  new_moves ne =
      let within = written_sectors b id at n date g.1 parent lack allowed.date' ne (write_within b withheld body id position long room date m h e) in
      record {
        parent = written_parent b id at n date g.1 parent lack allowed.date';
        some = omega (arith, within);
        within = omega (arith, within);
        buffer = omega (arith, allowed.move.buffer);
        body' = write_sized b withheld body id position long room date m h e;
      }

  -- once the books are written: what moving the sectors asks
  module _ (x y w : ℕ) (place : x ≡ amount_value position) (wanted : y ≡ amount_value long) (whole : w ≡ whole_sectors y) (b' : List ℕ) (is : b' ≡ written_books b id x w date) where
    amount : w ≡ n
    amount = whole ∙ ap whole_sectors wanted

    now : b' ≡ new
    now = is ∙ ap₂ (λ (i j : ℕ). written_books b id i j date) place amount

    now_good : GoodSome b' (places_of b)
    now_good = rw now new_good

    pub wrote_room : 2048 ≤ length b'
    wrote_room = good_room b' (places_of b) now_good.1

    module _ (p : Places) (q : p ≡ places_of b') where
      same : p ≡ places_of b
      same = q ∙ sym now_good.1.places

      pub wrote_asks : w ≢ 0 → Layout p (length b') × (LawfulSome p b' × Movable (view_of p b') id (x / 1024) (w / 1024) room (length body))
      wrote_asks ne = (rw same now_good.1.layout, ((now_good.0, rw same now_good.1.lawful), rw (same, now, place, amount) (new_moves (λ z. ne (amount ∙ z)))))

-- ---- the promise

module _ (b withheld body : List ℕ) (id : ℕ) (position long : Option ℕ) (x : Bool) (input date : List ℕ) where
  abbrev at' : ℕ
  at' = amount_value position

  abbrev n' : ℕ
  n' = whole_sectors (amount_value long)

  none_long : n' ≡ 0 → length (written_body b id at' n' x input date body) ≡ length body
  unfolding written_body filled
  none_long z = ap (λ (k : ℕ). length (written_body b id at' k x input date body)) z

  some_long : Gate (write_tests b withheld body id position long (length input) date) 0 → n' ≢ 0 → length (written_body b id at' n' x input date body) ≡ length body
  unfolding written_body
  some_long h ne =
      let c = written_books b id at' n' date in
      let asks = wrote_asks b withheld body id position long (length input) date 0 h refl at' (amount_value long) n' refl refl refl c refl (places_of c) refl ne in
      length_filled (places_of c) c asks.0 asks.1.0.1 id (at' / 1024) (n' / 1024) x input body asks.1.1

  -- "the rules still hold" (demand 3): after write; and the body is as long as it was
  pub wrote_keeps : (r : Result ℕ Refusal) (b' body' : List ℕ) (p : Places) {extra : ℕ → ℕ} → GoodWith extra b p → Wrote b withheld body id position long x input date r b' body' → GoodWith extra b' p × (length body' ≡ length body)
  wrote_keeps r b' body' p {extra = extra} g h = go (number_of r) h.number h.books h.body''
    where
      go : (m : ℕ) → Gate (write_tests b withheld body id position long (length input) date) m → b' ≡ after m (written_books b id at' n' date) b
          → body' ≡ after m (written_body b id at' n' x input date body) body → GoodWith extra b' p × (length body' ≡ length body)
      go zero q eb ed = (
        rw (eb, g.places) (written_good b id at' n' date (rw g.places at g) (write_parent b withheld body id position long (length input) date 0 q refl) (write_lack b withheld body id position long (length input) date 0 q refl)
            (write_allows b withheld body id position long (length input) date 0 q refl).date'),
        ap length ed ∙ elim (ℕ_discrete n' 0) [ yes z ↦ none_long z | no ne ↦ some_long q ne ],
      )
      go (suc k) q eb ed = (rw eb g, ap length ed)
