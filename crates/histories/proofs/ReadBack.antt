-- A read after a write gives the bytes back, by the promises of both.
use Rattle.std.specs.Prelude.{Option, Result, Ok}
use mathlib.Core.Path.{◌≡◌, refl, sym, ap, ◌∙◌}
use mathlib.Core.Logic.{◌≢◌}
use mathlib.Core.Bool.{Bool, true}
use mathlib.Core.List.{List, []}
use Prim.Native.Nat.{ℕ, ◌+◌, ◌-◌, ◌*◌, ◌/◌, ◌%◌, ◌≤◌}
use native.Mathlib.Decide.{ℕ_discrete}
use native.Mathlib.Omega.{arith}
use lib.ListN.{length, take}
use Rattle.tables.specs.declared.places.Places.{Places}
use Rattle.tables.specs.Books.{Good, GoodWith, book_tests}
use Rattle.tables.specs.Gates.{Gate}
use Rattle.tables.specs.Indexes.{table_at, length_of, attribute_of, variable_bit, deleted_bit}
use Rattle.tables.specs.Lawful.{LawfulSome}
use Rattle.tables.specs.Places.{places_of, Layout}
use Rattle.tables.specs.Sector1.{flag_of}
use Rattle.tables.specs.Views.{view_of, Parent}
use Rattle.tables.specs.Withheld.{withheld_over}
use Rattle.tables.proofs.GateLaws.{gate_passes, gate_rest, gate_head, gate_front, zero_good}
use Rattle.tables.proofs.WithheldLaws.{good_kept}
use Rattle.files.specs.Moves.{filled, fetched, Movable}
use Rattle.files.proofs.MoveLaws.{read_back}
use Rattle.requests.specs.Answers.{use_tests, argument_tests}
use Rattle.requests.specs.Body.{BodySized}
use Rattle.requests.specs.Amounts.{amount_value}
use Rattle.requests.specs.Grow.{lack_tests, grown_to}
use Rattle.requests.specs.Named.{file_bytes, named_tests, Unprotected, usable_tests}
use Rattle.requests.specs.Read.{read_tests, ReadOut}
use Rattle.requests.specs.Moving.{whole_sectors, end_of, MoveAllowed}
use Rattle.requests.specs.Write.{WriteAllowed, asked_length, move_tests, write_tests, settle, written_books, written_body, Wrote}
use Rattle.requests.proofs.JudgedLaws.{use_fine}
use Rattle.requests.proofs.ArgumentLaws.{argument_fine}
use Rattle.requests.proofs.NamedLaws.{state_fine, usable_active, usable_fine}
use Rattle.requests.proofs.StampLaws.{same_counted, put_fields}
use Rattle.requests.proofs.ReadLaws.{amount_wanted, read_goes, read_fine, read_done, read_one}
use Rattle.requests.proofs.WriteLaws.{asked_variable, Grown, grown_is, settle_is, write_allows, write_parent, write_within, write_lack}
use Rattle.requests.proofs.TypesKept.{wrote_types}
use Rattle.requests.proofs.WriteKeeps.{some_written, grown_good, settles, written_flag, wrote_asks, wrote_keeps}
use Rattle.tables.specs.Refusals.{number_of}
use Rattle.tables.specs.declared.refusal.Refusal.{Refusal}

-- ---- the write, done, for some bytes

module _ (b withheld body : List ℕ) (id : ℕ) (position long : Option ℕ) (x : Bool) (input date : List ℕ) (r : Result ℕ Refusal) (b' body' : List ℕ)
    (w : Wrote b withheld body id position long x input date r b' body') (done : number_of r ≡ 0) (some : whole_sectors (amount_value long) ≢ 0) where
  abbrev at : ℕ
  at = amount_value position

  abbrev n : ℕ
  n = whole_sectors (amount_value long)

  abbrev p : Places
  p = places_of b

  abbrev a : ℕ
  a = attribute_of (file_bytes b id)

  abbrev b₁ : List ℕ
  b₁ = grown_to b id (asked_length b id at n) date

  gate : Gate (write_tests b withheld body id position long (length input) date) 0
  gate = rw done at w.number

  front : Gate (use_tests b withheld) 0
  unfolding write_tests argument_tests
  front = gate_front (use_tests b withheld) _ (gate_front (argument_tests b withheld (WriteAllowed position long (length input) date)) _ gate)

  listed : Good b withheld p
  unfolding use_tests
  listed = zero_good b withheld (gate_front (book_tests b withheld) _ front)

  abbrev extra : ℕ → ℕ
  extra = withheld_over (view_of p b) withheld

  good : GoodWith extra b p
  good = listed.books

  parent : Parent (view_of p b) id
  parent = write_parent b withheld body id position long (length input) date 0 gate refl

  allowed : WriteAllowed position long (length input) date
  allowed = write_allows b withheld body id position long (length input) date 0 gate refl

  lack : Gate (lack_tests b id (asked_length b id at n)) 0
  lack = write_lack b withheld body id position long (length input) date 0 gate refl

  -- the flag is not 0
  flag : flag_of b ≢ 0
  unfolding use_tests
  flag = (gate_head 5 (flag_of b ≢ 0) [] (gate_rest (book_tests b withheld) _ front)).0

  -- the file is active
  active : deleted_bit a ≡ 0
  unfolding write_tests move_tests
  active =
      let rest = gate_rest (argument_tests b withheld (WriteAllowed position long (length input) date)) _ gate in
      (usable_active 4 b id (gate_front (usable_tests 4 b id) _ (gate_head 15 (BodySized b body) _ rest).1)).1

  longer : Grown b id (asked_length b id at n) b₁
  longer = grown_is b id (asked_length b id at n) date good parent lack allowed.date'.long

  books_are : b' ≡ written_books b id at n date
  books_are = rw done at w.books

  books_settled : b' ≡ settle b₁ id date
  books_settled = books_are ∙ some_written b id at n date some

  kept : GoodWith extra b' p × (length body' ≡ length body)
  kept = wrote_keeps b withheld body id position long x input date r b' body' p good w

  same : p ≡ places_of b'
  same = kept.0.places

  asked : Layout p (length b') × (LawfulSome p b' × Movable (view_of p b') id (at / 1024) (n / 1024) (length input) (length body))
  asked = wrote_asks b withheld body id position long (length input) date 0 gate refl at (amount_value long) n refl refl refl b' books_are p same some

  moves : Movable (view_of p b') id (at / 1024) (n / 1024) (length input) (length body)
  moves = asked.1.1

  -- weight 2 is cleared
  attribute' : attribute_of (table_at p b' id) ≡ a - a / 2 % 2 * 2
  attribute' =
      let six = allowed.date'.long in
      let g₁ = grown_good b id at n date good parent lack allowed.date' in
      let a₁ = attribute_of (table_at p b₁ id) in
      let put = settle_is b₁ p g₁.places id (table_at p b₁ id) a₁ date _ refl refl refl in
      ap (λ (c : List ℕ). attribute_of (table_at p c id)) (books_settled ∙ sym put)
      ∙ (put_fields p b₁ b₁ id (a₁ - a₁ / 2 % 2 * 2) date g₁.layout (same_counted b₁) parent.low parent.high six).attribute'
      ∙ ap (λ (y : ℕ). y - y / 2 % 2 * 2) longer.attribute

  length' : length_of (file_bytes b' id) ≡ length_of (table_at p b₁ id)
  length' =
      ap (λ (q : Places). length_of (table_at q b' id)) (sym same) ∙ ap (λ (c : List ℕ). length_of (table_at p c id)) books_settled
      ∙ (settles b id at n date good parent lack allowed.date').long

  -- the bytes written lie before the end
  end' : at + n ≤ end_of b' id
  end' =
      let within = write_within b withheld body id position long (length input) date 0 gate refl in
      elim (ℕ_discrete (variable_bit a) 1) [
        | yes e ↦ omega (arith, asked_variable b id at n some e, length', longer.long')
        | no nv ↦ omega (arith, within.fixed (omega arith), length', longer.more)
      ]

  body_is : body' ≡ filled (view_of p b') id (at / 1024) x input body (n / 1024)
  unfolding written_body
  body_is =
      let here : body' ≡ filled (view_of (places_of b') b') id (at / 1024) x input body (n / 1024) = rw books_are (rw done at w.body'') in
      here ∙ ap (λ (q : Places). filled (view_of q b') id (at / 1024) x input body (n / 1024)) (sym same)

  used : Gate (use_tests b' withheld) 0
  used = use_fine b' withheld p (flag_of b') (good_kept b b' withheld p listed kept.0 (wrote_types b withheld good body id position long x input date r b' body' w)) refl (λ e. flag (sym (written_flag b id at n date good parent lack allowed.date') ∙ sym (ap flag_of books_are) ∙ e))

  -- ---- the read

  module _ (readable : Unprotected 8 b id) (out : List ℕ) (fits : whole_sectors (amount_value long) ≤ length out) where
    abbrev t' : List ℕ
    t' = table_at p b' id

    named : Gate (named_tests b' id) 0
    named = state_fine b' p id kept.0 0 moves.parent (omega (arith, attribute', active))

    sized : BodySized b' body'
    sized = kept.1 ∙ moves.body' ∙ ap (λ (q : Places). 1048576 * (q.zones - 2)) same

    usable : Gate (usable_tests 8 b' id) 0
    usable =
        let free : attribute_of t' / 8 ≡ a / 8 = omega (arith, attribute') in
        let same' : attribute_of (file_bytes b' id) ≡ attribute_of t' = ap (λ (q : Places). attribute_of (table_at q b' id)) (sym same) in
        usable_fine 8 b' id 0 named refl (ap (λ (k : ℕ). k / 8 % 2) same' ∙ ap (λ (k : ℕ). k % 2) free ∙ readable)

    number : Gate (read_tests b' withheld body' id position long (length out)) 0
    number =
        let m = allowed.move in
        let fine : MoveAllowed position long (length out) = record { position' = m.position'; sector = m.sector; long' = m.long'; buffer = fits } in
        read_goes b' withheld body' id position long (length out) true 0 fine (argument_fine b' withheld true 0 used refl refl) 0 refl
        (gate_passes 15 (BodySized b' body') _ 0 sized (read_fine b' id position 0 usable refl at (end_of b' id) refl refl (omega (arith, end'))))

    reads : ReadOut b' withheld body' id position long x out (Ok n) (fetched (view_of p b') id (at / 1024) x body' out (n / 1024))
    reads =
        read_done b' withheld body' id position long x out at (amount_value long) n p _ number same refl refl
        (amount_wanted b' id at (amount_value long) n (end_of b' id) refl refl (omega (arith, end'))) refl

    back : take n (fetched (view_of p b') id (at / 1024) x body' out (n / 1024)) ≡ take n input
    back =
        let whole : 1024 * (n / 1024) ≡ n = omega arith in
        rw (← body_is, whole) at (read_back p b' asked.0 asked.1.0.1 id (at / 1024) (n / 1024) x input body out moves (omega arith))

-- a write that is done, of some bytes, and then a read of the same file, position, length and exchange: it is done, moves as many bytes,
-- and they are the input's
pub read_after_write : (b withheld body : List ℕ) (id : ℕ) (position long : Option ℕ) (x : Bool) (input date : List ℕ) (r : Result ℕ Refusal) (b' body' : List ℕ)
    → Wrote b withheld body id position long x input date r b' body' → number_of r ≡ 0 → whole_sectors (amount_value long) ≢ 0 → Unprotected 8 b id
    → (out : List ℕ) → whole_sectors (amount_value long) ≤ length out → (s : Result ℕ Refusal) (out' : List ℕ) → ReadOut b' withheld body' id position long x out s out'
    → (s ≡ Ok (whole_sectors (amount_value long))) × (take (whole_sectors (amount_value long)) out' ≡ take (whole_sectors (amount_value long)) input)
read_after_write b withheld body id position long x input date r b' body' w done some readable out fits s out' h =
    let e = read_one b' withheld body' id position long x out s (Ok (whole_sectors (amount_value long))) out' _ h (reads b withheld body id position long x input date r b' body' w done some readable out fits) in
    (e.0, ap (take (whole_sectors (amount_value long))) e.1 ∙ back b withheld body id position long x input date r b' body' w done some readable out fits)
