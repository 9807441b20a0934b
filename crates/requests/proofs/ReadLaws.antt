-- Read: each way out, what its parts ask, and that its promise allows one result.
use Rattle.std.specs.Prelude.{Option, Result, Ok}
use mathlib.Core.Path.{◌≡◌, refl, sym, ap, ◌∙◌}
use mathlib.Core.Logic.{◌≢◌}
use mathlib.Core.Bool.{Bool, true, false, cond}
use mathlib.Core.List.{List, [], ◌∷◌, ◌++◌}
use Prim.Native.Nat.{ℕ, ◌-◌, ◌*◌, ◌/◌, ◌≤◌, ◌<◌}
use native.Mathlib.Omega.{arith}
use lib.Dec.{leb}
use lib.ListN.{length}
use borrow.Author.Tests.{le-leb, lt-leb, leb-true, leb-false}
use Rattle.field.specs.Says.{Says}
use Rattle.tables.specs.declared.places.Places.{Places}
use Rattle.tables.specs.Books.{GoodSome}
use Rattle.tables.specs.Gates.{Test, asks, Gate}
use Rattle.tables.specs.Places.{places_of, Layout}
use Rattle.tables.specs.Lawful.{LawfulSome}
use Rattle.tables.specs.Views.{view_of, Parent}
use Rattle.tables.proofs.GateLaws.{gate_one, gate_fails, gate_passes, gate_end, gate_stop, gate_skip, gate_rest, gate_head, gate_front}
use Rattle.files.specs.Moves.{fetched, Movable}
use Rattle.requests.specs.Answers.{argument_tests}
use Rattle.requests.specs.Body.{BodySized, body_test}
use Rattle.requests.specs.Amounts.{amount_value}
use Rattle.requests.specs.Read.{read_tests, read_amount, ReadOut}
use Rattle.requests.specs.Moving.{whole_sectors, end_of, MoveAllowed}
use Rattle.requests.specs.Named.{usable_tests}
use Rattle.requests.proofs.RequestLaws.{after_one}
use Rattle.requests.proofs.ArgumentLaws.{argument_says, argument_allowed, argument_good, argument_room}
use Rattle.requests.proofs.NamedLaws.{usable_parent}
use Rattle.requests.proofs.MovingLaws.{end_within}
use Rattle.tables.specs.Refusals.{number_of}
use Rattle.tables.specs.declared.refusal.Refusal.{Refusal}
use Rattle.tables.proofs.RefusalLaws.{answers_one}

-- ---- the amount

module _ (b : List ℕ) (id at long w e : ℕ) (wanted : w ≡ whole_sectors long) (end : e ≡ end_of b id) where
  pub amount_wanted : w ≤ e - at → w ≡ read_amount b id at long
  unfolding read_amount
  amount_wanted l = wanted ∙ sym (ap (λ (r : Bool). cond r (whole_sectors long) (end_of b id - at)) (le-leb (whole_sectors long) (end_of b id - at) (rw (wanted, end) at l)))

  pub amount_left : e - at < w → e - at ≡ read_amount b id at long
  unfolding read_amount
  amount_left l = ap (λ (x : ℕ). x - at) end ∙ sym (ap (λ (r : Bool). cond r (whole_sectors long) (end_of b id - at)) (lt-leb (whole_sectors long) (end_of b id - at) (rw (wanted, end) at l)))

-- it is no more than is wanted, and than remains
amount_most : (b : List ℕ) (id at long : ℕ) → (read_amount b id at long ≤ whole_sectors long) × (read_amount b id at long ≤ end_of b id - at)
unfolding read_amount
amount_most b id at long = go (leb (whole_sectors long) (end_of b id - at)) refl
  where
    go : (r : Bool) → leb (whole_sectors long) (end_of b id - at) ≡ r
        → (cond r (whole_sectors long) (end_of b id - at) ≤ whole_sectors long) × (cond r (whole_sectors long) (end_of b id - at) ≤ end_of b id - at)
    go true e = (omega arith, leb-true (whole_sectors long) (end_of b id - at) e)
    go false e = (omega (arith, leb-false (whole_sectors long) (end_of b id - at) e), omega arith)

-- ---- the request

-- 8, 9, 10, then 14
module _ (b : List ℕ) (id : ℕ) (position : Option ℕ) where
  abbrev pub end_tests : List Test
  end_tests = usable_tests 8 b id ++ (asks 14 (amount_value position < end_of b id) ∷ [])

  module _ (m : ℕ) (h : Gate (usable_tests 8 b id) m) where
    pub read_unusable : m ≢ 0 → Gate end_tests m
    read_unusable ne = gate_stop (usable_tests 8 b id) _ m h ne

    module _ (z : m ≡ 0) (x end : ℕ) (is : x ≡ amount_value position) (ends : end ≡ end_of b id) where
      pub read_past : end ≤ x → Gate end_tests 14
      read_past l = gate_skip (usable_tests 8 b id) _ m 14 h z (gate_fails 14 _ [] (omega arith) (λ k. omega arith))

      pub read_fine : x < end → Gate end_tests 0
      read_fine l = gate_skip (usable_tests 8 b id) _ m 0 h z (gate_passes 14 _ [] 0 (omega arith) gate_end)

module _ (b withheld body : List ℕ) (id : ℕ) (position long : Option ℕ) (room : ℕ) where
  module _ (a : Bool) (n : ℕ) (s : Says a (MoveAllowed position long room)) (g : Gate (argument_tests b withheld (a ≡ true)) n) where
    pub read_stops : n ≢ 0 → Gate (read_tests b withheld body id position long room) n
    unfolding read_tests
    read_stops ne = gate_stop (argument_tests b withheld (MoveAllowed position long room)) _ n (argument_says b withheld a _ n s g) ne

    pub read_goes : (r : ℕ) → n ≡ 0 → Gate (body_test b body ∷ end_tests b id position) r → Gate (read_tests b withheld body id position long room) r
    unfolding read_tests
    read_goes r e h = gate_skip (argument_tests b withheld (MoveAllowed position long room)) _ n r (argument_says b withheld a _ n s g) e h

  -- what a number 0 says
  module _ (n : ℕ) (h : Gate (read_tests b withheld body id position long room) n) (e : n ≡ 0) where
    front : Gate (argument_tests b withheld (MoveAllowed position long room)) 0
    unfolding read_tests
    front = gate_front (argument_tests b withheld (MoveAllowed position long room)) _ (rw e at h)

    rest : BodySized b body × Gate (end_tests b id position) 0
    unfolding read_tests
    rest = gate_head 15 (BodySized b body) _ (gate_rest (argument_tests b withheld (MoveAllowed position long room)) _ (rw e at h))

    pub read_room : 2048 ≤ length b
    read_room = argument_room b withheld _ 0 front refl

    module _ (p : Places) (is : p ≡ places_of b) where
      pub read_good : GoodSome b p
      read_good = rw is (argument_good b withheld _ 0 front refl)

      pub read_parent : Parent (view_of p b) id
      read_parent = usable_parent 8 b id p 0 read_good (gate_front (usable_tests 8 b id) _ rest.1) refl

      pub read_layout : Layout p (length b)
      read_layout = read_good.1.layout

      pub read_lawful : LawfulSome p b
      read_lawful = (_, read_good.1.lawful)

      module _ (at : ℕ) (place : at ≡ amount_value position) where
        pub read_before : at < end_of b id
        read_before = rw place (gate_head 14 _ [] (gate_rest (usable_tests 8 b id) _ rest.1)).0

        pub read_moves : (x n : ℕ) → x ≡ amount_value long → n ≡ read_amount b id at x → Movable (view_of p b) id (at / 1024) (n / 1024) room (length body)
        read_moves x n long' amount =
            let few = amount_most b id at x in
            let end = end_within b p id read_good.1 read_parent in
            let a = argument_allowed b withheld _ 0 front refl in
            let buffer : whole_sectors x ≤ room = rw long' a.buffer in
            record {
              parent = read_parent;
              some = omega (arith, read_before);
              within = omega (arith, read_before, few.1);
              buffer = omega (arith, few.0);
              body' = rest.0 ∙ ap (λ (q : Places). 1048576 * (q.zones - 2)) (sym is);
            }

module _ (b withheld body : List ℕ) (id : ℕ) (position long : Option ℕ) (x : Bool) (out : List ℕ) where
  pub read_done : (at y amount : ℕ) (p : Places) (out' : List ℕ) → Gate (read_tests b withheld body id position long (length out)) 0 → p ≡ places_of b → at ≡ amount_value position → y ≡ amount_value long
      → amount ≡ read_amount b id at y → out' ≡ fetched (view_of p b) id (at / 1024) x body out (amount / 1024) → ReadOut b withheld body id position long x out (Ok amount) out'
  read_done at y amount p out' g is place long' am o =
      let am' : amount ≡ read_amount b id (amount_value position) (amount_value long) = rw (← place, ← long') am in
      record {
        number = g;
        answer = am';
        output = rw (o, is, place, am');
      }

-- ---- one result

pub read_one : (b withheld body : List ℕ) (id : ℕ) (position long : Option ℕ) (x : Bool) (out : List ℕ) (r s : Result ℕ Refusal) (o u : List ℕ)
    → ReadOut b withheld body id position long x out r o → ReadOut b withheld body id position long x out s u → (r ≡ s) × (o ≡ u)
read_one b withheld body id position long x out r s o u h k =
    let e = gate_one _ (number_of r) (number_of s) h.number k.number in
    (answers_one r s _ _ h.answer k.answer (λ x y p q. p ∙ sym q) e, after_one (number_of r) (number_of s) o u _ out e h.output k.output)
