-- The body's length: that the code tests it, each way on from 15 to the tests after it, and that a file's header lies in a body of that
-- length.
use mathlib.Core.Path.{◌≡◌, refl, ap, ◌∙◌}
use mathlib.Core.Logic.{◌≢◌}
use mathlib.Core.Bool.{Bool, not, true, false}
use mathlib.Core.List.{List, [], ◌∷◌}
use Prim.Native.Nat.{ℕ, zero, suc, ◌+◌, ◌*◌, ◌≤◌, ◌<◌}
use native.Mathlib.Omega.{arith}
use lib.ListN.{length}
use Rattle.field.specs.Says.{Says}
use Rattle.field.proofs.Tests.{passed, refused}
use Rattle.tables.specs.declared.places.Places.{Places}
use Rattle.tables.specs.Books.{GoodSome, GoodWith}
use Rattle.tables.specs.Gates.{Test, Gate}
use Rattle.tables.specs.Indexes.{table_at, header_start, header_count}
use Rattle.tables.specs.Places.{places_of, Layout}
use Rattle.tables.specs.Sector0.{zones_of}
use Rattle.tables.specs.Views.{view_of, Parent}
use Rattle.tables.proofs.GateLaws.{gate_fails, gate_passes, gate_end, gate_stop, gate_skip, gate_rest, gate_head, gate_front, gate_swap}
use Rattle.files.specs.HeaderBytes.{HeaderInBody}
use Rattle.files.specs.Moves.{body_place}
use Rattle.files.proofs.HeaderByteLaws.{length_header_marked}
use Rattle.requests.specs.Answers.{after, use_tests, argument_tests}
use Rattle.requests.specs.Body.{BodySized, body_test, lent_tests}
use Rattle.requests.specs.State.{marked_body}
use Rattle.requests.proofs.RequestLaws.{good_room}
use Rattle.requests.proofs.ArgumentLaws.{good_at, says_this, this_says, argument_allowed, argument_good}

-- 15, then tests ts
module _ (b body : List ℕ) (ts : List Test) (r : Bool) (s : Says r (BodySized b body)) where
  pub body_other : not r ≡ true → Gate (body_test b body ∷ ts) 15
  body_other h = gate_fails 15 (BodySized b body) ts (omega arith) (refused r s h)

  pub body_goes : (n : ℕ) → not r ≡ false → Gate ts n → Gate (body_test b body ∷ ts) n
  body_goes n h g = gate_passes 15 (BodySized b body) ts n (passed r s h) g

-- ---- 1 to 5, 7, and 15

module _ (b withheld body : List ℕ) where
  module _ (P : Type 0) (n : ℕ) (g : Gate (argument_tests b withheld P) n) where
    pub lent_stops : n ≢ 0 → Gate (lent_tests b withheld body P) n
    unfolding lent_tests
    lent_stops ne = gate_stop (argument_tests b withheld P) (body_test b body ∷ []) n g ne

    module _ (e : n ≡ 0) (r : Bool) (s : Says r (BodySized b body)) where
      pub lent_other : not r ≡ true → Gate (lent_tests b withheld body P) 15
      unfolding lent_tests
      lent_other h = gate_skip (argument_tests b withheld P) (body_test b body ∷ []) n 15 g e (body_other b body [] r s h)

      pub lent_fine : not r ≡ false → Gate (lent_tests b withheld body P) 0
      unfolding lent_tests
      lent_fine h = gate_skip (argument_tests b withheld P) (body_test b body ∷ []) n 0 g e (body_goes b body [] r s 0 h gate_end)

  -- the answer of a test of P
  pub lent_says : (r : Bool) (P : Type 0) (n : ℕ) → Says r P → Gate (lent_tests b withheld body (r ≡ true)) n → Gate (lent_tests b withheld body P) n
  unfolding lent_tests argument_tests use_tests
  lent_says r P n s g = gate_swap (use_tests b withheld) (body_test b body ∷ []) 7 (r ≡ true) P n (λ e. says_this r P s e) (λ p. this_says r P s p) g

  -- what no number says
  module _ (P : Type 0) (n : ℕ) (g : Gate (lent_tests b withheld body P) n) (e : n ≡ 0) where
    lent_front : Gate (argument_tests b withheld P) 0
    unfolding lent_tests
    lent_front = gate_front (argument_tests b withheld P) (body_test b body ∷ []) (rw e at g)

    pub lent_allowed : P
    lent_allowed = argument_allowed b withheld P 0 lent_front refl

    pub lent_sized : BodySized b body
    unfolding lent_tests
    lent_sized = (gate_head 15 (BodySized b body) [] (gate_rest (argument_tests b withheld P) (body_test b body ∷ []) (rw e at g))).0

    pub lent_good : GoodSome b (places_of b)
    lent_good = argument_good b withheld P 0 lent_front refl

    pub lent_good_at : (p : Places) → p ≡ places_of b → GoodSome b p
    lent_good_at p is = good_at b p lent_good is

    pub lent_layout : (p : Places) → p ≡ places_of b → Layout p (length b)
    lent_layout p is = (lent_good_at p is).1.layout

    pub lent_room : 2048 ≤ length b
    lent_room = good_room b (places_of b) lent_good.1

-- ---- a file's header, where it has one, lies in a body of that length

module _ (b body : List ℕ) (p : Places) (f : ℕ) {extra : ℕ → ℕ} (g : GoodWith extra b p) (parent : Parent (view_of p b) f) (sized : BodySized b body) where
  -- all its sectors, by R6
  pub header_part_inside : 0 < header_count (table_at p b f)
      → (1024 ≤ header_start (table_at p b f)) × (body_place (header_start (table_at p b f)) + 1024 * header_count (table_at p b f) ≤ length body)
  header_part_inside some =
      let r = ((g.lawful.r6 f (omega (arith, parent.high)) parent.low).header parent.word).run (omega arith) in
      let z : p.zones ≡ zones_of b = ap (λ (q : Places). q.zones) g.places in
      (r.low, omega (arith, r.low, r.high, z, g.layout.least, sized))

  -- so its first four bytes
  pub header_in_body : HeaderInBody (table_at p b f) (length body)
  header_in_body some = let h = header_part_inside some in (h.0, omega (arith, h.1))

  -- what writing them asks
  pub mark_asks : Layout p (length b) × (((1 ≤ f) × (f ≤ p.indexes)) × HeaderInBody (table_at p b f) (length body))
  mark_asks = (g.layout, ((parent.low, parent.high), header_in_body))

-- they are written or not: the body is as long as it was
pub marked_long : (r : ℕ) (b : List ℕ) (id w : ℕ) (body body' : List ℕ) → body' ≡ after r (marked_body b id w body) body → length body' ≡ length body
marked_long zero b id w body body' e = ap length e ∙ length_header_marked (view_of (places_of b) b) id w body
marked_long (suc k) b id w body body' e = ap length e
