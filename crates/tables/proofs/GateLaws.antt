-- Numbers in order: the first that applies is one, and how a judge comes to it, test by test.
use mathlib.Core.Path.{◌≡◌, refl, sym, ◌∙◌}
use mathlib.Core.Logic.{inl, inr, ◌≢◌}
use mathlib.Core.List.{List, [], ◌∷◌, ◌++◌}
use Prim.Native.Nat.{ℕ}
use lib.ListN.{length}
use Rattle.tables.specs.declared.places.Places.{Places}
use Rattle.tables.specs.Gates.{Test, asks, Gate}
use Rattle.tables.specs.Books.{Sized, Marked, Placed, Good, GoodSome, book_tests}
use Rattle.tables.specs.Places.{places_of}
use Rattle.tables.specs.Lawful.{Lawful}
use Rattle.tables.specs.Views.{view_of}
use Rattle.tables.specs.Withheld.{Withholds}
use Rattle.tables.proofs.PlaceLaws.{stand_layout}

-- whatever the conditions are, one number is answered
pub gate_one : (ts : List Test) (r s : ℕ) → Gate ts r → Gate ts s → r ≡ s
unfolding Gate
gate_one [] r s h k = h ∙ sym k
gate_one (t ∷ ts) r s (inl h) (inl k) = gate_one ts r s h.1 k.1
gate_one (t ∷ ts) r s (inl h) (inr k) = absurd (k.0 h.0)
gate_one (t ∷ ts) r s (inr h) (inl k) = absurd (h.0 k.0)
gate_one (t ∷ ts) r s (inr h) (inr k) = h.1 ∙ sym k.1

-- a test that fails, one that passes, and none left
pub gate_fails : (n : ℕ) (P : Type 0) (ts : List Test) → n ≢ 0 → (P → ⊥) → Gate (asks n P ∷ ts) n
unfolding Gate
gate_fails n P ts some h = inr (h, refl, some)

pub gate_passes : (n : ℕ) (P : Type 0) (ts : List Test) (r : ℕ) → P → Gate ts r → Gate (asks n P ∷ ts) r
unfolding Gate
gate_passes n P ts r h g = inl (h, g)

pub gate_end : Gate [] 0
unfolding Gate
gate_end = refl

-- tests after others: where a number applied, and where none did
pub gate_stop : (ts us : List Test) (r : ℕ) → Gate ts r → r ≢ 0 → Gate (ts ++ us) r
unfolding Gate
gate_stop [] us r h some = absurd (some h)
gate_stop (t ∷ ts) us r (inl h) some = inl (h.0, gate_stop ts us r h.1 some)
gate_stop (t ∷ ts) us r (inr h) some = inr h

pub gate_skip : (ts us : List Test) (r s : ℕ) → Gate ts r → r ≡ 0 → Gate us s → Gate (ts ++ us) s
unfolding Gate
gate_skip [] us r s h e g = g
gate_skip (t ∷ ts) us r s (inl h) e g = inl (h.0, gate_skip ts us r s h.1 e g)
gate_skip (t ∷ ts) us r s (inr h) e g = absurd (h.2 e)

-- and the tests after others are passed too where nothing applied at all
pub gate_rest : (ts us : List Test) → Gate (ts ++ us) 0 → Gate us 0
unfolding Gate
gate_rest [] us g = g
gate_rest (t ∷ ts) us (inl h) = gate_rest ts us h.1
gate_rest (t ∷ ts) us (inr h) = absurd (h.2 refl)

-- ---- tests that all pass

pub gate_head : (n : ℕ) (P : Type 0) (ts : List Test) → Gate (asks n P ∷ ts) 0 → P × Gate ts 0
unfolding Gate
gate_head n P ts (inl h) = h
gate_head n P ts (inr h) = absurd (h.2 refl)

pub gate_front : (ts us : List Test) → Gate (ts ++ us) 0 → Gate ts 0
unfolding Gate
gate_front [] us g = refl
gate_front (t ∷ ts) us (inl h) = inl (h.0, gate_front ts us h.1)
gate_front (t ∷ ts) us (inr h) = inr h

-- a condition may be said in other words
pub gate_swap : (ts us : List Test) (n : ℕ) (P Q : Type 0) (r : ℕ) → (P → Q) → (Q → P) → Gate (ts ++ (asks n P ∷ us)) r → Gate (ts ++ (asks n Q ∷ us)) r
unfolding Gate
gate_swap [] us n P Q r f g (inl h) = inl (f h.0, h.1)
gate_swap [] us n P Q r f g (inr h) = inr (λ q. h.0 (g q), h.1, h.2)
gate_swap (t ∷ ts) us n P Q r f g (inl h) = inl (h.0, gate_swap ts us n P Q r f g h.1)
gate_swap (t ∷ ts) us n P Q r f g (inr h) = inr h

-- a condition that holds may stand among the tests, or not
pub gate_slip : (ts us : List Test) (r n : ℕ) (P : Type 0) → P → Gate (ts ++ us) r → Gate (ts ++ (asks n P ∷ us)) r
unfolding Gate
gate_slip [] us r n P p g = inl (p, g)
gate_slip (t ∷ ts) us r n P p (inl h) = inl (h.0, gate_slip ts us r n P p h.1)
gate_slip (t ∷ ts) us r n P p (inr h) = inr h

pub slip_gate : (ts us : List Test) (r n : ℕ) (P : Type 0) → P → Gate (ts ++ (asks n P ∷ us)) r → Gate (ts ++ us) r
unfolding Gate
slip_gate [] us r n P p (inl h) = h.1
slip_gate [] us r n P p (inr h) = absurd (h.0 p)
slip_gate (t ∷ ts) us r n P p (inl h) = inl (h.0, slip_gate ts us r n P p h.1)
slip_gate (t ∷ ts) us r n P p (inr h) = inr h

-- ---- the books' own tests

-- books and a withheld list that no number refuses are good
pub zero_good : (b withheld : List ℕ) → Gate (book_tests b withheld) 0 → Good b withheld (places_of b)
zero_good b withheld g =
    let s = gate_head 1 (Sized b) _ g in
    let m = gate_head 2 (Marked b) _ s.1 in
    let p = gate_head 3 (Placed b) _ m.1 in
    let w = gate_head 7 (Withholds (view_of (places_of b) b) withheld) _ p.1 in
    let l = gate_head 4 (Lawful (places_of b) b withheld) _ w.1 in
    let limits = p.0.limits in
    record {
      list = w.0;
      books = record {
        places = refl;
        sized = s.0;
        marked = m.0;
        placed = p.0;
        layout = stand_layout (places_of b) (length b) limits.least limits.most limits.some limits.few s.0.most p.0.stand;
        lawful = l.0;
      };
    }

-- with something set besides
pub zero_some : (b withheld : List ℕ) → Gate (book_tests b withheld) 0 → GoodSome b (places_of b)
zero_some b withheld g = (_, (zero_good b withheld g).books)

pub good_zero : (b withheld : List ℕ) (p : Places) → Good b withheld p → Gate (book_tests b withheld) 0
unfolding Gate
good_zero b withheld p h =
    let g = h.books in
    inl (g.sized, inl (g.marked, inl (g.placed, inl (rw g.places at h.list, inl (rw g.places at g.lawful, refl)))))

pub good_gate : (b withheld : List ℕ) (p : Places) (us : List Test) (s : ℕ) → Good b withheld p → Gate us s → Gate (book_tests b withheld ++ us) s
good_gate b withheld p us s g h = gate_skip (book_tests b withheld) us 0 s (good_zero b withheld p g) refl h

pub bad_gate : (b withheld : List ℕ) (us : List Test) (n : ℕ) → Gate (book_tests b withheld) n × (n ≢ 0) → Gate (book_tests b withheld ++ us) n
bad_gate b withheld us n h = gate_stop (book_tests b withheld) us n h.0 h.1
