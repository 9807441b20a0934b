-- Both creates: each way out, and that their promise allows one result.
use Rattle.std.specs.Prelude.{Result, Ok, Err}
use mathlib.Core.Path.{◌≡◌, refl, sym, ap, ◌∙◌}
use mathlib.Core.Bool.{Bool, true}
use mathlib.Core.List.{List, []}
use Prim.Native.Nat.{ℕ, ◌≤◌}
use lib.ListN.{length}
use Rattle.field.specs.Says.{Says}
use Rattle.tables.specs.declared.kinds.Index.{Index}
use Rattle.tables.specs.declared.places.Places.{Places}
use Rattle.tables.specs.Places.{places_of}
use Rattle.tables.specs.Sector1.{first_free_of}
use Rattle.tables.specs.Gates.{Test, Gate}
use Rattle.tables.specs.Books.{GoodWith}
use Rattle.tables.proofs.GateLaws.{gate_one, gate_stop, gate_skip}
use Rattle.allocation.specs.declared.tail.Tail.{Tail}
use Rattle.allocation.specs.NextPointer.{no_pointer}
use Rattle.allocation.specs.NewTables.{New}
use Rattle.allocation.specs.MadeFiles.{created, ProvidedWith}
use Rattle.requests.specs.Answers.{argument_tests}
use Rattle.requests.specs.Create.{room_tests, NewFile, Creates}
use Rattle.requests.proofs.RequestLaws.{after_one, after_refused}
use Rattle.requests.proofs.ArgumentLaws.{argument_says}
use Rattle.requests.proofs.RoomNumberLaws.{room_provides}
use Rattle.tables.specs.Refusals.{number_of}
use Rattle.tables.specs.declared.refusal.Refusal.{Refusal}
use Rattle.tables.specs.Refusals.{number}
use Rattle.tables.proofs.RefusalLaws.{refused as refusal_some, answers_one}

-- ---- name, kind and date

module _ (name : List ℕ) (kind : ℕ) (date : List ℕ) where
  -- what its table's fields ask
  pub file_fits : NewFile name kind date → (length name ≤ 24) × (length date ≡ 6)
  file_fits f = (f.name'.most, f.date'.long)

-- ---- the file made

pub none_provides : (b : List ℕ) (p : Places) (l : Tail) (counts : List ℕ) (n : ℕ) {extra : ℕ → ℕ} → GoodWith extra b p → length counts ≡ 6 → l ≡ no_pointer → Gate (room_tests p b l counts) n → n ≡ 0 → ProvidedWith extra p b no_pointer counts
none_provides b p l counts n g six e h z = rw e at (room_provides b p l counts n g six h z)

module _ (b : List ℕ) (counts : List ℕ) (new : New) where
  pub make_refused : (p : Places) (l : Tail) (why : Refusal) → p ≡ places_of b → l ≡ no_pointer → Gate (room_tests p b l counts) (number why) → Creates [] b counts new (Err why) b
  make_refused p l why e t g = record { number = rw (e, t) at g; answer = tt; books = after_refused (number why) _ b (refusal_some why) }

  pub make_done : (p : Places) (l : Tail) (i : Index) (b' : List ℕ) → p ≡ places_of b → l ≡ no_pointer → Gate (room_tests p b l counts) 0 → i.0 ≡ first_free_of b
      → b' ≡ created p b new counts → Creates [] b counts new (Ok i) b'
  make_done p l i b' e t g id h = record {
    number = rw (e, t) at g;
    answer = id;
    books = h ∙ ap (λ (q : Places). created q b new counts) e;
  }

module _ (b withheld : List ℕ) (counts : List ℕ) (new : New) where
  module _ (P : Type 0) (a : Bool) (s : Says a P) where
    pub create_stops : (why : Refusal) → Gate (argument_tests b withheld (a ≡ true)) (number why) → Creates (argument_tests b withheld P) b counts new (Err why) b
    create_stops why g = record {
      number = gate_stop (argument_tests b withheld P) _ (number why) (argument_says b withheld a P (number why) s g) (refusal_some why);
      answer = tt;
      books = after_refused (number why) _ b (refusal_some why);
    }

    pub create_ends : (r : Result Index Refusal) (b' : List ℕ) → Gate (argument_tests b withheld (a ≡ true)) 0 → Creates [] b counts new r b' → Creates (argument_tests b withheld P) b counts new r b'
    create_ends r b' g m = record {
      number = gate_skip (argument_tests b withheld P) _ 0 (number_of r) (argument_says b withheld a P 0 s g) refl m.number;
      answer = m.answer;
      books = m.books;
    }

-- ---- one result

index_one : (i j : Index) → i.0 ≡ j.0 → i ≡ j
index_one i j e = ap (λ (x : ℕ). record { 0 = x }) e

pub creates_one : (tests : List Test) (b : List ℕ) (counts : List ℕ) (new : New) (r s : Result Index Refusal) (x y : List ℕ)
    → Creates tests b counts new r x → Creates tests b counts new s y → (r ≡ s) × (x ≡ y)
creates_one tests b counts new r s x y h k =
    let e = gate_one _ (number_of r) (number_of s) h.number k.number in
    (answers_one r s _ _ h.answer k.answer (λ i j p q. index_one i j (p ∙ sym q)) e, after_one (number_of r) (number_of s) x y _ b e h.books k.books)
