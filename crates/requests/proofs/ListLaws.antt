-- List: which files are listed, the entries made index by index, each way out, and that its promise allows one result.
use Rattle.std.specs.Prelude.{Result, Ok, Err}
use mathlib.Core.Path.{◌≡◌, refl, sym, ap, ap₂, ◌∙◌}
use mathlib.Core.Bool.{Bool, true, false, cond, ◌&&◌}
use mathlib.Core.List.{List, [], ◌∷◌, ◌++◌, append-nil, append_assoc}
use Prim.Native.Nat.{ℕ, ◌+◌, ◌-◌, ◌*◌, ◌/◌, ◌≤◌, ◌<◌}
use native.Mathlib.Decide.{dec_lt}
use native.Mathlib.Omega.{arith}
use borrow.Author.Tests.{le-leb, lt-leb, lt-ltb, le-ltb, leb-true, leb-false}
use lib.Dec.{leb, ltb}
use lib.ListN.{length, take, drop, length-append}
use lib.Seq.{length-take-le, take-nil, take_all, take-append-le, take-append_seam, drop-drop, drop-append-add}
use Rattle.field.specs.Says.{Says}
use Rattle.field.specs.Parts.{over}
use Rattle.tables.specs.declared.places.Places.{Places}
use Rattle.tables.specs.Gates.{Gate}
use Rattle.tables.specs.Indexes.{table_at}
use Rattle.tables.specs.Places.{places_of, Layout}
use Rattle.tables.specs.Views.{View, view_of}
use Rattle.tables.proofs.GateLaws.{gate_one}
use Rattle.tables.proofs.IndexLaws.{length_table}
use Rattle.requests.specs.Answers.{argument_tests}
use Rattle.requests.specs.Active.{is_active, passing}
use Rattle.requests.specs.Listing.{is_listed, listed, fronts, Listed}
use Rattle.requests.proofs.RequestLaws.{after_one, after_refused}
use Rattle.requests.proofs.ArgumentLaws.{argument_says}
use Rattle.requests.proofs.SearchRequestLaws.{over_front}
use Rattle.requests.proofs.ActiveLaws.{passing_next}
use Rattle.tables.specs.Refusals.{number_of}
use Rattle.tables.specs.declared.refusal.Refusal.{Refusal}
use Rattle.tables.specs.Refusals.{number}
use Rattle.tables.proofs.RefusalLaws.{refused, answers_one}

-- ---- one index

module _ (v : View) (from i : ℕ) where
  pub listed_below : i < from → false ≡ is_listed v from i
  unfolding is_listed
  listed_below h = rw (lt-leb from i h)

  pub listed_says : (r : Bool) → from ≤ i → r ≡ is_active v i → r ≡ is_listed v from i
  unfolding is_listed
  listed_says r h e = rw (le-leb from i h) e

-- its bytes are copied
pub front_long : (t : List ℕ) → length t ≡ 128 → 64 ≡ length (take 64 t)
front_long t e = sym (length-take-le 64 t (omega arith))

pub front_fits : (t x : List ℕ) (n : ℕ) → length t ≡ 128 → n < length x / 64 → 64 * n + length (take 64 t) ≤ length x
front_fits t x n e h = omega (arith, front_long t e)

-- ---- entries one after the other

fronts_more : (v : View) (xs : List ℕ) (i : ℕ) → fronts v (xs ++ (i ∷ [])) ≡ fronts v xs ++ take 64 (v.table i)
unfolding fronts
fronts_more v [] i = append-nil (take 64 (v.table i))
fronts_more v (j ∷ xs) i =
    ap (λ (x : List ℕ). take 64 (v.table j) ++ x) (fronts_more v xs i) ∙ sym (append_assoc (take 64 (v.table j)) (fronts v xs) (take 64 (v.table i)))

-- a part laid after a part
over_at : (xs ys zs : List ℕ) → over (xs ++ zs) (length xs) ys ≡ xs ++ (ys ++ drop (length ys) zs)
unfolding over
over_at xs ys zs = ap₂ (λ (x y : List ℕ). x ++ (ys ++ y)) (take-append_seam xs zs) (drop-append-add xs zs (length ys))

over_behind : (l xs ys : List ℕ) (n : ℕ) → length xs ≡ n → over (over l 0 xs) n ys ≡ over l 0 (xs ++ ys)
over_behind l xs ys n e =
    ap₂ (λ (x : List ℕ) (k : ℕ). over x k ys) (over_front l xs) (sym e)
    ∙ over_at xs ys (drop (length xs) l)
    ∙ ap (λ (x : List ℕ). xs ++ (ys ++ x)) (drop-drop (length ys) (length xs) l)
    ∙ sym (append_assoc xs ys (drop (length xs + length ys) l))
    ∙ sym (over_front l (xs ++ ys) ∙ ap (λ (k : ℕ). xs ++ ys ++ drop k l) (length-append xs ys))

-- the first k of a list that may get one more: n of them before, and one more where n is below k
one_more : (xs : List ℕ) (t : Bool) (i k : ℕ) → length xs < k → length (xs ++ cond t (i ∷ []) []) ≤ k
one_more xs true i k h = omega (arith, length-append xs (i ∷ []))
one_more xs false i k h = rw (append-nil xs) (omega arith)

take_next : (k n : ℕ) (xs : List ℕ) (t : Bool) (i : ℕ) → n ≡ length (take k xs) → take k (xs ++ cond t (i ∷ []) []) ≡ take k xs ++ cond (ltb n k && t) (i ∷ []) []
take_next k n xs t i e = elim (dec_lt (length xs) k) [
  | yes h ↦ (let a : take k xs ≡ xs = take_all k xs (omega arith) in
      rw (lt-ltb n k (rw (e, a) h), a) (take_all k (xs ++ cond t (i ∷ []) []) (one_more xs t i k h)))
  | no h ↦ (let a : length (take k xs) ≡ k = length-take-le k xs (omega arith) in
      rw (le-ltb n k (omega (arith, a))) (take-append-le k xs (cond t (i ∷ []) []) (omega arith) ∙ sym (append-nil (take k xs))))
]

-- ---- the entries before index i: n of them

pub record Filled (v : View) (from : ℕ) (l : List ℕ) (i n : ℕ) (x : List ℕ) : Type 0 where
  pub low : 1 ≤ i
  pub few : n < i
  pub count : n ≡ length (take (length l / 64) (passing (is_listed v from) (i - 1)))
  pub whole : length (fronts v (take (length l / 64) (passing (is_listed v from) (i - 1)))) ≡ 64 * n
  pub bytes : x ≡ over l 0 (fronts v (take (length l / 64) (passing (is_listed v from) (i - 1))))
  pub long : length x ≡ length l

module _ (v : View) (from : ℕ) (l : List ℕ) where
  pub filled_none : Filled v from l 1 0 l
  unfolding passing fronts
  filled_none =
      let e = take-nil {A = ℕ} (length l / 64) in
      record { low = omega arith; few = omega arith; count = rw e; whole = rw e; bytes = rw e (sym (over_front l [])); long = refl }

  filled_next : (i n r : ℕ) (x x' : List ℕ) (t : Bool) → Filled v from l i n x → length (v.table i) ≡ 128 → r ≡ cond t (n + 1) n → x' ≡ cond t (over x (64 * n) (take 64 (v.table i))) x → length x' ≡ length x
      → take (length l / 64) (passing (is_listed v from) (i + 1 - 1)) ≡ take (length l / 64) (passing (is_listed v from) (i - 1)) ++ cond t (i ∷ []) [] → Filled v from l (i + 1) r x'
  filled_next i n r x x' true h table e g long q =
      let ids : List ℕ = take (length l / 64) (passing (is_listed v from) (i - 1)) in
      let one : length (take 64 (v.table i)) ≡ 64 = length-take-le 64 (v.table i) (omega arith) in
      record {
        low = omega arith;
        few = omega (arith, h.few);
        count = rw q (omega (arith, h.count, length-append ids (i ∷ [])));
        whole = rw (q, fronts_more v ids i) (omega (arith, h.whole, length-append (fronts v ids) (take 64 (v.table i))));
        bytes = rw (q, fronts_more v ids i) (g ∙ ap (λ (y : List ℕ). over y (64 * n) (take 64 (v.table i))) h.bytes ∙ over_behind l (fronts v ids) (take 64 (v.table i)) (64 * n) h.whole);
        long = long ∙ h.long;
      }
  filled_next i n r x x' false h table e g long q =
      let ids : List ℕ = take (length l / 64) (passing (is_listed v from) (i - 1)) in record {
        low = omega arith;
        few = omega (arith, h.few);
        count = rw (q, append-nil ids) (e ∙ h.count);
        whole = rw (q, append-nil ids, e) h.whole;
        bytes = rw (q, append-nil ids) (g ∙ h.bytes);
        long = long ∙ h.long;
      }

pub filled_more : (p : Places) (b : List ℕ) (from : ℕ) (l : List ℕ) (i n r : ℕ) (x x' : List ℕ) → Layout p (length b) → i < p.indexes + 1 → Filled (view_of p b) from l i n x
    → r ≡ cond (ltb n (length x / 64) && is_listed (view_of p b) from i) (n + 1) n
    → x' ≡ cond (ltb n (length x / 64) && is_listed (view_of p b) from i) (over x (64 * n) (take 64 (table_at p b i))) x → length x' ≡ length x → Filled (view_of p b) from l (i + 1) r x'
filled_more p b from l i n r x x' lay hi h e g long =
    let test = is_listed (view_of p b) from in
    filled_next (view_of p b) from l i n r x x' (ltb n (length l / 64) && test i) h (length_table p b i lay h.low (omega arith)) (rw h.long at e) (rw h.long at g) long
    (ap (take (length l / 64)) (passing_next test i h.low) ∙ take_next (length l / 64) n (passing test (i - 1)) (test i) i h.count)

-- ---- the request

module _ (b withheld : List ℕ) (from : ℕ) (l : List ℕ) where
  from_says : Says (leb 1 from) (1 ≤ from)
  from_says = go (leb 1 from) refl
    where
      go : (t : Bool) → leb 1 from ≡ t → Says t (1 ≤ from)
      go true e = leb-true 1 from e
      go false e = λ h. let q = leb-false 1 from e in omega arith

  pub list_refused : (why : Refusal) → Gate (argument_tests b withheld (leb 1 from ≡ true)) (number why) → Listed b withheld from l (Err why) l
  list_refused why g = record { number = argument_says b withheld (leb 1 from) (1 ≤ from) (number why) from_says g; answer = tt; bytes = after_refused (number why) _ l (refused why) }

  pub list_done : (m : ℕ) (p : Places) (l' : List ℕ) → Gate (argument_tests b withheld (leb 1 from ≡ true)) 0 → p ≡ places_of b
      → m ≡ length (take (length l / 64) (passing (is_listed (view_of p b) from) p.indexes))
      → l' ≡ over l 0 (fronts (view_of p b) (take (length l / 64) (passing (is_listed (view_of p b) from) p.indexes))) → Listed b withheld from l (Ok m) l'
  unfolding listed
  list_done m p l' g h c f = record {
    number = argument_says b withheld (leb 1 from) (1 ≤ from) 0 from_says g;
    answer = rw h at c;
    bytes = rw h at f;
  }

-- ---- one result

pub listed_one : (b withheld : List ℕ) (from : ℕ) (entries : List ℕ) (r s : Result ℕ Refusal) (x y : List ℕ) → Listed b withheld from entries r x → Listed b withheld from entries s y → (r ≡ s) × (x ≡ y)
listed_one b withheld from entries r s x y h k =
    let e = gate_one _ (number_of r) (number_of s) h.number k.number in
    (answers_one r s _ _ h.answer k.answer (λ x y p q. p ∙ sym q) e, after_one (number_of r) (number_of s) x y _ entries e h.bytes k.bytes)
