-- Search: which files match, the list made index by index, each way out, and that its promise allows one result.
use Rattle.std.specs.Prelude.{Result, Ok, Err}
use mathlib.Core.Path.{◌≡◌, refl, sym, ap, ap₂, ◌∙◌}
use mathlib.Core.Logic.{◌⊎◌, inl, inr, ⊎_elim, ◌↔◌}
use mathlib.Core.Bool.{Bool, true, false, not, cond}
use mathlib.Core.List.{List, [], ◌∷◌, ◌++◌, append-nil}
use Prim.Native.Nat.{ℕ, zero, suc, ◌+◌, ◌-◌, ◌≤◌, ◌<◌}
use native.Mathlib.Decide.{dec_lt}
use native.Mathlib.Omega.{arith}
use native.Mathlib.Numerals.{add-one}
use borrow.Author.Tests.{eq-eqb, ne_eqb, not-true, not-false}
use lib.ListN.{length, get_or, take, drop, set, length-append, length-set, get_or-append}
use lib.Seq.{length-take-le, take-nil, take_all, take-append-le, drop-cons, append_snoc, set_at, set_out, get_or_at}
use Rattle.field.specs.Says.{Says}
use Rattle.field.specs.Parts.{over}
use Rattle.field.proofs.PartLaws.{length_over}
use Rattle.patterns.specs.Pattern.{matches}
use Rattle.tables.specs.declared.places.Places.{Places}
use Rattle.tables.specs.Gates.{Gate}
use Rattle.tables.specs.Indexes.{name_of}
use Rattle.tables.specs.Names.{Text}
use Rattle.tables.specs.Places.{places_of, Layout}
use Rattle.tables.specs.Views.{View, view_of}
use Rattle.tables.proofs.GateLaws.{gate_one}
use Rattle.requests.specs.Answers.{argument_tests}
use Rattle.requests.specs.Search.{is_match, found, PatternAllowed, filled_with, Searched, before_null}
use Rattle.requests.specs.Active.{is_active, passing}
use Rattle.requests.proofs.RequestLaws.{after_one, after_refused}
use Rattle.requests.proofs.ActiveLaws.{passing_next}
use Rattle.requests.proofs.ArgumentLaws.{argument_says, argued_good}
use Rattle.tables.specs.Refusals.{number_of}
use Rattle.tables.specs.declared.refusal.Refusal.{Refusal}
use Rattle.tables.specs.Refusals.{number}
use Rattle.tables.proofs.RefusalLaws.{refused, answers_one}

-- ---- the pattern, and a name's text

pub text_is : (f : List ℕ) (n : ℕ) → Text f n → take n f ≡ before_null f
unfolding before_null
text_is [] n t = take-nil n
text_is (c ∷ s) zero t = rw (eq-eqb c 0 (t.null (omega arith)))
text_is (c ∷ s) (suc n) t =
    rw (ne_eqb c 0 (t.text 0 (omega arith))) (ap (λ (x : List ℕ). c ∷ x) (text_is s n (record {
      within = omega (arith, t.within);
      text = λ k l. t.text (suc k) (omega arith);
      null = λ l. t.null (omega arith);
    })))

pub text_says : (t f pattern : List ℕ) (n : ℕ) (q : Bool) → f ≡ name_of t → Text f n → q ≡ matches pattern (take n f) → q ≡ matches pattern (before_null (name_of t))
text_says t f pattern n q e h k = k ∙ ap (matches pattern) (text_is f n h ∙ ap before_null e)

-- ---- one index

module _ (v : View) (i : ℕ) (t : List ℕ) (at : t ≡ v.table i) where
  pub match_says : (pattern : List ℕ) (r q : Bool) → r ≡ is_active v i → not r ≡ false → q ≡ matches pattern (before_null (name_of t)) → q ≡ is_match v pattern i
  unfolding is_match
  match_says pattern r q e h k = k ∙ rw (at, ← e, not-false r h)

pub match_not : (v : View) (i : ℕ) (pattern : List ℕ) (r : Bool) → r ≡ is_active v i → not r ≡ true → false ≡ is_match v pattern i
unfolding is_match
match_not v i pattern r e h = rw (← e, not-true r h)

-- ---- the lent list

-- a part laid at the front
pub over_front : (l xs : List ℕ) → over l 0 xs ≡ xs ++ drop (length xs) l
unfolding over
over_front l xs = ap (λ (n : ℕ). xs ++ drop n l) (let e : 0 + length xs ≡ length xs = omega arith in e)

-- one more at the end of a lent list that is filled, where it has room for it and where it has not
filled_more : (l xs : List ℕ) (i : ℕ) → set (filled_with l xs) (length xs) i ≡ filled_with l (xs ++ (i ∷ []))
filled_more l xs i = elim (dec_lt (length xs) (length l)) [
  | yes h ↦ (let e : length (xs ++ (i ∷ [])) ≡ suc (length xs) = length-append xs (i ∷ []) ∙ add-one (length xs) in
      ap (λ (x : List ℕ). set (over l 0 x) (length xs) i) (take_all (length l) xs (omega arith))
      ∙ ap (λ (x : List ℕ). set x (length xs) i) (over_front l xs ∙ ap (λ (x : List ℕ). xs ++ x) (drop-cons l (length xs) 0 h))
      ∙ set_at xs (get_or l (length xs) 0) (drop (suc (length xs)) l) i (length xs) refl
      ∙ sym (append_snoc xs i (drop (suc (length xs)) l))
      ∙ sym (ap (over l 0) (take_all (length l) (xs ++ (i ∷ [])) (omega (arith, e))) ∙ over_front l (xs ++ (i ∷ [])) ∙ ap (λ (n : ℕ). xs ++ (i ∷ []) ++ drop n l) e))
  | no h ↦ (let e : length (take (length l) xs) ≡ length l = length-take-le (length l) xs (omega arith) in
      set_out (filled_with l xs) (length xs) i (omega (arith, length_over l 0 (take (length l) xs) (omega (arith, e))))
      ∙ sym (ap (over l 0) (take-append-le (length l) xs (i ∷ []) (omega arith))))
]

-- ---- the list before index i: n ids below it

pub record Sought (test : ℕ → Bool) (l : List ℕ) (i n : ℕ) (ids : List ℕ) : Type 0 where
  pub low : 1 ≤ i
  pub few : n < i
  pub count : n ≡ length (passing test (i - 1))
  pub list : ids ≡ filled_with l (passing test (i - 1))
  pub long : length ids ≡ length l

module _ (test : ℕ → Bool) (l : List ℕ) where
  pub sought_none : Sought test l 1 0 l
  unfolding passing
  sought_none = record { low = omega arith; few = omega arith; count = refl; list = sym (ap (over l 0) (take-nil (length l)) ∙ over_front l []); long = refl }

  module _ (i n r : ℕ) (ids ids' : List ℕ) where
    pub sought_more : Sought test l i n ids → r ≡ cond (test i) (n + 1) n → ids' ≡ cond (test i) (set ids n i) ids → Sought test l (i + 1) r ids'
    sought_more h e f = go (test i) e f (passing_next test i h.low)
      where
        go : (t : Bool) → r ≡ cond t (n + 1) n → ids' ≡ cond t (set ids n i) ids → passing test (i + 1 - 1) ≡ passing test (i - 1) ++ cond t (i ∷ []) [] → Sought test l (i + 1) r ids'
        go true e f q = record {
          low = omega arith;
          few = omega (arith, h.few);
          count = rw q (omega (arith, h.count, length-append (passing test (i - 1)) (i ∷ [])));
          list = rw q (f ∙ ap₂ (λ (x : List ℕ) (k : ℕ). set x k i) h.list h.count ∙ filled_more l (passing test (i - 1)) i);
          long = rw f (length-set ids n i ∙ h.long);
        }
        go false e f q = record {
          low = omega arith;
          few = omega (arith, h.few);
          count = rw (q, append-nil (passing test (i - 1))) (e ∙ h.count);
          list = rw (q, append-nil (passing test (i - 1))) (f ∙ h.list);
          long = rw f h.long;
        }

-- ---- for readers: what the list of the numbers that pass is

-- i stands in the list
abbrev pub Stands : List ℕ → ℕ → Type 0
Stands l i = (k : ℕ) × (k < length l) × (get_or l k 0 ≡ i)

-- a place after xs is the last one
last_place : (xs : List ℕ) (t : Bool) (m k : ℕ) → k < length (xs ++ cond t (m ∷ []) []) → (k < length xs) ⊎ ((k ≡ length xs) × (t ≡ true) × (get_or (xs ++ cond t (m ∷ []) []) k 0 ≡ m))
last_place xs true m k l = elim (dec_lt k (length xs)) [
  | yes h ↦ inl h
  | no h ↦ (let e : k ≡ length xs = omega (arith, length-append xs (m ∷ [])) in inr (e, refl, get_or_at xs m [] 0 k (sym e)))
]
last_place xs false m k l = inl (rw (append-nil xs) at l)

passing_is : (test : ℕ → Bool) (n i : ℕ) → Stands (passing test n) i → (1 ≤ i) × (i ≤ n) × (test i ≡ true)
unfolding passing
passing_is test zero i w = absurd (let q = w.1 in omega arith)
passing_is test (suc n) i w = ⊎_elim
    (λ l. let o = passing_is test n i (w.0, l, sym (get_or-append (passing test n) _ 0 w.0 l) ∙ w.2) in (o.0, omega (arith, o.1), o.2))
    (λ h. let e : suc n ≡ i = sym h.2 ∙ w.2 in (omega arith, omega arith, rw e at h.1))
    (last_place (passing test n) (test (suc n)) (suc n) w.0 w.1)

passing_at : (test : ℕ → Bool) (n i : ℕ) → 1 ≤ i → i ≤ n → test i ≡ true → Stands (passing test n) i
unfolding passing
passing_at test zero i lo hi p = absurd (omega arith)
passing_at test (suc n) i lo hi p = elim (dec_lt n i) [
  | yes h ↦ (let e : i ≡ suc n = omega arith in
      rw (← e, p) (length (passing test n), omega (arith, length-append (passing test n) (i ∷ [])), get_or_at (passing test n) i [] 0 (length (passing test n)) refl))
  | no h ↦ (let w = passing_at test n i lo (omega arith) p in
      (w.0, omega (arith, w.1, length-append (passing test n) (cond (test (suc n)) (suc n ∷ []) [])), get_or-append (passing test n) _ 0 w.0 w.1 ∙ w.2))
]

-- a number stands in it exactly when it is one of the n and passes
pub passing_in : (test : ℕ → Bool) (n i : ℕ) → Stands (passing test n) i ↔ ((1 ≤ i) × (i ≤ n) × (test i ≡ true))
passing_in test n i = (passing_is test n i, λ h. passing_at test n i h.0 h.1 h.2)

-- it ascends
pub passing_up : (test : ℕ → Bool) (n k l : ℕ) → k < l → l < length (passing test n) → get_or (passing test n) k 0 < get_or (passing test n) l 0
unfolding passing
passing_up test zero k l lt h = absurd (omega arith)
passing_up test (suc n) k l lt h = ⊎_elim
    (λ g. rw (get_or-append (passing test n) (cond (test (suc n)) (suc n ∷ []) []) 0 k (omega arith), get_or-append (passing test n) (cond (test (suc n)) (suc n ∷ []) []) 0 l g) (passing_up test n k l lt g))
    (λ g. let m : k < length (passing test n) = omega (arith, g.0) in
    rw (get_or-append (passing test n) (cond (test (suc n)) (suc n ∷ []) []) 0 k m, g.2) (omega (arith, (passing_is test n (get_or (passing test n) k 0) (k, m, refl)).1)))
    (last_place (passing test n) (test (suc n)) (suc n) l h)

-- ---- the request

pub argument_layout : (b withheld : List ℕ) (p : Places) (P : Type 0) (n : ℕ) → Gate (argument_tests b withheld P) n → n ≡ 0 → p ≡ places_of b → Layout p (length b)
argument_layout b withheld p P n g e h = (argued_good b withheld P n p g e h).1.layout

module _ (b withheld pattern ids : List ℕ) (a : Bool) (s : Says a (PatternAllowed pattern)) where
  pub search_refused : (why : Refusal) → Gate (argument_tests b withheld (a ≡ true)) (number why) → Searched b withheld pattern ids (Err why) ids
  search_refused why g = record { number = argument_says b withheld a (PatternAllowed pattern) (number why) s g; answer = tt; list = after_refused (number why) _ ids (refused why) }

  pub search_done : (m : ℕ) (p : Places) (ids' : List ℕ) → Gate (argument_tests b withheld (a ≡ true)) 0 → p ≡ places_of b → m ≡ length (passing (is_match (view_of p b) pattern) p.indexes)
      → ids' ≡ filled_with ids (passing (is_match (view_of p b) pattern) p.indexes) → Searched b withheld pattern ids (Ok m) ids'
  unfolding found
  search_done m p ids' g h c f = record {
    number = argument_says b withheld a (PatternAllowed pattern) 0 s g;
    answer = rw h at c;
    list = rw h at f;
  }

-- ---- one result

pub searched_one : (b withheld pattern ids : List ℕ) (r s : Result ℕ Refusal) (x y : List ℕ) → Searched b withheld pattern ids r x → Searched b withheld pattern ids s y → (r ≡ s) × (x ≡ y)
searched_one b withheld pattern ids r s x y h k =
    let e = gate_one _ (number_of r) (number_of s) h.number k.number in
    (answers_one r s _ _ h.answer k.answer (λ x y p q. p ∙ sym q) e, after_one (number_of r) (number_of s) x y _ ids e h.list k.list)
