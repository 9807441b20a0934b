-- Requests that name a file: each way out of numbers 8, 9 and 10, and what no number says.
use mathlib.Core.Path.{◌≡◌, sym, ap, ◌∙◌}
use mathlib.Core.Logic.{◌≢◌}
use mathlib.Core.Bool.{Bool, not, true, false}
use mathlib.Core.List.{List, [], ◌∷◌}
use Prim.Native.Nat.{ℕ, ◌%◌, ◌≤◌, ◌<◌}
use native.Mathlib.Omega.{arith}
use borrow.Author.Tests.{not-true, not-false}
use Rattle.field.specs.Says.{Says}
use Rattle.field.proofs.Tests.{passed, refused}
use Rattle.tables.specs.declared.entry.Entry.{Entry}
use Rattle.tables.specs.declared.places.Places.{Places}
use Rattle.tables.specs.Entries.{entry_of, is_parent, is_variable}
use Rattle.tables.specs.Indexes.{table_at, word_of, attribute_of, deleted_bit}
use Rattle.tables.specs.Places.{places_of}
use Rattle.tables.specs.Gates.{asks, Gate}
use Rattle.tables.specs.Books.{GoodSome, GoodWith}
use Rattle.tables.specs.Views.{view_of, Parent}
use Rattle.tables.proofs.GateLaws.{gate_fails, gate_passes, gate_end, gate_stop, gate_skip, gate_head, gate_front, gate_swap}
use Rattle.requests.specs.Answers.{use_tests, argument_tests}
use Rattle.requests.specs.Named.{file_bytes, state_tests, named_tests, Unprotected, asked_tests, usable_tests, VariableSize}
use Rattle.requests.proofs.ArgumentLaws.{says_this, this_says}
use Rattle.tables.proofs.KindLaws.{parent_word, not_parent, variable_bit_lem, not_variable, entry_attribute}

-- ---- 8 and 9

module _ (b : List ℕ) (p : Places) (id : ℕ) {extra : ℕ → ℕ} (g : GoodWith extra b p) where
  -- what the code reads: the file's table, by its bytes or decoded
  places_read : table_at p b id ≡ file_bytes b id
  places_read = ap (λ (q : Places). table_at q b id) g.places

  pub entry_read : (e : Entry) → e ≡ entry_of id (table_at p b id) → e ≡ entry_of id (file_bytes b id)
  entry_read e is = is ∙ ap (entry_of id) places_read

  module _ (d : ℕ) where
    pub state_low : id < 1 → Gate (state_tests d b id) 8
    unfolding state_tests
    state_low h = gate_fails 8 _ _ (omega arith) (λ f. omega (arith, f.low))

    pub state_high : p.indexes < id → Gate (state_tests d b id) 8
    unfolding state_tests
    state_high h = gate_fails 8 _ _ (omega arith) (λ f. omega (arith, f.high, ap (λ (q : Places). q.indexes) g.places))

    module _ (e : Entry) (q : Bool) (is : e ≡ entry_of id (table_at p b id)) (ask : q ≡ is_parent e.kind) where
      pub state_other : not q ≡ true → Gate (state_tests d b id) 8
      unfolding state_tests
      state_other n = gate_fails 8 _ _ (omega arith) (λ f. not_parent id (file_bytes b id) e (entry_read e is) f.low (sym ask ∙ not-true q n) f.word)

      pub state_parent : not q ≡ false → 1 ≤ id → id ≤ p.indexes → (r : ℕ) → Gate (asks 9 (deleted_bit e.attribute ≡ d) ∷ []) r → Gate (state_tests d b id) r
      unfolding state_tests
      state_parent n low high r h =
          let f : Parent (view_of (places_of b) b) id = record { low = low; high = rw g.places at high; word = parent_word id (file_bytes b id) e (entry_read e is) (sym ask ∙ not-false q n) } in
          gate_passes 8 _ _ r f (rw (entry_attribute id (file_bytes b id) e (entry_read e is)) at h)

    pub state_fine : Parent (view_of p b) id → deleted_bit (attribute_of (table_at p b id)) ≡ d → Gate (state_tests d b id) 0
    unfolding state_tests
    state_fine f mark = gate_passes 8 _ _ 0 (rw g.places at f) (gate_passes 9 _ [] 0 (rw g.places at mark) gate_end)

-- 9: the mark that is needed
module _ (a d x : ℕ) (is : x ≡ d) where
  pub mark_other : a % 2 ≢ x → Gate (asks 9 (deleted_bit a ≡ d) ∷ []) 9
  mark_other ne = gate_fails 9 _ [] (omega arith) (λ e. ne (e ∙ sym is))

  pub mark_fine : a % 2 ≡ x → Gate (asks 9 (deleted_bit a ≡ d) ∷ []) 0
  mark_fine e = gate_passes 9 _ [] 0 (e ∙ is) gate_end

module _ (b : List ℕ) (id : ℕ) where
  -- a file, active or deleted
  pub state_file : (d : ℕ) → Gate (state_tests d b id) 0 → Parent (view_of (places_of b) b) id × (deleted_bit (attribute_of (file_bytes b id)) ≡ d)
  unfolding state_tests
  state_file d h = let s = gate_head 8 (Parent (view_of (places_of b) b) id) _ h in (s.0, (gate_head 9 _ [] s.1).0)

  module _ (p : Places) (n : ℕ) {extra : ℕ → ℕ} (g : GoodWith extra b p) (h : Gate (named_tests b id) n) (e : n ≡ 0) where
    pub named_parent : Parent (view_of p b) id
    named_parent = rw g.places (state_file 0 (rw e at h)).0

-- ---- 1 to 5, 7, 8 and 9

module _ (d : ℕ) (b withheld : List ℕ) (id : ℕ) where
  module _ (P : Type 0) (n : ℕ) (g : Gate (argument_tests b withheld P) n) where
    pub asked_stops : n ≢ 0 → Gate (asked_tests d b withheld P id) n
    asked_stops ne = gate_stop (argument_tests b withheld P) _ n g ne

    pub asked_goes : (r : ℕ) → n ≡ 0 → Gate (state_tests d b id) r → Gate (asked_tests d b withheld P id) r
    asked_goes r e h = gate_skip (argument_tests b withheld P) _ n r g e h

  -- the answer of a test of P
  pub asked_says : (a : Bool) (P : Type 0) (n : ℕ) → Says a P → Gate (asked_tests d b withheld (a ≡ true) id) n → Gate (asked_tests d b withheld P id) n
  unfolding argument_tests use_tests
  asked_says a P n s g = gate_swap (use_tests b withheld) (state_tests d b id) 7 (a ≡ true) P n (λ e. says_this a P s e) (λ p. this_says a P s p) g

-- ---- a file's weights

module _ (b : List ℕ) (p : Places) (id : ℕ) {extra : ℕ → ℕ} (g : GoodWith extra b p) (parent : Parent (view_of p b) id) (e : Entry) (is : e ≡ entry_of id (table_at p b id)) where
  own : word_of (file_bytes b id) ≡ id
  own = rw (← g.places) parent.word

  pub variable_says : (r : Bool) → r ≡ is_variable e.kind → Says r (VariableSize b id)
  variable_says true is-so = variable_bit_lem id (file_bytes b id) e (entry_read b p id g e is) parent.low (sym is-so)
  variable_says false is-so = not_variable id (file_bytes b id) e (entry_read b p id g e is) parent.low (sym is-so) own

-- ---- 8, 9 and 10

module _ (w : ℕ) (b : List ℕ) (id : ℕ) where
  module _ (n : ℕ) (h : Gate (named_tests b id) n) where
    pub usable_unnamed : n ≢ 0 → Gate (usable_tests w b id) n
    unfolding usable_tests
    usable_unnamed ne = gate_stop (named_tests b id) _ n h ne

    module _ (e : n ≡ 0) where
      -- what testing its weight asks
      pub usable_file : (p : Places) {extra : ℕ → ℕ} → GoodWith extra b p → Parent (view_of p b) id
      usable_file p g = named_parent b id p n g h e

      pub usable_fine : Unprotected w b id → Gate (usable_tests w b id) 0
      unfolding usable_tests
      usable_fine z = gate_skip (named_tests b id) _ n 0 h e (gate_passes 10 _ [] 0 z gate_end)

      module _ (r : Bool) (s : Says r (Unprotected w b id)) where
        pub usable_protected : not r ≡ true → Gate (usable_tests w b id) 10
        unfolding usable_tests
        usable_protected no' = gate_skip (named_tests b id) _ n 10 h e (gate_fails 10 _ [] (omega arith) (refused r s no'))

        pub usable_free : not r ≡ false → Gate (usable_tests w b id) 0
        usable_free yes' = usable_fine (passed r s yes')

  module _ (h : Gate (usable_tests w b id) 0) where
    pub usable_active : Parent (view_of (places_of b) b) id × (deleted_bit (attribute_of (file_bytes b id)) ≡ 0)
    unfolding usable_tests
    usable_active = state_file b id 0 (gate_front (named_tests b id) _ h)

  module _ (p : Places) (n : ℕ) (g : GoodSome b p) (h : Gate (usable_tests w b id) n) (e : n ≡ 0) where
    pub usable_parent : Parent (view_of p b) id
    usable_parent = rw g.1.places (usable_active (rw e at h)).0
