-- Active files, and the numbers that pass a test.
use mathlib.Core.Path.{◌≡◌, sym, ◌∙◌}
use mathlib.Core.Bool.{Bool, true, false, not, cond}
use mathlib.Core.List.{List, [], ◌∷◌, ◌++◌}
use Prim.Native.Nat.{ℕ, zero, suc, ◌+◌, ◌-◌, ◌%◌, ◌≤◌}
use native.Mathlib.Decide.{ℕ_discrete}
use native.Mathlib.Omega.{arith}
use borrow.Author.Tests.{eq-eqb, ne_eqb, not-true, not-false}
use lib.Dec.{eqb}
use Rattle.tables.specs.Indexes.{word_of, attribute_of, table_at, deleted_bit}
use Rattle.tables.specs.Rules.R9.{active_one}
use Rattle.tables.proofs.Sector1CountLaws.{only_eq, only_ne}
use Rattle.requests.specs.Active.{is_active, passing}
use Rattle.tables.specs.declared.entry.Entry.{Entry}
use Rattle.tables.specs.declared.places.Places.{Places}
use Rattle.tables.specs.Entries.{entry_of, is_parent}
use Rattle.tables.specs.Views.{view_of}
use Rattle.tables.proofs.KindLaws.{parent_word, not_parent, entry_attribute}

module _ (p : Places) (b : List ℕ) (i : ℕ) (e : Entry) (q : Bool) (is : e ≡ entry_of i (table_at p b i)) (ask : q ≡ is_parent e.kind) where
  active_where : word_of (table_at p b i) ≡ i → active_one i (table_at p b i) ≡ 1 - deleted_bit (attribute_of (table_at p b i))
  unfolding active_one
  active_where own = only_eq (word_of (table_at p b i)) i (1 - deleted_bit (attribute_of (table_at p b i))) own

  pub active_other : 1 ≤ i → not q ≡ true → false ≡ is_active (view_of p b) i
  unfolding is_active active_one
  active_other low n =
      sym (ne_eqb (active_one i (table_at p b i)) 1 (λ x.
      omega (arith, only_ne (word_of (table_at p b i)) i (1 - deleted_bit (attribute_of (table_at p b i))) (not_parent i (table_at p b i) e is low (sym ask ∙ not-true q n)))))

  pub active_says : not q ≡ false → eqb (e.attribute % 2) 0 ≡ is_active (view_of p b) i
  unfolding is_active
  active_says n =
      let o = active_where (parent_word i (table_at p b i) e is (sym ask ∙ not-false q n)) in
      let h = entry_attribute i (table_at p b i) e is in
      elim (ℕ_discrete (e.attribute % 2) 0) [
        | yes z ↦ eq-eqb (e.attribute % 2) 0 z ∙ sym (eq-eqb (active_one i (table_at p b i)) 1 (omega (arith, rw h at z)))
        | no nz ↦ ne_eqb (e.attribute % 2) 0 nz ∙ sym (ne_eqb (active_one i (table_at p b i)) 1 (λ x. nz (rw h (omega arith))))
      ]

-- the turn to the next number
pub passing_next : (test : ℕ → Bool) (i : ℕ) → 1 ≤ i → passing test (i + 1 - 1) ≡ passing test (i - 1) ++ cond (test i) (i ∷ []) []
unfolding passing
passing_next test zero l = absurd (omega arith)
passing_next test (suc m) l = let e : suc m + 1 - 1 ≡ suc m = omega arith in let f : suc m - 1 ≡ m = omega arith in rw (e, f)
