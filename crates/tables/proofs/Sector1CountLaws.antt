-- What an index table adds to sector 1's counts.
use mathlib.Core.Path.{◌≡◌, refl, ◌∙◌}
use mathlib.Core.Bool.{Bool, true, false}
use Prim.Native.Nat.{ℕ, ◌+◌, ◌-◌, ◌%◌, ◌≤◌}
use native.Mathlib.Nat.{le_refl}
use native.Mathlib.Omega.{arith}
use borrow.Author.Tests.{eq-eqb, ne_eqb}
use mathlib.Core.List.{List}
use lib.Dec.{eqb}
use Rattle.field.proofs.Sums.{sum_le}
use Rattle.tables.specs.Indexes.{word_of, attribute_of, directory_bit, system_bit, deleted_bit}
use Rattle.tables.specs.Views.{View, only_if, tally}
use Rattle.tables.specs.Rules.R9.{active_one, deleted_one, free_one, system_one, directory_one}

-- a value under a test
pub only_eq : (a b n : ℕ) → a ≡ b → only_if (eqb a b) n ≡ n
unfolding only_if
only_eq a b n e = rw (eq-eqb a b e)

pub only_ne : (a b n : ℕ) → (a ≡ b → ⊥) → only_if (eqb a b) n ≡ 0
unfolding only_if
only_ne a b n ne = rw (ne_eqb a b ne)

-- a value under a test is at most the value
pub only_le : (t : Bool) (n : ℕ) → only_if t n ≤ n
unfolding only_if
only_le true n = le_refl n
only_le false n = omega arith

-- ---- what a table adds

-- what index i, whose bytes are t, adds to the five counts
pub record Ones (i : ℕ) (t : List ℕ) (a d f s r : ℕ) : Type 0 where
  pub active : active_one i t ≡ a
  pub deleted : deleted_one i t ≡ d
  pub free : free_one i t ≡ f
  pub system : system_one i t ≡ s
  pub directory : directory_one i t ≡ r

module _ (i : ℕ) (t : List ℕ) where
  pub ones_other : (word_of t ≡ i → ⊥) → Ones i t 0 0 (free_one i t) 0 0
  unfolding active_one deleted_one free_one system_one directory_one
  ones_other ne =
      let a : only_if (eqb (word_of t) i) (1 - deleted_bit (attribute_of t)) ≡ 0 = only_ne _ _ _ ne in record {
        active = a;
        deleted = only_ne _ _ _ ne;
        free = refl;
        system = only_ne (active_one i t) 1 _ (λ x. omega arith);
        directory = only_ne (active_one i t) 1 _ (λ x. omega arith);
      }

  pub ones_deleted : (word_of t ≡ 0 → ⊥) → word_of t ≡ i → attribute_of t % 2 ≡ 1 → Ones i t 0 1 0 0 0
  unfolding active_one deleted_one free_one system_one directory_one
  ones_deleted nz e d =
      let a : only_if (eqb (word_of t) i) (1 - deleted_bit (attribute_of t)) ≡ 0 = only_eq _ _ _ e ∙ (let q : 1 - attribute_of t % 2 ≡ 0 = omega arith in q) in record {
        active = a;
        deleted = only_eq _ _ _ e ∙ d;
        free = only_ne _ _ _ nz;
        system = only_ne (active_one i t) 1 _ (λ x. omega arith);
        directory = only_ne (active_one i t) 1 _ (λ x. omega arith);
      }

  pub ones_active : (word_of t ≡ 0 → ⊥) → word_of t ≡ i → (attribute_of t % 2 ≡ 1 → ⊥) → Ones i t 1 0 0 (system_bit (attribute_of t)) (directory_bit (attribute_of t))
  unfolding active_one deleted_one free_one system_one directory_one
  ones_active nz e d =
      let z : attribute_of t % 2 ≡ 0 = omega arith in
      let a : only_if (eqb (word_of t) i) (1 - deleted_bit (attribute_of t)) ≡ 1 = only_eq _ _ _ e ∙ (let q : 1 - attribute_of t % 2 ≡ 1 = omega arith in q) in record {
        active = a;
        deleted = only_eq _ _ _ e ∙ z;
        free = only_ne _ _ _ nz;
        system = only_eq _ 1 _ a;
        directory = only_eq _ 1 _ a;
      }

  pub free_yes : word_of t ≡ 0 → free_one i t ≡ 1
  unfolding free_one
  free_yes e = only_eq _ _ _ e

  pub free_no : (word_of t ≡ 0 → ⊥) → free_one i t ≡ 0
  unfolding free_one
  free_no ne = only_ne _ _ _ ne

-- a table adds at most 1 to each count
module _ (i : ℕ) (t : List ℕ) where
  pub active_le : active_one i t ≤ 1
  unfolding active_one
  active_le = omega (arith, only_le (eqb (word_of t) i) (1 - deleted_bit (attribute_of t)))

  pub deleted_le : deleted_one i t ≤ 1
  unfolding deleted_one
  deleted_le = omega (arith, only_le (eqb (word_of t) i) (deleted_bit (attribute_of t)))

  pub free_le : free_one i t ≤ 1
  unfolding free_one
  free_le = only_le (eqb (word_of t) 0) 1

  pub system_le : system_one i t ≤ 1
  unfolding system_one
  system_le = omega (arith, only_le (eqb (active_one i t) 1) (system_bit (attribute_of t)))

  pub directory_le : directory_one i t ≤ 1
  unfolding directory_one
  directory_le = omega (arith, only_le (eqb (active_one i t) 1) (directory_bit (attribute_of t)))

-- so each count is at most the number of tables
pub tally_few : (v : View) (one : ℕ → List ℕ → ℕ) → ((i : ℕ) (t : List ℕ) → one i t ≤ 1) → tally v one ≤ v.indexes
unfolding tally
tally_few v one h = sum_le v.indexes (λ k. one (k + 1) (v.table (k + 1))) (λ k l. h (k + 1) (v.table (k + 1)))
