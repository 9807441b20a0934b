-- A decoded table entry: what its kind says of the table's first word and attribute.
use mathlib.Core.Path.{◌≡◌, refl, sym, ap, ◌∙◌}
use mathlib.Core.Bool.{Bool, true, false}
use Prim.Native.Nat.{ℕ, ◌/◌, ◌%◌, ◌≤◌}
use native.Mathlib.Decide.{ℕ_discrete}
use native.Mathlib.Omega.{arith}
use borrow.Author.Tests.{eq-eqb, ne_eqb}
use mathlib.Core.List.{List}
use Rattle.field.proofs.Tests.{no_true}
use Rattle.tables.specs.declared.entry.Size.TheVariants.{Fixed, Variable}
use Rattle.tables.specs.declared.entry.Kind.TheVariants.{Parent, Child}
use Rattle.tables.specs.declared.entry.Entry.{Entry}
use Rattle.tables.specs.Indexes.{word_of, parent_of, attribute_of, minus}
use Rattle.tables.specs.Entries.{size_of, kind_of, entry_of, is_free, is_parent, is_variable, is_child}

pub not_both : (b : Bool) → b ≡ true → b ≡ false → ⊥
not_both b t f = no_true (sym t ∙ f)

module _ (i w q a : ℕ) where
  pub kind_own : 1 ≤ i → w ≡ i → kind_of i w q a ≡ Parent (size_of a)
  unfolding kind_of
  kind_own low e = rw (ne_eqb w 0 (λ z. omega arith), eq-eqb w i e)

  kind_minus : 1 ≤ i → i ≤ 4096 → w ≡ minus i → kind_of i w q a ≡ Child (record { 0 = q })
  unfolding kind_of
  kind_minus low high e = rw (ne_eqb w 0 (λ z. omega arith), ne_eqb w i (λ z. omega arith), eq-eqb w (minus i) e)

  -- a word that is not the table's number is no parent's
  kind_other : (w ≡ i → ⊥) → (is_parent (kind_of i w q a) ≡ false) × (is_variable (kind_of i w q a) ≡ false)
  unfolding kind_of
  kind_other ne =
      elim (ℕ_discrete w 0) [
        | yes z ↦ rw (eq-eqb w 0 z) (refl, refl)
        | no nz ↦ elim (ℕ_discrete w (minus i)) [
          | yes m ↦ rw (ne_eqb w 0 nz, ne_eqb w i ne, eq-eqb w (minus i) m) (refl, refl)
          | no nm ↦ rw (ne_eqb w 0 nz, ne_eqb w i ne, ne_eqb w (minus i) nm) (refl, refl)
        ]
      ]

pub size_variable : (a : ℕ) → a / 16 % 2 ≡ 1 → size_of a ≡ Variable
unfolding size_of
size_variable a e = rw (eq-eqb (a / 16 % 2) 1 e)

pub size_fixed : (a : ℕ) → (a / 16 % 2 ≡ 1 → ⊥) → size_of a ≡ Fixed
unfolding size_of
size_fixed a ne = rw (ne_eqb (a / 16 % 2) 1 ne)

module _ (i : ℕ) (t : List ℕ) (e : Entry) (is : e ≡ entry_of i t) where
  kind_is : e.kind ≡ kind_of i (word_of t) (parent_of t) (attribute_of t)
  unfolding entry_of
  kind_is = ap (λ (x : Entry). x.kind) is

  pub own_kind : 1 ≤ i → word_of t ≡ i → e.kind ≡ Parent (size_of (attribute_of t))
  own_kind low own = kind_is ∙ kind_own i (word_of t) (parent_of t) (attribute_of t) low own

  pub entry_attribute : e.attribute ≡ attribute_of t
  unfolding entry_of
  entry_attribute = ap (λ (x : Entry). x.attribute) is

  -- a free table begins with 0
  pub free_word : is_free e.kind ≡ true → word_of t ≡ 0
  unfolding kind_of
  free_word p = elim (ℕ_discrete (word_of t) 0) [ yes h ↦ h | no ne ↦ absurd (not_both _ p (ap is_free kind_is ∙ other ne)) ]
    where
      other : (word_of t ≡ 0 → ⊥) → is_free (kind_of i (word_of t) (parent_of t) (attribute_of t)) ≡ false
      other ne =
          elim (ℕ_discrete (word_of t) i) [
            | yes m ↦ rw (ne_eqb (word_of t) 0 ne, eq-eqb (word_of t) i m) refl
            | no nm ↦ elim (ℕ_discrete (word_of t) (minus i)) [
              | yes m ↦ rw (ne_eqb (word_of t) 0 ne, ne_eqb (word_of t) i nm, eq-eqb (word_of t) (minus i) m) refl
              | no n ↦ rw (ne_eqb (word_of t) 0 ne, ne_eqb (word_of t) i nm, ne_eqb (word_of t) (minus i) n) refl
            ]
          ]

  pub not_free : is_free e.kind ≡ false → word_of t ≡ 0 → ⊥
  unfolding kind_of
  not_free n z = not_both _ (ap is_free kind_is ∙ here) n
    where
      here : is_free (kind_of i (word_of t) (parent_of t) (attribute_of t)) ≡ true
      here = rw (eq-eqb (word_of t) 0 z) refl

  -- a parent begins with its number
  pub parent_word : is_parent e.kind ≡ true → word_of t ≡ i
  parent_word p = elim (ℕ_discrete (word_of t) i) [
    | yes h ↦ h
    | no ne ↦ absurd (not_both _ p (ap is_parent kind_is ∙ (kind_other i (word_of t) (parent_of t) (attribute_of t) ne).0))
  ]

  pub not_parent : 1 ≤ i → is_parent e.kind ≡ false → word_of t ≡ i → ⊥
  not_parent low n own = not_both _ (ap is_parent (own_kind low own)) n

  -- a parent of variable size has weight 16 too
  pub variable_word : is_variable e.kind ≡ true → word_of t ≡ i
  variable_word p = elim (ℕ_discrete (word_of t) i) [
    | yes h ↦ h
    | no ne ↦ absurd (not_both _ p (ap is_variable kind_is ∙ (kind_other i (word_of t) (parent_of t) (attribute_of t) ne).1))
  ]

  pub variable_bit_lem : 1 ≤ i → is_variable e.kind ≡ true → attribute_of t / 16 % 2 ≡ 1
  variable_bit_lem low p = elim (ℕ_discrete (attribute_of t / 16 % 2) 1) [
    | yes h ↦ h
    | no ne ↦ absurd (not_both _ p (ap is_variable (own_kind low (variable_word p) ∙ ap Parent (size_fixed (attribute_of t) ne))))
  ]

  pub not_variable : 1 ≤ i → is_variable e.kind ≡ false → word_of t ≡ i → attribute_of t / 16 % 2 ≡ 1 → ⊥
  not_variable low n own bit = not_both _ (ap is_variable (own_kind low own ∙ ap Parent (size_variable (attribute_of t) bit))) n

  -- a child begins with minus its number
  pub child_word : is_child e.kind ≡ true → word_of t ≡ minus i
  unfolding kind_of
  child_word p = elim (ℕ_discrete (word_of t) (minus i)) [ yes h ↦ h | no ne ↦ absurd (not_both _ p (ap is_child kind_is ∙ other ne)) ]
    where
      other : (word_of t ≡ minus i → ⊥) → is_child (kind_of i (word_of t) (parent_of t) (attribute_of t)) ≡ false
      other ne =
          elim (ℕ_discrete (word_of t) 0) [
            | yes z ↦ rw (eq-eqb (word_of t) 0 z) refl
            | no nz ↦ elim (ℕ_discrete (word_of t) i) [
              | yes m ↦ rw (ne_eqb (word_of t) 0 nz, eq-eqb (word_of t) i m) refl
              | no nm ↦ rw (ne_eqb (word_of t) 0 nz, ne_eqb (word_of t) i nm, ne_eqb (word_of t) (minus i) ne) refl
            ]
          ]

  pub not_child : 1 ≤ i → i ≤ 4096 → is_child e.kind ≡ false → word_of t ≡ minus i → ⊥
  not_child low high n w = not_both _ (ap is_child (kind_is ∙ kind_minus i (word_of t) (parent_of t) (attribute_of t) low high w)) n
