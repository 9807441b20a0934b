-- Index tables: their bytes in the books, and what is decoded of them.
use mathlib.Core.Path.{◌≡◌, ap, ◌∙◌}
use Prim.Native.Nat.{ℕ, ◌+◌, ◌-◌, ◌*◌, ◌≤◌}
use native.Mathlib.Decide.{ℕ_discrete}
use native.Mathlib.Omega.{arith}
use borrow.Author.Tests.{eq-eqb, ne_eqb}
use mathlib.Core.List.{List}
use lib.ListN.{length, get_or, drop, length-drop}
use lib.Seq.{length-take-le}
use Rattle.field.specs.Numbers.{u16_at, u32_at}
use Rattle.tables.specs.declared.kinds.Index.{Index}
use Rattle.tables.specs.declared.places.Places.{Places}
use Rattle.tables.specs.declared.entry.Kind.{Kind}
use Rattle.tables.specs.declared.entry.Entry.{Entry}
use Rattle.tables.specs.Places.{Layout}
use Rattle.tables.specs.Indexes.{minus, table_at, word_of, parent_of, attribute_of, slots_of, base_of, file_of}
use Rattle.tables.specs.Entries.{kind_of, entry_of}

pub length_table : (p : Places) (b : List ℕ) (i : ℕ) → Layout p (length b) → 1 ≤ i → i ≤ p.indexes → length (table_at p b i) ≡ 128
unfolding table_at
length_table p b i l lo hi = length-take-le 128 (drop (p.indextable + 128 * (i - 1)) b) (omega (arith, length-drop (p.indextable + 128 * (i - 1)) b))

-- an entry is made of what its fields' readers answer
pub entry_is : (i : ℕ) (t : List ℕ) (parent : Index) (word attribute : ℕ) (kind : Kind) → word ≡ word_of t → parent.0 ≡ parent_of t → attribute ≡ attribute_of t
    → kind ≡ kind_of i word parent.0 attribute → ◌≡◌ {A = Entry} (record { kind = kind; attribute = attribute }) (entry_of i t)
unfolding entry_of
entry_is i t parent word attribute kind w p a k =
    let q : kind ≡ kind_of i (word_of t) (parent_of t) (attribute_of t) = k ∙ rw (w, p, a) in
    rw (q, a)

-- four bytes, by halves
pub halves : (t : List ℕ) (o low high : ℕ) → low ≡ u16_at t (o + 2) → high ≡ u16_at t o → low + high * 65536 ≡ u32_at t o
unfolding u16_at u32_at
halves t o low high l h = (let e : get_or t (o + 2 + 1) 0 ≡ get_or t (o + 3) 0 = ap (λ (n : ℕ). get_or t n 0) (let g : o + 2 + 1 ≡ o + 3 = omega arith in g) in omega arith)

-- ---- the places for pointers, by what the table begins with

module _ (i : ℕ) (t : List ℕ) where
  pub slots_free : word_of t ≡ 0 → slots_of i t ≡ 0
  unfolding slots_of
  slots_free e = rw (eq-eqb (word_of t) 0 e)

  pub slots_parent : (word_of t ≡ 0 → ⊥) → word_of t ≡ i → slots_of i t ≡ 10
  unfolding slots_of
  slots_parent ne e = rw (ne_eqb (word_of t) 0 ne, eq-eqb (word_of t) i e)

  pub slots_child : (word_of t ≡ 0 → ⊥) → (word_of t ≡ i → ⊥) → slots_of i t ≡ 17
  unfolding slots_of
  slots_child ne nq = rw (ne_eqb (word_of t) 0 ne, ne_eqb (word_of t) i nq)

  pub base_parent : word_of t ≡ i → base_of i t ≡ 64
  unfolding base_of
  base_parent e = rw (eq-eqb (word_of t) i e)

  pub base_child : (word_of t ≡ i → ⊥) → base_of i t ≡ 22
  unfolding base_of
  base_child nq = rw (ne_eqb (word_of t) i nq)

  -- the pointers begin after what a child has before them
  pub base_low : 22 ≤ base_of i t
  base_low = elim (ℕ_discrete (word_of t) i) [ yes e ↦ omega (arith, base_parent e) | no ne ↦ omega (arith, base_child ne) ]

  pub file_free : word_of t ≡ 0 → file_of i t ≡ 0
  unfolding file_of
  file_free e = rw (eq-eqb (word_of t) 0 e)

  pub file_parent : (word_of t ≡ 0 → ⊥) → word_of t ≡ i → file_of i t ≡ i
  unfolding file_of
  file_parent ne e = rw (ne_eqb (word_of t) 0 ne, eq-eqb (word_of t) i e)

  pub file_child : (word_of t ≡ 0 → ⊥) → (word_of t ≡ i → ⊥) → file_of i t ≡ parent_of t
  unfolding file_of
  file_child ne nq = rw (ne_eqb (word_of t) 0 ne, ne_eqb (word_of t) i nq)

  -- the pointers stand before the link
  pub slots_in : base_of i t + 6 * slots_of i t ≤ 124
  slots_in =
      elim (ℕ_discrete (word_of t) 0) [
        | yes e ↦ elim (ℕ_discrete (word_of t) i) [ yes q ↦ omega (arith, slots_free e, base_parent q) | no q ↦ omega (arith, slots_free e, base_child q) ]
        | no ne ↦ elim (ℕ_discrete (word_of t) i) [ yes q ↦ omega (arith, slots_parent ne q, base_parent q) | no q ↦ omega (arith, slots_child ne q, base_child q) ]
      ]

-- minus i, as the code makes it of an index
pub minus_is : (i : ℕ) → 1 ≤ i → i ≤ 4096 → 4294967295 - (i - 1) ≡ minus i
minus_is i lo hi = omega arith
