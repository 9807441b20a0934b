-- "Each table entry is free, a parent with its fixed or variable kind, or a child."
use Rattle.std.specs.Prelude.{Bool, true, false, cond, ℕ, List, eqb}
use Rattle.tables.specs.declared.entry.Size.{Size}
use Rattle.tables.specs.declared.entry.Size.TheVariants.{Fixed, Variable}
use Rattle.tables.specs.declared.entry.Kind.{Kind}
use Rattle.tables.specs.declared.entry.Kind.TheVariants.{Free, Parent, Child, Broken}
use Rattle.tables.specs.declared.entry.Entry.{Entry}
use Rattle.tables.specs.Indexes.{word_of, parent_of, attribute_of, variable_bit, minus}

-- attribute "weight 16 variable size"
unfoldable pub size_of : ℕ → Size
size_of a = cond (eqb (variable_bit a) 1) Variable Fixed

-- the kind of table i by its first word; a child with its parent, a parent by its attribute
unfoldable pub kind_of : ℕ → ℕ → ℕ → ℕ → Kind
unfolding size_of
kind_of i word parent attribute =
    cond (eqb word 0) Free (cond (eqb word i) (Parent (size_of attribute)) (cond (eqb word (minus i)) (Child (record { 0 = parent })) Broken))

unfoldable pub entry_of : ℕ → List ℕ → Entry
unfolding kind_of
entry_of i t = record { kind = kind_of i (word_of t) (parent_of t) (attribute_of t); attribute = attribute_of t }

-- ---- what is asked of a kind

-- a free table
abbrev pub is_free : Kind → Bool
is_free Free = true
is_free (Parent s) = false
is_free (Child i) = false
is_free Broken = false

-- a parent
abbrev pub is_parent : Kind → Bool
is_parent Free = false
is_parent (Parent s) = true
is_parent (Child i) = false
is_parent Broken = false

-- a parent of variable size
abbrev pub is_variable : Kind → Bool
is_variable Free = false
is_variable (Parent Fixed) = false
is_variable (Parent Variable) = true
is_variable (Child i) = false
is_variable Broken = false

-- a child
abbrev pub is_child : Kind → Bool
is_child Free = false
is_child (Parent s) = false
is_child (Child i) = true
is_child Broken = false
