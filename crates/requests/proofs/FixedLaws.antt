-- The arguments of create fixed and of create variable, and how both end.
use Rattle.std.specs.Option.{unwrap_or}
use Rattle.tables.specs.declared.kinds.Index.{Index}
use Rattle.std.specs.Prelude.{Option, Some, None, Result, IsSome}
use mathlib.Core.Path.{◌≡◌, refl, sym, ap, ◌∙◌}
use mathlib.Core.Logic.{◌≢◌}
use mathlib.Core.Bool.{Bool, true, false}
use mathlib.Core.List.{List, []}
use Prim.Native.Nat.{ℕ, ◌+◌, ◌*◌, ◌≤◌, ◌<◌}
use native.Mathlib.Omega.{arith}
use lib.Dec.{eqb}
use borrow.Author.Tests.{eq-eqb, ne_eqb}
use Rattle.field.specs.Says.{Says}
use Rattle.tables.specs.Blocks.{DataType, block_of}
use Rattle.tables.specs.Counts.{block_bytes}
use Rattle.tables.specs.Gates.{Gate}
use Rattle.allocation.specs.MadeFiles.{only_counts}
use Rattle.allocation.proofs.FindLaws.{search_hit, search_more, search_end}
use Rattle.requests.specs.Amounts.{amount_value}
use Rattle.requests.specs.Create.{NewFile, attribute_for, Creates, FixedAllowed, counts_for, CreatedFixed, cell_type, VariableAllowed, CreatedVariable, HasCounts}
use Rattle.requests.specs.Answers.{argument_tests}
use Rattle.requests.proofs.CreateLaws.{create_ends}
use Rattle.requests.proofs.ArgumentLaws.{argument_says, argument_allowed}
use Rattle.tables.specs.declared.refusal.Refusal.{Refusal}

-- ---- types and size

module _ (b withheld name : List ℕ) (size : Option ℕ) (types : Option ℕ) (kind : ℕ) (date : List ℕ) (a : Bool) (s : Says a (FixedAllowed name size types kind date)) (g : Gate (argument_tests b withheld (a ≡ true)) 0) where
  fixed_allowed : FixedAllowed name size types kind date
  fixed_allowed = argument_allowed b withheld _ 0 (argument_says b withheld a _ 0 s g) refl

  pub fixed_counted : HasCounts types size
  fixed_counted = fixed_allowed.counted

  pub fixed_new : NewFile name kind date
  fixed_new = fixed_allowed.file

  pub fixed_ends : (c : List ℕ) (x : ℕ) (r : Result Index Refusal) (b' : List ℕ) → c ≡ counts_for types size → x ≡ amount_value size
      → Creates [] b c (record { name = name; date = date; length = x; attribute = attribute_for 0 kind }) r b' → CreatedFixed b withheld name size types kind date r b'
  fixed_ends c x r b' are is m = create_ends b withheld _ _ _ a s r b' g (rw (are, is) at m)

-- ---- the cell

module _ (n : ℕ) where
  -- type t has blocks of n bytes
  abbrev pub cells : ℕ → Bool
  cells t = eqb (block_bytes t) n

  -- none of the types from C on below t has
  abbrev pub NoneTo : ℕ → Type 0
  NoneTo t = (j : ℕ) → j < t → 3 ≤ j → cells j ≡ false

  bytes_of : (t m : ℕ) → m ≡ block_of t → 1024 * m ≡ block_bytes t
  unfolding block_bytes
  bytes_of t m e = ap (λ (x : ℕ). 1024 * x) e

  module _ (t : ℕ) (low : 3 ≤ t) (none : NoneTo t) where
    pub cell_hit : (m : ℕ) → t < 9 → m ≡ block_of t → 1024 * m ≡ n → t ≡ cell_type (Some n)
    unfolding cell_type
    cell_hit m l is e = search_hit cells 3 9 t low (omega arith) none l (eq-eqb _ _ (sym (bytes_of t m is) ∙ e))

    pub cell_more : (m : ℕ) → t < 9 → m ≡ block_of t → 1024 * m ≢ n → NoneTo (t + 1)
    cell_more m l is ne = search_more cells 3 9 t low (omega arith) none (ne_eqb _ _ (λ e. ne (bytes_of t m is ∙ e)))

    pub cell_end : t ≤ 9 → 9 ≤ t → 9 ≡ cell_type (Some n)
    unfolding cell_type
    cell_end h l = let e : 9 ≡ t = omega arith in e ∙ search_end cells 3 9 t low h none l

pub cell_below : (cell : Option ℕ) → cell ≡ None → 9 ≡ cell_type cell
unfolding cell_type
cell_below cell e = rw e refl

pub cell_is : (cell t : Option ℕ) (n : ℕ) → t ≡ Some n → unwrap_or t 9 ≡ cell_type cell → n ≡ cell_type cell
cell_is cell t n e h = rw e at h

module _ (b withheld name : List ℕ) (cell : Option ℕ) (kind : ℕ) (date : List ℕ) (a : Bool) (s : Says a (VariableAllowed name cell kind date)) (g : Gate (argument_tests b withheld (a ≡ true)) 0) where
  variable_allowed : VariableAllowed name cell kind date
  variable_allowed = argument_allowed b withheld _ 0 (argument_says b withheld a _ 0 s g) refl

  pub variable_typed : (t : ℕ) → t ≡ cell_type cell → DataType t
  variable_typed t is = rw is variable_allowed.cell'

  pub cell_some : (t : Option ℕ) → unwrap_or t 9 ≡ cell_type cell → IsSome t
  cell_some (Some t) e = refl
  cell_some None e = absurd (omega (arith, (variable_typed 9 e).high))

  pub variable_new : NewFile name kind date
  variable_new = variable_allowed.file

  pub variable_ends : (c : List ℕ) (t : ℕ) (r : Result Index Refusal) (b' : List ℕ) → c ≡ only_counts t 1 → t ≡ cell_type cell
      → Creates [] b c (record { name = name; date = date; length = 0; attribute = attribute_for 1 kind }) r b' → CreatedVariable b withheld name cell kind date r b'
  variable_ends c t r b' are is m = create_ends b withheld _ _ _ a s r b' g (rw (are, is) at m)
