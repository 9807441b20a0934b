-- Names: a field's text and what follows it.
use mathlib.Core.Path.{◌≡◌}
use mathlib.Core.Bool.{Bool}
use Prim.Native.Nat.{ℕ, ◌+◌, ◌-◌}
use native.Mathlib.Decide.{dec_lt}
use native.Mathlib.Omega.{arith}
use mathlib.Core.List.{List}
use lib.ListN.{length}
use Rattle.field.specs.Says.{Says}
use Rattle.field.specs.Parts.{AllBytes}
use Rattle.field.proofs.Tests.{says_map}
use Rattle.tables.specs.Names.{Name, Text}

module _ (f : List ℕ) (n : ℕ) (full : length f ≡ 24) (t : Text f n) where
  -- a name's text ends at the field's first null
  name_long : (m : Name f) → m.long ≡ n
  name_long m =
      elim (dec_lt m.long n) [
        | yes l ↦ absurd (t.text m.long l (m.nulls m.long (omega (arith, t.within)) (omega arith)))
        | no h ↦ elim (dec_lt n m.long) [
          | yes l ↦ absurd (m.text n l (t.null (omega (arith, m.most))))
          | no g ↦ omega arith
        ]
      ]

  -- what follows the text decides
  pub name_says : (r : Bool) → (n ≡ 0 → ⊥) → Says r (AllBytes f n (24 - n) 0) → Says r (Name f)
  name_says r some = says_map r to from
    where
      to : AllBytes f n (24 - n) 0 → Name f
      to all = record {
        long = n;
        some = omega arith;
        most = omega (arith, t.within);
        text = t.text;
        nulls = λ k l h. (let e : n + (k - n) ≡ k = omega arith in rw e at (all (k - n) (omega arith)));
      }

      from : Name f → AllBytes f n (24 - n) 0
      from m k l = m.nulls (n + k) (omega arith) (omega (arith, name_long m))
