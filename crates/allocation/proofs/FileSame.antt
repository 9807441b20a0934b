-- R8 for a file whose tables stay, and whose sectors lie in zones of the types they had.
use mathlib.Core.Path.{◌≡◌, sym, ap, ◌∙◌}
use mathlib.Core.List.{List}
use Prim.Native.Nat.{ℕ}
use Rattle.tables.specs.Kinds.{zone_of}
use Rattle.tables.specs.Indexes.{start_of, file_of}
use Rattle.tables.specs.Views.{View, Under}
use Rattle.tables.specs.Rules.R8.{file_sectors, file_type, InType, File}

module _ (v v' : View) (types : (i j s : ℕ) → Under v i j s → (v'.zone (zone_of s)).ztype ≡ (v.zone (zone_of s)).ztype)
    (p : ℕ) (first : Under v p 0 (start_of p (v.table p) 0)) (same : v'.table p ≡ v.table p)
    (under : (i j s : ℕ) → file_of i (v'.table i) ≡ p → Under v' i j s → (file_of i (v.table i) ≡ p) × Under v i j s) where
  type_same : file_type v' p ≡ file_type v p
  unfolding file_type
  type_same = ap (λ (t : List ℕ). (v'.zone (zone_of (start_of p t 0))).ztype) same ∙ types p 0 _ first

  one_same : InType v p (file_type v p) → InType v' p (file_type v' p)
  one_same all i j s of u = let w = under i j s of u in types i j s w.1 ∙ all i j s w.0 w.1 ∙ sym type_same

  pub file_same : file_sectors v' p ≡ file_sectors v p → File v p (v.table p) → File v' p (v'.table p)
  file_same sectors o = rw same (record {
    name = o.name;
    least = o.least;
    most = rw sectors o.most;
    fixed = o.fixed;
    variable = λ e. one_same (o.variable e);
    weights = o.weights;
    both = o.both;
    created = o.created;
    changed = o.changed;
  })
