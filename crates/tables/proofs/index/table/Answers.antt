use Rattle.tables.proofs.IndexLaws.{length_table}
use native.Mathlib.Omega.{arith}
use Prim.Native.Nat.{◌+◌, ◌-◌, ◌*◌}
use mathlib.Core.Path.{◌≡◌, refl}
use Rattle.tables.specs.Indexes.{table_at}
use borrow.Author.Rules.{rules}
use Rattle.tables.proofs.index.table.Goals as goal

pub returns : goal.returns
unfolding table_at
returns c =
    let a = c.args in
    let e : a.b.now.places.indextable + 128 * (a.i.0 - 1) + 128 - (a.b.now.places.indextable + 128 * (a.i.0 - 1)) ≡ 128 = omega arith in
    rw e (refl, length_table a.b.now.places a.b.now.raw.now a.i.0 (search rules) (search rules) (search rules))
