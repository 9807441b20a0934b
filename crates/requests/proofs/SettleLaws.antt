-- A file with weight 2 cleared and the date stored: the rules hold, and it is the file that it was.
use mathlib.Core.Path.{◌≡◌}
use mathlib.Core.List.{List}
use Prim.Native.Nat.{ℕ, ◌/◌, ◌%◌}
use native.Mathlib.Omega.{arith}
use Rattle.tables.specs.declared.places.Places.{Places}
use Rattle.tables.specs.Books.{GoodWith}
use Rattle.tables.specs.Dates.{Date}
use Rattle.tables.specs.Indexes.{table_at, length_of, attribute_of}
use Rattle.tables.specs.Places.{places_of}
use Rattle.tables.specs.Sector1.{flag_of}
use Rattle.tables.specs.Views.{view_of, Parent}
use Rattle.allocation.proofs.RestatedLaws.{Restated, restated_parent}
use Rattle.requests.specs.Named.{file_bytes}
use Rattle.requests.specs.Write.{settled, settle}
use Rattle.requests.proofs.StampLaws.{same_counted, put_stamped, put_restated, put_fields}
use Rattle.requests.proofs.StateKeeps.{steady_good}

settled_above : (a : ℕ) → settled a / 16 ≡ a / 16
unfolding settled
settled_above a = omega arith

settled_lowest : (a : ℕ) → settled a % 2 ≡ a % 2
unfolding settled
settled_lowest a = omega arith

-- in good books b', with `extra` set besides, file id is as in b but for its attribute and date
pub record Settled (extra : ℕ → ℕ) (b : List ℕ) (id : ℕ) (p : Places) (b' : List ℕ) : Type 0 where
  pub good : GoodWith extra b' p
  pub restated : Restated (view_of p b) (view_of p b') id
  pub parent : Parent (view_of p b') id
  pub flag : flag_of b' ≡ flag_of b
  pub long : length_of (table_at p b' id) ≡ length_of (table_at p b id)

settle_here : (b : List ℕ) (id : ℕ) (date : List ℕ) {extra : ℕ → ℕ} → GoodWith extra b (places_of b) → Parent (view_of (places_of b) b) id → Date date → Settled extra b id (places_of b) (settle b id date)
unfolding settle
settle_here b id date g parent valid =
    let p = places_of b in
    let a = attribute_of (file_bytes b id) in
    let restated = put_restated p b b id (settled a) date g.layout (same_counted b) parent.low parent.high valid.long in
    record {
      good = steady_good p b id date g parent valid (settled a) (settled_above a) (settled_lowest a);
      restated = restated;
      parent = restated_parent (view_of p b) _ id restated parent;
      flag = (put_stamped p b b id (settled a) date g.layout (same_counted b) parent.low parent.high valid.long).counts.flag;
      long = (put_fields p b b id (settled a) date g.layout (same_counted b) parent.low parent.high valid.long).long';
    }

pub settle_keeps : (b : List ℕ) (id : ℕ) (date : List ℕ) (p : Places) {extra : ℕ → ℕ} → GoodWith extra b p → Parent (view_of p b) id → Date date → Settled extra b id p (settle b id date)
settle_keeps b id date p g parent valid = rw g.places (settle_here b id date (rw g.places at g) (rw g.places at parent) valid)
