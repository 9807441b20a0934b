-- Numbers 12 and 13: each way out, and what no number says.
use mathlib.Core.Path.{◌≡◌}
use mathlib.Core.Bool.{Bool, not, true, false}
use mathlib.Core.List.{List, []}
use Prim.Native.Nat.{ℕ, ◌≤◌, ◌<◌}
use native.Mathlib.Omega.{arith}
use lib.ListN.{length}
use Rattle.field.specs.Says.{Says}
use Rattle.field.proofs.Tests.{passed, refused}
use Rattle.tables.specs.declared.places.Places.{Places}
use Rattle.tables.specs.Sector1.{free_of}
use Rattle.tables.specs.Gates.{Gate}
use Rattle.tables.specs.Books.{GoodWith}
use Rattle.tables.specs.Room.{count_at, Supply, Enough}
use Rattle.tables.specs.Views.{view_of}
use Rattle.tables.proofs.GateLaws.{gate_fails, gate_passes, gate_end, gate_head}
use Rattle.tables.proofs.RoomLaws.{supply_enough, enough_supply}
use Rattle.allocation.specs.declared.tail.Tail.{Tail}
use Rattle.allocation.specs.Choice.{in_order}
use Rattle.allocation.specs.Plans.{tables_for}
use Rattle.allocation.specs.Stock.{Plannable}
use Rattle.allocation.proofs.FileLaws.{plannable_start}
use Rattle.allocation.specs.MadeFiles.{TablesEnough, ProvidedWith}
use Rattle.requests.specs.Create.{room_tests}

module _ (b : List ℕ) (p : Places) (l : Tail) (counts : List ℕ) {extra : ℕ → ℕ} (g : GoodWith extra b p) (r : Bool) (s : Says r (Enough (view_of p b) (count_at counts))) where
  pub room_fails : not r ≡ true → Gate (room_tests p b l counts) 12
  unfolding room_tests
  room_fails h = gate_fails 12 _ _ (omega arith) (λ u. refused r s h (supply_enough (view_of p b) g.lawful.r2 g.lawful.r3 (count_at counts) u))

  -- what the plan of its blocks asks
  pub room_plan : not r ≡ false → length counts ≡ 6 → l.last.count ≤ 32767 → l.tables ≤ 1 → Plannable p b l (in_order counts)
  room_plan h six = plannable_start p b counts g.layout g.lawful six (passed r s h) l

  module _ (h : not r ≡ false) (n f : ℕ) (is : n ≡ tables_for p b l (in_order counts)) (free : f ≡ free_of b) where
    supplied : Supply (view_of p b) (count_at counts)
    supplied = enough_supply (view_of p b) g.lawful.r2 g.lawful.r3 (count_at counts) (passed r s h)

    pub tables_fail : f < n → Gate (room_tests p b l counts) 13
    unfolding room_tests
    tables_fail lt = gate_passes 12 _ _ 13 supplied (gate_fails 13 _ [] (omega arith) (λ e. omega arith))

    pub tables_fit : n ≤ f → Gate (room_tests p b l counts) 0
    unfolding room_tests
    tables_fit le = gate_passes 12 _ _ 0 supplied (gate_passes 13 _ [] 0 (omega arith) gate_end)

-- where none of them applies there is all that the file takes
pub room_provides : (b : List ℕ) (p : Places) (l : Tail) (counts : List ℕ) (n : ℕ) {extra : ℕ → ℕ} → GoodWith extra b p → length counts ≡ 6 → Gate (room_tests p b l counts) n → n ≡ 0 → ProvidedWith extra p b l counts
unfolding room_tests
room_provides b p l counts n g six h e =
    let s = gate_head 12 (Supply (view_of p b) (count_at counts)) _ (rw e at h) in
    let t = gate_head 13 (TablesEnough p b l counts) [] s.1 in
    record {
      layout = g.layout;
      lawful = g.lawful;
      six = six;
      room = supply_enough (view_of p b) g.lawful.r2 g.lawful.r3 (count_at counts) s.0;
      tables = t.0;
    }
