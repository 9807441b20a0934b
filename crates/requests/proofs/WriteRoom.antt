-- A file for which there is room stays below 2,147,483,648 bytes.
use mathlib.Core.Path.{◌≡◌, refl, ◌∙◌}
use mathlib.Core.Bool.{Bool}
use mathlib.Core.List.{List}
use Prim.Native.Nat.{ℕ, zero, suc, ◌+◌, ◌-◌, ◌*◌, ◌≤◌, ◌<◌}
use native.Mathlib.Nat.{add-mul, mul-le-mul_right, div-mul-le_self}
use native.Mathlib.Omega.{arith}
use lib.Dec.{eqb}
use Rattle.field.specs.Sum.{sum_to}
use Rattle.field.proofs.Sums.{sum_le}
use Rattle.tables.specs.Blocks.{block_of, per_zone}
use Rattle.tables.specs.Books.{GoodWith}
use Rattle.tables.specs.Gates.{Gate}
use Rattle.tables.specs.Indexes.{length_of}
use Rattle.tables.specs.Places.{places_of}
use Rattle.tables.specs.Room.{count_at, type_in, taken_of, Supply}
use Rattle.tables.specs.Rules.R8.{file_type}
use Rattle.tables.specs.Views.{View, view_of, Parent, only_if}
use Rattle.tables.proofs.Sector1CountLaws.{only_eq, only_le}
use Rattle.tables.proofs.GateLaws.{gate_head}
use Rattle.allocation.specs.MadeFiles.{blocks_for}
use Rattle.allocation.proofs.FileLaws.{count_only}
use Rattle.allocation.proofs.GrownLawful.{lawful_typed, blocks_enough}
use Rattle.files.proofs.SectorPlaceLaws.{sectors_most}
use Rattle.requests.specs.Grow.{grow_counts, lack_tests}
use Rattle.requests.specs.Named.{file_bytes}

sum_times : (n s : ℕ) (f : ℕ → ℕ) → ((k : ℕ) → k < n → f k * s ≤ 1024) → sum_to n f * s ≤ 1024 * n
unfolding sum_to
sum_times zero s f h = omega arith
sum_times (suc n) s f h = omega (arith, add-mul (sum_to n f) (f n) s, sum_times n s f (λ k l. h k (omega arith)), h n (omega arith))

-- the taken blocks of a type are of no more sectors than there are between the system zones
taken_few : (v : View) (given : ℕ → ℕ) (taken : ℕ → ℕ → Bool) (t : ℕ) → taken_of v given taken t * block_of t ≤ 1024 * (v.zones - 2)
unfolding taken_of
taken_few v given taken t = sum_times (v.zones - 2) (block_of t) (λ i. only_if (eqb (type_in v given (i + 2)) t) (inside i)) (λ i l. one i)
  where
    inside : ℕ → ℕ
    inside i = sum_to (per_zone t) (λ k. only_if (taken (i + 2) k) 1)

    few : (i : ℕ) → inside i ≤ per_zone t
    few i = sum_le (per_zone t) (λ k. only_if (taken (i + 2) k) 1) (λ k l. only_le (taken (i + 2) k) 1)

    one : (i : ℕ) → only_if (eqb (type_in v given (i + 2)) t) (inside i) * block_of t ≤ 1024
    one i =
        let l : only_if (eqb (type_in v given (i + 2)) t) (inside i) ≤ per_zone t = omega (arith, only_le (eqb (type_in v given (i + 2)) t) (inside i), few i) in
        omega (arith, mul-le-mul_right {m = only_if (eqb (type_in v given (i + 2)) t) (inside i)} {n = per_zone t} (block_of t) l, div-mul-le_self 1024 (block_of t))

pub room_few : (b : List ℕ) (id long : ℕ) {extra : ℕ → ℕ} → GoodWith extra b (places_of b) → Parent (view_of (places_of b) b) id → Gate (lack_tests b id long) 0 → length_of (file_bytes b id) < long → long < 2147483648
unfolding lack_tests
room_few b id long g parent h l =
    let p = places_of b in
    let v : View = view_of p b in
    let t : ℕ = file_type v id in
    let n : ℕ = blocks_for v id long in
    let typed = lawful_typed p b id g.lawful parent in
    let s : Supply v (count_at (grow_counts b id long)) = (gate_head 12 _ _ h).0 l in
    let is : taken_of v s.given s.taken t ≡ n = s.supplies t typed ∙ count_only t n t typed typed ∙ only_eq t t n refl in
    let few : n * block_of t ≤ 1024 * (v.zones - 2) = rw is at (taken_few v s.given s.taken t) in
    omega (arith, blocks_enough v id long typed, few, sectors_most p b g.layout g.lawful id parent, g.layout.most)
