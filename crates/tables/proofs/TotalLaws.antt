-- "The total of free, owned, withheld and system sectors, each counted by its own rule, is 1024Z." (W7): R7's count, summed over the sectors
-- of zones 2 to Z - 1. A run that lies there is counted once at each of its sectors, so that the sum over sectors of the runs over each is the
-- sum over runs of their lengths.
use mathlib.Core.Path.{◌≡◌, refl, sym, ◌∙◌}
use mathlib.Core.List.{List}
use Prim.Native.Nat.{ℕ, zero, suc, ◌+◌, ◌-◌, ◌*◌, ◌≤◌, ◌<◌}
use native.Mathlib.Decide.{ℕ_discrete}
use native.Mathlib.Omega.{arith}
use lib.ListN.{get_or, length}
use lib.Dec.{eqb}
use borrow.Author.Tests.{eq-eqb, ne_eqb}
use Rattle.field.specs.Sum.{sum_to}
use Rattle.field.proofs.Sums.{sum_same, sum_zero, sum_one, sum_add, sum_cut}
use Rattle.tables.specs.Indexes.{word_of, slots_of, start_of, count_of, header_start, header_count, sectors_of}
use Rattle.tables.specs.Views.{View, only_if, tally, cov, over_of, header_over, claims_of, claims_over}
use Rattle.tables.specs.Withheld.{block_at, Withholds, withheld_over}
use Rattle.tables.specs.Totals.{free_sectors, owned_sectors, withheld_sectors, system_sectors}
use Rattle.tables.specs.Rules.R2.{R2}
use Rattle.tables.specs.Rules.R6.{R6}
use Rattle.tables.specs.Rules.R7.{R7}
use Rattle.tables.proofs.PointerLaws.{cov_in, cov_before, cov_after, cov_none, header_over_lem, header_other, pointer_inside, header_inside}
use Rattle.tables.proofs.WithheldLaws.{withheld_inside}

-- ---- sums

-- by rows or by columns
pub sum_swap : (m n : ℕ) (f : ℕ → ℕ → ℕ) → sum_to m (λ i. sum_to n (λ j. f i j)) ≡ sum_to n (λ j. sum_to m (λ i. f i j))
unfolding sum_to
sum_swap zero n f = sym (sum_zero n (λ j. 0) (λ j l. refl))
sum_swap (suc m) n f = omega (arith, sum_swap m n f, sum_add n (λ j. sum_to m (λ i. f i j)) (λ j. f m j))

-- of the n sectors from `from` on as many are under a run as it is long, if all of its sectors are of them
pub run_sum : (from n a c : ℕ) → ((s : ℕ) → a ≤ s → s < a + c → (from ≤ s) × (s < from + n)) → sum_to n (λ k. cov a c (from + k)) ≡ c
run_sum from n a zero inside = sum_zero n _ (λ k l. cov_none a (from + k))
run_sum from n a (suc c) inside =
    let low = (inside a (omega arith) (omega arith)).0 in
    let high = (inside (a + c) (omega arith) (omega arith)).1 in
    let e : a - from + (suc c + (from + n - (a + suc c))) ≡ n = omega arith in
    let before = sum_zero (a - from) (λ k. cov a (suc c) (from + k)) (λ k l. cov_before a (suc c) (from + k) (omega arith)) in
    let own = sum_one (suc c) (λ k. cov a (suc c) (from + (a - from + k))) (λ k l. cov_in a (suc c) (from + (a - from + k)) (omega arith) (omega arith)) in
    let after = sum_zero (from + n - (a + suc c)) (λ k. cov a (suc c) (from + (a - from + (suc c + k)))) (λ k l. cov_after a (suc c) (from + (a - from + (suc c + k))) (omega arith)) in
    let first = rw e at (sum_cut (a - from) (suc c + (from + n - (a + suc c))) (λ k. cov a (suc c) (from + k))) in
    omega (arith, first, sum_cut (suc c) (from + n - (a + suc c)) (λ k. cov a (suc c) (from + (a - from + k))))

-- ---- the sectors of zones 2 to Z - 1

module _ (v : View) (zones : 2 ≤ v.zones) where
  abbrev middle : ℕ
  middle = 1024 * (v.zones - 2)

  -- a run whose sectors lie there, over all of them
  middle_run : (a c : ℕ) → ((s : ℕ) → a ≤ s → s < a + c → (1024 ≤ s) × (s < 1024 * (v.zones - 1))) → sum_to middle (λ k. cov a c (1024 + k)) ≡ c
  middle_run a c inside = run_sum 1024 middle a c (λ s from to. (let i = inside s from to in (i.0, omega (arith, i.1))))

  -- the pointers of a table, its header pointer, and what all tables claim
  module _ (r6 : R6 v) where
    pointers_sum : (i : ℕ) → 1 ≤ i → i ≤ v.indexes → sum_to middle (λ k. over_of i (v.table i) (1024 + k)) ≡ sectors_of i (v.table i)
    unfolding over_of sectors_of
    pointers_sum i low high =
        sum_swap middle (slots_of i (v.table i)) (λ k j. cov (start_of i (v.table i) j) (count_of i (v.table i) j) (1024 + k))
        ∙ sum_same (slots_of i (v.table i)) _ _ (λ j l. middle_run (start_of i (v.table i) j) (count_of i (v.table i) j) (λ s from to. pointer_inside v r6 i j s (record { low = low; high = high; slot = l; from = from; to = to })))

    header_sum : (i : ℕ) → 1 ≤ i → i ≤ v.indexes → sum_to middle (λ k. header_over i (v.table i) (1024 + k)) ≡ only_if (eqb (word_of (v.table i)) i) (header_count (v.table i))
    unfolding only_if
    header_sum i low high = elim (ℕ_discrete (word_of (v.table i)) i) [
      | yes e ↦ rw (eq-eqb (word_of (v.table i)) i e) (sum_same middle _ _ (λ k l. header_over_lem i (v.table i) (1024 + k) e)
          ∙ middle_run (header_start (v.table i)) (header_count (v.table i)) (λ s from to. header_inside v r6 i s (record { parent = record { low = low; high = high; word = e }; from = from; to = to })))
      | no ne ↦ rw (ne_eqb (word_of (v.table i)) i ne) (sum_zero middle _ (λ k l. header_other i (v.table i) (1024 + k) ne))
    ]

    owned_sum : sum_to middle (λ k. claims_over v (1024 + k)) ≡ owned_sectors v
    unfolding claims_over claims_of owned_sectors tally
    owned_sum =
        sum_swap middle v.indexes (λ k n. over_of (n + 1) (v.table (n + 1)) (1024 + k) + header_over (n + 1) (v.table (n + 1)) (1024 + k))
        ∙ sum_same v.indexes _ _ (λ n l. omega (
          arith,
          pointers_sum (n + 1) (omega arith) (omega arith),
          header_sum (n + 1) (omega arith) (omega arith),
          sum_add middle (λ k. over_of (n + 1) (v.table (n + 1)) (1024 + k)) (λ k. header_over (n + 1) (v.table (n + 1)) (1024 + k)),
        ))

  withheld_sum : (withheld : List ℕ) → R2 v → Withholds v withheld → sum_to middle (λ k. withheld_over v withheld (1024 + k)) ≡ withheld_sectors v withheld
  unfolding withheld_over withheld_sectors
  withheld_sum withheld r2 list =
      sum_swap middle (length withheld) (λ k j. cov (get_or withheld j 0) (block_at v (get_or withheld j 0)) (1024 + k))
      ∙ sum_same (length withheld) _ _ (λ j l. middle_run (get_or withheld j 0) (block_at v (get_or withheld j 0)) (λ s from to. withheld_inside v withheld list r2 s (j, record { one = l; from = from; to = to })))

-- ---- the total

pub sectors_total : (v : View) (withheld : List ℕ) → 2 ≤ v.zones → ((s : ℕ) → v.bit s < 2) → R2 v → R6 v → Withholds v withheld → R7 v withheld
    → free_sectors v + owned_sectors v + withheld_sectors v withheld + system_sectors ≡ 1024 * v.zones
unfolding free_sectors system_sectors
sectors_total v withheld zones bits r2 r6 list r7 =
    let n = 1024 * (v.zones - 2) in
    let set = sum_add n (λ k. claims_over v (1024 + k)) (λ k. withheld_over v withheld (1024 + k)) in
    let all = sum_add n (λ k. 1 - v.bit (1024 + k)) (λ k. claims_over v (1024 + k) + withheld_over v withheld (1024 + k)) in
    let each = sum_one n (λ k. (1 - v.bit (1024 + k)) + (claims_over v (1024 + k) + withheld_over v withheld (1024 + k)))
    (λ k l. omega (arith, bits (1024 + k), r7.count (1024 + k) (omega arith) (omega arith))) in
    omega (arith, owned_sum v zones r6, withheld_sum v zones withheld r2 list)
