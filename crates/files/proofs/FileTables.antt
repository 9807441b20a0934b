-- A file's tables: those of its chain. What is summed over the tables that are of the file is summed along the chain.
use mathlib.Core.Path.{◌≡◌, refl, sym, ap, ◌∙◌}
use mathlib.Core.Logic.{◌≢◌, ⊎_elim}
use mathlib.Core.List.{List, [], ◌∷◌}
use Prim.Native.Nat.{ℕ, zero, suc, ◌+◌, ◌-◌, ◌≤◌, ◌<◌}
use native.Mathlib.Omega.{arith}
use lib.Dec.{eqb}
use lib.ListN.{length}
use borrow.Author.Tests.{ne_eqb}
use Rattle.field.specs.Sum.{sum_to}
use Rattle.field.proofs.Sums.{sum_same, sum_one, sum_zero, sum_out}
use Rattle.tables.specs.Indexes.{word_of, parent_of, minus, sectors_of, file_of}
use Rattle.tables.specs.Views.{View, Begins, Parent, Child, walk, next, only_if, tally}
use Rattle.tables.specs.Rules.R4.{R4}
use Rattle.tables.specs.Rules.R5.{FileChain, Stands, R5}
use Rattle.tables.specs.Rules.R8.{file_sectors}
use Rattle.tables.proofs.ChainLaws.{walk_none, walk_once}
use Rattle.tables.proofs.Sector1CountLaws.{only_eq, only_ne}
use Rattle.tables.proofs.IndexLaws.{file_free}
use Rattle.allocation.proofs.LastLaws.{chain_begins, file_short}
use Rattle.allocation.proofs.ChangeLaws.{parent_file, child_file, member_file}
use Rattle.files.specs.Release.{chain_from, chain_of, file_tables}

-- ---- the chain as a list

-- the d tables that links lead to from i, from the k-th on
unfoldable pub tables_from : (ℕ → ℕ) → ℕ → ℕ → ℕ → List ℕ
tables_from link i k zero = []
tables_from link i k (suc d) = walk link i k ∷ tables_from link i (suc k) d

from_length : (link : ℕ → ℕ) (i k d : ℕ) → length (tables_from link i k d) ≡ d
unfolding tables_from
from_length link i k zero = refl
from_length link i k (suc d) = ap suc (from_length link i (suc k) d)

-- 0 ends any chain
chain_none : (link : ℕ → ℕ) (n : ℕ) → chain_from link n 0 ≡ []
unfolding chain_from
chain_none link zero = refl
chain_none link (suc n) = refl

-- the tables of a chain are tables of the volume, and none stands in it twice
module _ (v : View) (f m : ℕ) (parent : Parent v f) (chain : FileChain v f m) where
  pub tables_in : (k : ℕ) → k < suc m → (1 ≤ walk (next v) f k) × (walk (next v) f k ≤ v.indexes)
  tables_in k l = let b = (chain_begins v f m parent chain k l).1 in (b.low, b.high)

  pub tables_once : (k : ℕ) → k < suc m → (j : ℕ) → j < k → walk (next v) f j ≢ walk (next v) f k
  tables_once = walk_once (next v) f (suc m) chain.ends (λ k l. (tables_in k l).0)

  chain_rest : (d k n : ℕ) → k + d ≡ suc m → d ≤ n → chain_from (next v) n (walk (next v) f k) ≡ tables_from (next v) f k d
  unfolding chain_from tables_from walk
  chain_rest zero k n e l = let q : k ≡ suc m = omega arith in ap (chain_from (next v) n) (ap (walk (next v) f) q ∙ chain.ends) ∙ chain_none (next v) n
  chain_rest (suc d) k zero e l = absurd (omega arith)
  chain_rest (suc d) k (suc n) e l =
      let some = (tables_in k (omega arith)).0 in
      rw (ne_eqb (walk (next v) f k) 0 (λ z. omega arith)) (ap (λ (is : List ℕ). walk (next v) f k ∷ is) (chain_rest d (suc k) n (omega arith) (omega arith)))

  pub chain_tables : chain_of v f ≡ tables_from (next v) f 0 (suc m)
  unfolding chain_of
  chain_tables = ap (chain_from (next v) v.indexes) (sym (walk_none (next v) f)) ∙ chain_rest (suc m) 0 v.indexes (omega arith) (file_short v f m parent chain)

  pub tables_long : file_tables v f ≡ suc m
  tables_long = ap length chain_tables ∙ from_length (next v) f 0 (suc m)

module _ (v : View) (r4 : R4 v) (r5 : R5 v) (few : v.indexes ≤ 4096) (f : ℕ) (parent : Parent v f) where
  -- a table of the file stands in its chain
  pub file_member : (i : ℕ) → 1 ≤ i → i ≤ v.indexes → file_of i (v.table i) ≡ f → (k : ℕ) × (k < suc (r5.long f)) × (walk (next v) f k ≡ i)
  file_member i low high is =
      ⊎_elim (λ w. absurd (omega (arith, file_free i (v.table i) w, parent.low)))
      (⊎_elim (λ w. (0, omega arith, walk_none (next v) f ∙ sym is ∙ parent_file v i (begins i w))) (λ w. placed (begins (minus i) w)))
      (r4.own i (omega arith) low).word
    where
      begins : (w : ℕ) → word_of (v.table i) ≡ w → Begins v i w
      begins w e = record { low = low; high = high; word = e }

      placed : Child v i → (k : ℕ) × (k < suc (r5.long f)) × (walk (next v) f k ≡ i)
      placed c =
          let named : parent_of (v.table i) ≡ f = sym (child_file v i few c) ∙ is in
          let s : Stands v f (r5.long f) i = rw named at (r5.stands i c) in
          (suc s.place, omega (arith, s.below), s.here)

  -- the other tables add nothing
  pub file_tally : (g : ℕ → List ℕ → ℕ) → tally v (λ i t. only_if (eqb (file_of i t) f) (g i t)) ≡ sum_to (suc (r5.long f)) (λ k. g (walk (next v) f k) (v.table (walk (next v) f k)))
  unfolding tally
  file_tally g =
      let taken = sum_out v.indexes m (λ k. walk (next v) f k - 1) part (λ i. 0) (λ k l. omega (arith, (inside k l).0, (inside k l).1)) once (λ k l. refl) other in
      omega (arith, taken, sum_same m _ _ own, sum_zero v.indexes (λ i. 0) (λ k l. refl))
    where
      chain : FileChain v f (r5.long f)
      chain = r5.chain f parent

      m : ℕ
      m = suc (r5.long f)

      part : ℕ → ℕ
      part i = only_if (eqb (file_of (i + 1) (v.table (i + 1))) f) (g (i + 1) (v.table (i + 1)))

      inside : (k : ℕ) → k < m → (1 ≤ walk (next v) f k) × (walk (next v) f k ≤ v.indexes)
      inside = tables_in v f (r5.long f) parent chain

      once : (k : ℕ) → k < m → (j : ℕ) → j < k → walk (next v) f j - 1 ≢ walk (next v) f k - 1
      once k l j lj e = tables_once v f (r5.long f) parent chain k l j lj (omega (arith, (inside k l).0, (inside j (omega arith)).0))

      other : (i : ℕ) → i < v.indexes → ((k : ℕ) → k < m → walk (next v) f k - 1 ≢ i) → 0 ≡ part i
      other i l out = sym (only_ne (file_of (i + 1) (v.table (i + 1))) f _ (λ e. (let r = file_member (i + 1) (omega arith) (omega arith) e in out r.0 r.1 (omega (arith, r.2)))))

      own : (k : ℕ) → k < m → part (walk (next v) f k - 1) ≡ g (walk (next v) f k) (v.table (walk (next v) f k))
      own k l =
          let q : walk (next v) f k - 1 + 1 ≡ walk (next v) f k = omega (arith, (inside k l).0) in
          rw q (only_eq _ f _ (member_file v few f (r5.long f) parent chain k l))

  pub tables_tally : file_tables v f ≡ tally v (λ i t. only_if (eqb (file_of i t) f) 1)
  tables_tally = tables_long v f (r5.long f) parent (r5.chain f parent) ∙ sym (file_tally (λ i t. 1) ∙ sum_one (suc (r5.long f)) (λ k. 1) (λ k l. refl))

  pub sectors_chain : file_sectors v f ≡ sum_to (suc (r5.long f)) (λ k. sectors_of (walk (next v) f k) (v.table (walk (next v) f k)))
  unfolding file_sectors
  sectors_chain = file_tally sectors_of
