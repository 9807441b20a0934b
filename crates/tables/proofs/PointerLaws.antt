-- Sectors under pointers and header pointers: a run as a function that is 1 on it, and what R7's count says of single ones.
use mathlib.Core.Path.{◌≡◌, ◌∙◌}
use mathlib.Core.Logic.{◌⊎◌, inl, inr, ⊎_elim, ◌≢◌}
use mathlib.Core.List.{List}
use Prim.Native.Nat.{ℕ, ◌+◌, ◌-◌, ◌*◌, ◌≤◌, ◌<◌}
use native.Mathlib.Decide.{ℕ_discrete, dec_lt, dec_le}
use native.Mathlib.Omega.{arith}
use borrow.Author.Tests.{le-leb, lt-leb, lt-ltb, le-ltb, eq-eqb, ne_eqb}
use Rattle.field.proofs.Sums.{sum_zero, sum_some, sum_single, sum_part, sum_once, sum_add}
use Rattle.tables.specs.Indexes.{word_of, slots_of, start_of, count_of, header_start, header_count}
use Rattle.tables.specs.Views.{View, only_if, cov, over_of, tally, pointers_over, header_over, headers_over, claims_of, claims_over, Under, UnderHeader}
use Rattle.tables.specs.Rules.R6.{HeaderRun, R6}
use Rattle.tables.specs.Rules.R7.{Owned, Owner}
use Rattle.tables.proofs.IndexLaws.{slots_free}

-- ---- runs

pub cov_in : (a c s : ℕ) → a ≤ s → s < a + c → cov a c s ≡ 1
unfolding cov
cov_in a c s h l = rw (le-leb a s h, lt-ltb s (a + c) l)

pub cov_before : (a c s : ℕ) → s < a → cov a c s ≡ 0
unfolding cov
cov_before a c s h = rw (lt-leb a s h)

pub cov_after : (a c s : ℕ) → a + c ≤ s → cov a c s ≡ 0
unfolding cov
cov_after a c s h = rw (le-leb a s (omega arith), le-ltb s (a + c) h)

pub record Hit (a c s : ℕ) : Type 0 where
  pub low : a ≤ s
  pub high : s < a + c
  pub one : cov a c s ≡ 1

pub cov_cases : (a c s : ℕ) → Hit a c s ⊎ (cov a c s ≡ 0)
cov_cases a c s =
    elim (dec_le a s) [
      | yes h ↦ elim (dec_lt s (a + c)) [ yes l ↦ inl (record { low = h; high = l; one = cov_in a c s h l }) | no l ↦ inr (cov_after a c s (omega arith)) ]
      | no h ↦ inr (cov_before a c s (omega arith))
    ]

-- a run of no sectors, and one that two make up
pub cov_none : (a s : ℕ) → cov a 0 s ≡ 0
cov_none a s = elim (dec_lt s a) [ yes h ↦ cov_before a 0 s h | no h ↦ cov_after a 0 s (omega arith) ]

pub cov_join : (a c d s : ℕ) → cov a (c + d) s ≡ cov a c s + cov (a + c) d s
cov_join a c d s =
    elim (dec_lt s a) [
      | yes h ↦ omega (arith, cov_before a (c + d) s h, cov_before a c s h, cov_before (a + c) d s (omega arith))
      | no h ↦ elim (dec_lt s (a + c)) [
        | yes l ↦ omega (arith, cov_in a (c + d) s (omega arith) (omega arith), cov_in a c s (omega arith) l, cov_before (a + c) d s l)
        | no l ↦ elim (dec_lt s (a + c + d)) [
          | yes m ↦ omega (arith, cov_in a (c + d) s (omega arith) (omega arith), cov_after a c s (omega arith), cov_in (a + c) d s (omega arith) m)
          | no m ↦ omega (arith, cov_after a (c + d) s (omega arith), cov_after a c s (omega arith), cov_after (a + c) d s (omega arith))
        ]
      ]
    ]

-- ---- a count of 1 is exactly one pointer

module _ (v : View) (s : ℕ) where
  over_at : (i j : ℕ) → Under v i j s → 0 < over_of i (v.table i) s
  unfolding over_of
  over_at i j u = omega (arith, cov_in _ _ s u.from u.to, sum_part (slots_of i (v.table i)) j (λ j. cov (start_of i (v.table i) j) (count_of i (v.table i) j) s) u.slot)

  pub under_counts : (i j : ℕ) → Under v i j s → 0 < pointers_over v s
  unfolding pointers_over tally
  under_counts i j u =
      let a : i - 1 + 1 ≡ i = omega (arith, u.low) in
      omega (arith, over_at i j u, rw a at (sum_part v.indexes (i - 1) (λ n. over_of (n + 1) (v.table (n + 1)) s) (omega (arith, u.low, u.high))))

  -- a set sector is under a pointer, and no sector is under two
  pub under_some : 0 < pointers_over v s → (i : ℕ) × (j : ℕ) × Under v i j s
  unfolding over_of pointers_over tally
  under_some h =
      let o = sum_some v.indexes _ h in
      let p = sum_some (slots_of (o.0 + 1) (v.table (o.0 + 1))) _ o.2 in
      (o.0 + 1, p.0, ⊎_elim (λ c. record { low = omega arith; high = omega (arith, o.1); slot = p.1; from = c.low; to = c.high }) (λ z. absurd (omega (arith, p.2))) (cov_cases _ _ s))

  pub under_one : pointers_over v s ≤ 1 → (i j : ℕ) → Under v i j s → (k l : ℕ) → Under v k l s → (i ≡ k) × (j ≡ l)
  unfolding over_of pointers_over tally
  under_one h i j u k l w =
      let f : ℕ → ℕ = λ n. over_of (n + 1) (v.table (n + 1)) s in
      let a : i - 1 + 1 ≡ i = omega (arith, u.low) in
      let b : k - 1 + 1 ≡ k = omega (arith, w.low) in
      let p : 0 < over_of (i - 1 + 1) (v.table (i - 1 + 1)) s = rw a (over_at i j u) in
      let q : 0 < over_of (k - 1 + 1) (v.table (k - 1 + 1)) s = rw b (over_at k l w) in
      let e : i - 1 ≡ k - 1 = sum_single v.indexes (λ n. over_of (n + 1) (v.table (n + 1)) s) h (i - 1) (omega (arith, u.low, u.high)) p (k - 1) (omega (arith, w.low, w.high)) q in
      let ik : i ≡ k = omega (arith, u.low, w.low) in
      let le : over_of i (v.table i) s ≤ 1 = omega (arith, rw a at (sum_part v.indexes (i - 1) (λ n. over_of (n + 1) (v.table (n + 1)) s) (omega (arith, u.low, u.high)))) in
      let w' : Under v i l s = rw ik w in (
        ik,
        sum_single (slots_of i (v.table i)) (λ j. cov (start_of i (v.table i) j) (count_of i (v.table i) j) s) le
            j u.slot (omega (arith, cov_in _ _ s u.from u.to)) l w'.slot (omega (arith, cov_in _ _ s w'.from w'.to)),
      )

-- ---- header pointers

-- what a header pointer is over, seen and met: a table's own, which is a parent's
module _ (i : ℕ) (t : List ℕ) (s : ℕ) where
  pub header_over_lem : word_of t ≡ i → header_over i t s ≡ cov (header_start t) (header_count t) s
  unfolding header_over only_if
  header_over_lem e = rw (eq-eqb (word_of t) i e)

  pub header_other : word_of t ≢ i → header_over i t s ≡ 0
  unfolding header_over only_if
  header_other ne = rw (ne_eqb (word_of t) i ne)

  pub header_least : header_over i t s ≤ 1
  header_least = elim (ℕ_discrete (word_of t) i) [
    | yes e ↦ ⊎_elim (λ h. omega (arith, header_over_lem e, h.one)) (λ z. omega (arith, header_over_lem e)) (cov_cases (header_start t) (header_count t) s)
    | no ne ↦ omega (arith, header_other ne)
  ]

module _ (v : View) (s : ℕ) where
  headed_at : (i : ℕ) → UnderHeader v i s → header_over i (v.table i) s ≡ 1
  headed_at i u = header_over_lem i (v.table i) s u.parent.word ∙ cov_in _ _ s u.from u.to

  at_headed : (i : ℕ) → 1 ≤ i → i ≤ v.indexes → 0 < header_over i (v.table i) s → UnderHeader v i s
  at_headed i lo hi h = elim (ℕ_discrete (word_of (v.table i)) i) [
    | yes e ↦ ⊎_elim (λ c. record { parent = record { low = lo; high = hi; word = e }; from = c.low; to = c.high })
        (λ z. absurd (omega (arith, header_over_lem i (v.table i) s e))) (cov_cases (header_start (v.table i)) (header_count (v.table i)) s)
    | no ne ↦ absurd (omega (arith, header_other i (v.table i) s ne))
  ]

  pub header_counts : (i : ℕ) → UnderHeader v i s → 0 < headers_over v s
  unfolding headers_over tally
  header_counts i u =
      let a : i - 1 + 1 ≡ i = omega (arith, u.parent.low) in
      omega (arith, headed_at i u, rw a at (sum_part v.indexes (i - 1) (λ n. header_over (n + 1) (v.table (n + 1)) s) (omega (arith, u.parent.low, u.parent.high))))

  pub header_some : 0 < headers_over v s → (i : ℕ) × UnderHeader v i s
  unfolding headers_over tally
  header_some h = let o = sum_some v.indexes _ h in (o.0 + 1, at_headed (o.0 + 1) (omega arith) (omega (arith, o.1)) o.2)

  pub header_one : headers_over v s ≤ 1 → (i k : ℕ) → UnderHeader v i s → UnderHeader v k s → i ≡ k
  unfolding headers_over tally
  header_one h i k u w =
      let a : i - 1 + 1 ≡ i = omega (arith, u.parent.low) in
      let b : k - 1 + 1 ≡ k = omega (arith, w.parent.low) in
      let p : 0 < header_over (i - 1 + 1) (v.table (i - 1 + 1)) s = rw a (omega (arith, headed_at i u)) in
      let q : 0 < header_over (k - 1 + 1) (v.table (k - 1 + 1)) s = rw b (omega (arith, headed_at k w)) in
      let e : i - 1 ≡ k - 1 = sum_single v.indexes (λ n. header_over (n + 1) (v.table (n + 1)) s) h (i - 1) (omega (arith, u.parent.low, u.parent.high)) p
      (k - 1) (omega (arith, w.parent.low, w.parent.high)) q in
      omega (arith, u.parent.low, w.parent.low)

  pub headers_once : ((i k : ℕ) → UnderHeader v i s → UnderHeader v k s → i ≡ k) → headers_over v s ≤ 1
  unfolding headers_over tally
  headers_once one =
      sum_once v.indexes (λ n. header_over (n + 1) (v.table (n + 1)) s) (λ n l. header_least (n + 1) (v.table (n + 1)) s) (λ n l m k hn hm.
      (let e : n + 1 ≡ m + 1 = one (n + 1) (m + 1) (at_headed (n + 1) (omega arith) (omega arith) hn) (at_headed (m + 1) (omega arith) (omega arith) hm) in
      omega arith))

-- ---- claims

module _ (v : View) (s : ℕ) where
  -- pointers and header pointers are the claims
  pub claims_are : claims_over v s ≡ pointers_over v s + headers_over v s
  unfolding claims_over claims_of pointers_over headers_over tally
  claims_are = sum_add v.indexes (λ k. over_of (k + 1) (v.table (k + 1)) s) (λ k. header_over (k + 1) (v.table (k + 1)) s)

  -- what lies under a pointer is claimed, and what lies under a header pointer
  pointers_le : pointers_over v s ≤ claims_over v s
  pointers_le = omega (arith, claims_are)

  pub under_claims : (i j : ℕ) → Under v i j s → 0 < claims_over v s
  under_claims i j u = omega (arith, under_counts v s i j u, pointers_le)

  pub header_claims : (i : ℕ) → UnderHeader v i s → 0 < claims_over v s
  header_claims i u = omega (arith, header_counts v s i u, claims_are)

  -- nothing else is
  pub claimed_owner : 0 < claims_over v s → Owner v s
  claimed_owner h = elim (dec_lt 0 (pointers_over v s)) [ yes p ↦ inl (under_some v s p) | no p ↦ inr (header_some v s (omega (arith, claims_are))) ]

-- a free table claims no sector
pub over_none : (i : ℕ) (t : List ℕ) (s : ℕ) → 1 ≤ i → word_of t ≡ 0 → claims_of i t s ≡ 0
unfolding claims_of over_of
over_none i t s low e =
    let none : over_of i t s ≡ 0 = sum_zero (slots_of i t) _ (λ k l. absurd (omega (arith, slots_free i t e))) in
    omega (arith, header_other i t s (λ z. omega arith))

-- ---- R7 in the paper's words

module _ (v : View) (r6 : R6 v) where
  -- what lies under a pointer or a header pointer lies outside zones 1 and Z
  pub pointer_inside : (i j s : ℕ) → Under v i j s → (1024 ≤ s) × (s < 1024 * (v.zones - 1))
  pointer_inside i j s u =
      let run = (r6 i (omega (arith, u.high)) u.low).used j u.slot (omega (arith, u.from, u.to)) in
      (omega (arith, run.low, u.from), omega (arith, run.high, u.to))

  -- the run that a header's sector is one of
  pub header_run : (i s : ℕ) → UnderHeader v i s → HeaderRun v (header_start (v.table i)) (header_count (v.table i))
  header_run i s u = ((r6 i (omega (arith, u.parent.high)) u.parent.low).header u.parent.word).run (omega (arith, u.from, u.to))

  pub header_inside : (i s : ℕ) → UnderHeader v i s → (1024 ≤ s) × (s < 1024 * (v.zones - 1))
  header_inside i s u = let run = header_run i s u in (omega (arith, run.low, u.from), omega (arith, run.high, u.to))

  pub claimed_inside : (s : ℕ) → 0 < claims_over v s → (1024 ≤ s) × (s < 1024 * (v.zones - 1))
  claimed_inside s h = ⊎_elim (λ u. pointer_inside u.0 u.1 s u.2) (λ u. header_inside u.0 s u.1) (claimed_owner v s h)

module _ (v : View) {extra : ℕ → ℕ} (r6 : R6 v) (r7 : Owned v extra) (bits : (s : ℕ) → v.bit s < 2) where
  pub under_inside : (i j s : ℕ) → Under v i j s → (1024 ≤ s) × (s < 1024 * (v.zones - 1))
  under_inside = pointer_inside v r6

  -- as many claims as the bit at most
  few : (s : ℕ) → (1024 ≤ s) × (s < 1024 * (v.zones - 1)) → pointers_over v s + headers_over v s ≤ 1
  few s h = omega (arith, r7.count s h.1 h.0, bits s, claims_are v s)

  -- "No sector is under two pointers.", nor under two header pointers, nor under one of each
  pub one_pointer : (s i j k l : ℕ) → Under v i j s → Under v k l s → (i ≡ k) × (j ≡ l)
  one_pointer s i j k l u w = under_one v s (omega (arith, few s (under_inside i j s u))) i j u k l w

  pub one_header : (s i k : ℕ) → UnderHeader v i s → UnderHeader v k s → i ≡ k
  one_header s i k u w = header_one v s (omega (arith, few s (header_inside v r6 i s u))) i k u w

  pub pointer_apart : (s i j k : ℕ) → Under v i j s → UnderHeader v k s → ⊥
  pointer_apart s i j k u w = omega (arith, few s (under_inside i j s u), under_counts v s i j u, header_counts v s k w)

  -- "the set bits are exactly the sectors under pointers", and under header pointers, and those that are set besides
  pub set_owned : (s : ℕ) → s < 1024 * (v.zones - 1) → 1024 ≤ s → v.bit s ≡ 1 → extra s ≡ 0 → Owner v s
  set_owned s l h e none = claimed_owner v s (omega (arith, r7.count s l h))

  pub extra_set : (s : ℕ) → s < 1024 * (v.zones - 1) → 1024 ≤ s → 0 < extra s → (v.bit s ≡ 1) × (Owner v s → ⊥)
  extra_set s l h some =
      let q = r7.count s l h in
      (omega (arith, bits s), ⊎_elim (λ u. omega (arith, bits s, under_claims v s u.0 u.1 u.2)) (λ u. omega (arith, bits s, header_claims v s u.0 u.1)))

  pub under_set : (s i j : ℕ) → Under v i j s → v.bit s ≡ 1
  under_set s i j u =
      let h = under_inside i j s u in
      omega (arith, r7.count s h.1 h.0, bits s, under_claims v s i j u)

  pub header_set : (s i : ℕ) → UnderHeader v i s → v.bit s ≡ 1
  header_set s i u =
      let h = header_inside v r6 i s u in
      omega (arith, r7.count s h.1 h.0, bits s, header_claims v s i u)

-- ---- the paper's words give the counting form

module _ (v : View) (s : ℕ) (one : (i j k l : ℕ) → Under v i j s → Under v k l s → (i ≡ k) × (j ≡ l)) where
  -- a pointer that lies over s
  at_slot : (i j : ℕ) → 1 ≤ i → i ≤ v.indexes → j < slots_of i (v.table i) → 0 < cov (start_of i (v.table i) j) (count_of i (v.table i) j) s → Under v i j s
  at_slot i j lo hi l h =
      ⊎_elim (λ c. record { low = lo; high = hi; slot = l; from = c.low; to = c.high }) (λ z. absurd (omega arith)) (cov_cases (start_of i (v.table i) j) (count_of i (v.table i) j) s)

  over_few : (i : ℕ) → 1 ≤ i → i ≤ v.indexes → over_of i (v.table i) s ≤ 1
  unfolding over_of
  over_few i lo hi =
      sum_once (slots_of i (v.table i)) (λ j. cov (start_of i (v.table i) j) (count_of i (v.table i) j) s)
      (λ j l. ⊎_elim (λ c. omega (arith, c.one)) (λ z. omega arith) (cov_cases (start_of i (v.table i) j) (count_of i (v.table i) j) s))
      (λ j l k m hj hk. (one i j i k (at_slot i j lo hi l hj) (at_slot i k lo hi m hk)).1)

  over_place : (i : ℕ) → 1 ≤ i → i ≤ v.indexes → 0 < over_of i (v.table i) s → (j : ℕ) × Under v i j s
  unfolding over_of
  over_place i lo hi h = let p = sum_some (slots_of i (v.table i)) _ h in (p.0, at_slot i p.0 lo hi p.1 p.2)

  pub over_once : pointers_over v s ≤ 1
  unfolding pointers_over tally
  over_once =
      sum_once v.indexes (λ n. over_of (n + 1) (v.table (n + 1)) s) (λ n l. over_few (n + 1) (omega arith) (omega arith)) (λ n l m k hn hm.
      (let a = over_place (n + 1) (omega arith) (omega arith) hn in
      let b = over_place (m + 1) (omega arith) (omega arith) hm in
      let e : n + 1 ≡ m + 1 = (one (n + 1) a.0 (m + 1) b.0 a.1 b.1).0 in
      omega arith))
