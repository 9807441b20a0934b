-- What the pass over all chains has noted of each child: 0 until a chain meets it, then the parent of that chain, then 4097, when it is met
-- again in that chain or in another.
use Rattle.std.specs.Prelude.{◌≡◌, ◌⊎◌, ◌≢◌, cond, List, ℕ, ◌≤◌, ◌<◌, eqb, get_or, length}
use Rattle.tables.specs.Views.{View}
use Rattle.examination.specs.Chained.{StandsAt}

abbrev pub twice : ℕ
twice = 4097

abbrev pub after_meeting : ℕ → ℕ → ℕ
after_meeting noted of = cond (eqb noted 0) of twice

-- c is met once by the pairs (p, k) that `In` holds of, as the k-th child after p
pub record MetOnce (v : View) (In : ℕ → ℕ → Type 0) (c of : ℕ) : Type 0 where
  pub place : ℕ
  pub passed : In of place
  pub stands : StandsAt v of place c
  pub once : (p k : ℕ) → In p k → StandsAt v p k c → (p ≡ of) × (k ≡ place)

-- c is met twice
pub record MetTwice (v : View) (In : ℕ → ℕ → Type 0) (c : ℕ) : Type 0 where
  pub p : ℕ
  pub k : ℕ
  pub passed : In p k
  pub stands : StandsAt v p k c
  pub p' : ℕ
  pub k' : ℕ
  pub passed' : In p' k'
  pub stands' : StandsAt v p' k' c
  pub differ : (p ≡ p') × (k ≡ k') → ⊥

-- what is noted is what the pairs that were passed have met
pub record Noted (v : View) (In : ℕ → ℕ → Type 0) (met : List ℕ) : Type 0 where
  pub long : length met ≡ 4097
  pub none : (c : ℕ) → get_or met c 0 ≡ 0 → (p k : ℕ) → In p k → StandsAt v p k c → ⊥
  pub once : (c : ℕ) → get_or met c 0 ≢ 0 → get_or met c 0 ≢ twice → MetOnce v In c (get_or met c 0)
  pub again : (c : ℕ) → get_or met c 0 ≡ twice → MetTwice v In c

-- the chains of the parents up to i were passed
abbrev pub MetUpTo : View → List ℕ → ℕ → Type 0
MetUpTo v met i = Noted v (λ p k. p ≤ i) met

-- the pairs before the m-th child after parent `of`
abbrev pub PassedPairs : ℕ → ℕ → ℕ → ℕ → Type 0
PassedPairs of m p k = (p < of) ⊎ ((p ≡ of) × (k < m))

-- the chains of the parents below `of` were passed, and the first m children of its own
abbrev pub MetWithin : View → List ℕ → ℕ → ℕ → Type 0
MetWithin v met of m = Noted v (PassedPairs of m) met
