-- The lowest number that passes a test.
use Rattle.std.specs.Prelude.{◌≡◌, Bool, cond, ℕ, zero, suc, ◌<◌, Option, MatchOption}
use Rattle.tables.specs.declared.kinds.Zone.{Zone}

-- of the n numbers from `from` on; the number after them if none passes
unfoldable pub find : (ℕ → Bool) → ℕ → ℕ → ℕ
find test zero from = from
find test (suc n) from = let r = find test n (suc from) in cond (test from) from r

-- r is the number found, if that is below `last`; none if it is `last`
abbrev pub NumberFound : ℕ → ℕ → Option ℕ → Type 0
NumberFound last n r = MatchOption r (n ≡ last) (λ k. (k ≡ n) × (k < last))

-- the same of a zone's number
abbrev pub ZoneFound : ℕ → ℕ → Option Zone → Type 0
ZoneFound last n r = MatchOption r (n ≡ last) (λ z. (z.0 ≡ n) × (z.0 < last))
