-- Space: each way out, and that its promise allows one result.
use Rattle.std.specs.Prelude.{Ok, Err, Result}
use mathlib.Core.Path.{◌≡◌, sym, ◌∙◌}
use mathlib.Core.List.{List}
use Prim.Native.Nat.{ℕ, ◌*◌}
use Rattle.tables.specs.declared.places.Places.{Places}
use Rattle.tables.specs.Gates.{Gate}
use Rattle.tables.specs.Books.{GoodWith}
use Rattle.tables.proofs.GateLaws.{gate_one}
use Rattle.requests.specs.declared.space.Space.{Space}
use Rattle.requests.specs.Answers.{use_tests}
use Rattle.requests.specs.Space.{used_sectors, space_of, Spaced}
use Rattle.tables.specs.Refusals.{number_of}
use Rattle.tables.specs.declared.refusal.Refusal.{Refusal}
use Rattle.tables.specs.Refusals.{number}
use Rattle.tables.proofs.RefusalLaws.{answers_one}

module _ (b withheld : List ℕ) where
  pub space_refused : (why : Refusal) → Gate (use_tests b withheld) (number why) → Spaced b withheld (Err why)
  space_refused why h = record { number = h; answer = tt }

  pub space_fine : (s : Space) → Gate (use_tests b withheld) 0 → s ≡ space_of b → Spaced b withheld (Ok s)
  space_fine s g e = record { number = g; answer = e }

  pub measured : (p : Places) (u : ℕ) {extra : ℕ → ℕ} → GoodWith extra b p → u ≡ used_sectors p b → ◌≡◌ {A = Space} (record { sectors = 1024 * p.zones; used = u }) (space_of b)
  measured p u g e = rw (e, g.places)

-- ---- one result

pub spaced_one : (b withheld : List ℕ) (r s : Result Space Refusal) → Spaced b withheld r → Spaced b withheld s → r ≡ s
spaced_one b withheld r s h k =
    let e = gate_one (use_tests b withheld) (number_of r) (number_of s) h.number k.number in
    answers_one r s _ _ h.answer k.answer (λ x y p q. p ∙ sym q) e
