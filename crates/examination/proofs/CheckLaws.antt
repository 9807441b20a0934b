-- The examination of the books: each way on and out of it.
use Rattle.std.specs.Prelude.{Err}
use mathlib.Core.Path.{◌≡◌, refl}
use mathlib.Core.Logic.{inl, inr}
use mathlib.Core.List.{List, []}
use Prim.Native.Nat.{ℕ}
use native.Mathlib.Omega.{arith}
use lib.ListN.{length}
use Rattle.tables.specs.declared.places.Places.{Places}
use Rattle.tables.specs.declared.refusal.Refusal.{Refusal}
use Rattle.tables.specs.declared.refusal.Refusal.TheVariants.{WrongLength, WrongMark, WrongLimits, BrokenRule, BadArgument}
use Rattle.tables.specs.Refusals.{number}
use Rattle.tables.specs.Places.{places_of, Layout}
use Rattle.tables.specs.Views.{view_of}
use Rattle.tables.specs.Rules.R1.{Stand}
use Rattle.tables.specs.Lawful.{Lawful}
use Rattle.tables.specs.Withheld.{Withholds}
use Rattle.tables.specs.Gates.{Gate}
use Rattle.tables.specs.Books.{Sized, Marked, Limits, place_tests, withheld_tests}
use Rattle.examination.specs.Examined.{PlacedAt, PlacesFound, ListAllowed, Examined}
use Rattle.tables.proofs.PlaceLaws.{stand_layout}
use Rattle.tables.proofs.RefusalLaws.{refused as refusal_some}
use Rattle.tables.proofs.GateLaws.{gate_fails, gate_passes, gate_end, gate_stop, gate_skip}

-- ---- the numbers

module _ (b : List ℕ) where
  pub refused_1 : (Sized b → ⊥) → PlacesFound b (Err WrongLength)
  unfolding Gate
  refused_1 s = inr (s, refl, omega arith)

  pub refused_2 : Sized b → (Marked b → ⊥) → PlacesFound b (Err WrongMark)
  unfolding Gate
  refused_2 h₁ s = inl (h₁, inr (s, refl, omega arith))

  pub refused_3 : Sized b → Marked b → (Limits b → ⊥) → PlacesFound b (Err WrongLimits)
  unfolding Gate
  refused_3 h₁ h₂ s = inl (h₁, inl (h₂, inr ((λ h. s h.limits), refl, omega arith)))

  module _ (p : Places) where
    pub unplaced_3 : Sized b → Marked b → p ≡ places_of b → (Stand p (length b) → ⊥) → PlacesFound b (Err WrongLimits)
    unfolding Gate
    unplaced_3 h₁ h₂ q s = inl (h₁, inl (h₂, inr ((λ h. s (rw q h.stand)), refl, omega arith)))

    placed_zero : PlacedAt b p → Gate (place_tests b) 0
    unfolding Gate
    placed_zero at = inl (at.sized, inl (at.marked, inl (at.placed, refl)))

  pub has_layout : (p : Places) → Sized b → Limits b → p ≡ places_of b → Stand p (length b) → Layout p (length b)
  has_layout p s l q st = stand_layout p (length b) (rw q l.least) (rw q l.most) (rw q l.some) (rw q l.few) s.most st

-- ---- then the withheld list

module _ (b withheld : List ℕ) where
  pub unplaced_listed : (e : Refusal) → Gate (place_tests b) (number e) → ListAllowed b withheld (Err e)
  unplaced_listed e h = gate_stop (place_tests b) _ (number e) h (refusal_some e)

  module _ (p : Places) (at : PlacedAt b p) where
    pub refused_7 : (Withholds (view_of p b) withheld → ⊥) → ListAllowed b withheld (Err BadArgument)
    refused_7 s = gate_skip (place_tests b) _ 0 7 (placed_zero b p at) refl (gate_fails 7 (Withholds (view_of (places_of b) b) withheld) [] (omega arith) (λ h. s (rw at.places h)))

  -- ---- then the rules

  pub list_refused : (e : Refusal) → Gate (withheld_tests b withheld) (number e) → Examined b withheld (Err e)
  list_refused e h = gate_stop (withheld_tests b withheld) _ (number e) h (refusal_some e)

  module _ (p : Places) (at : PlacedAt b p) (list : Withholds (view_of p b) withheld) where
    pub list_zero : Gate (withheld_tests b withheld) 0
    list_zero = gate_skip (place_tests b) _ 0 0 (placed_zero b p at) refl (gate_passes 7 (Withholds (view_of (places_of b) b) withheld) [] 0 (rw at.places at list) gate_end)

    pub refused_4 : (Lawful p b withheld → ⊥) → Examined b withheld (Err BrokenRule)
    refused_4 s = gate_skip (withheld_tests b withheld) _ 0 4 list_zero refl (gate_fails 4 (Lawful (places_of b) b withheld) [] (omega arith) (λ l. s (rw at.places l)))
