-- What allocation's laws need of the block that is added after a tail: it may be taken, it leaves room for the others, and it is chosen by zone
-- entries and sectors only. No other law looks into the choice.
use mathlib.Core.Path.{◌≡◌, refl, sym, ◌∙◌}
use mathlib.Core.Logic.{inl, ⊎_elim}
use mathlib.Core.Bool.{true, false, true≢false}
use mathlib.Core.List.{List, ◌∷◌}
use Prim.Native.Nat.{ℕ}
use native.Mathlib.Decide.{dec_lt}
use native.Mathlib.Omega.{arith}
use lib.ListN.{length}
use Rattle.tables.specs.declared.places.Places.{Places}
use Rattle.tables.specs.Blocks.{DataType}
use Rattle.tables.specs.Kinds.{zone_of}
use Rattle.tables.specs.Places.{Layout}
use Rattle.tables.specs.Same.{Ground}
use Rattle.tables.specs.Views.{View, view_of}
use Rattle.tables.specs.Rules.R3.{R3}
use Rattle.allocation.specs.declared.choice.Found.{Found}
use Rattle.allocation.specs.declared.tail.Tail.{Tail}
use Rattle.allocation.specs.Choice.{next_block, has_neighbour, neighbour, choose}
use Rattle.allocation.specs.NextPointer.{end_sector, no_pointer}
use Rattle.allocation.specs.Stock.{Stocked}
use Rattle.allocation.specs.Candidates.{Behind, Chooses}
use Rattle.allocation.specs.Steps.{Choosable, Taken}
use Rattle.allocation.proofs.FindLaws.{either}
use Rattle.allocation.proofs.NeighbourLaws.{neighbour_says, first_as_before, neighbour_begun, neighbour_fits, neighbour_ground, same_neighbour}
use Rattle.allocation.proofs.NextLaws.{Fit, next_typed, next_fits, fit_choosable, next_behind}
use Rattle.allocation.proofs.NextGround.{next_ground}
use Rattle.allocation.proofs.StockLaws.{fit_stocked}

module _ (v : View) (l : Tail) (t : ℕ) where
  -- the neighbour "is taken"
  pub choose_neighbour : has_neighbour v l t ≡ true → choose v l t ≡ neighbour v l t
  unfolding choose
  choose_neighbour h = rw h refl

  -- "Else the usual choice": it is "the lowest free block of the lowest zone of that type that isn't open; else" block 0 of "the lowest open zone"
  pub choose_next : has_neighbour v l t ≡ false → choose v l t ≡ next_block v t
  unfolding choose
  choose_next h = rw h refl

-- "a new file's first block is chosen as before"
pub choose_first : (v : View) (t : ℕ) → choose v no_pointer t ≡ next_block v t
choose_first v t = choose_next v no_pointer t (first_as_before v t)

-- ---- the three facts

choose_fits : (v : View) (l : Tail) (t : ℕ) (ts : List ℕ) → Stocked v (t ∷ ts) → Fit v t (choose v l t)
choose_fits v l t ts s =
    ⊎_elim (λ h. rw (choose_neighbour v l t h) (inl (neighbour_fits v l t (next_typed v t ts s) (neighbour_says v l t h) s.r3)))
    (λ h. rw (choose_next v l t h) (next_fits v t ts s)) (either (has_neighbour v l t))

pub choose_choosable : (v : View) (l : Tail) (t : ℕ) (ts : List ℕ) → Stocked v (t ∷ ts) → Choosable v t (choose v l t)
choose_choosable v l t ts s = fit_choosable v t ts s (choose v l t) (choose_fits v l t ts s)

pub choose_stocked : (v v' : View) (l : Tail) (t : ℕ) (ts : List ℕ) → Stocked v (t ∷ ts) → Taken v v' t (choose v l t) → Stocked v' ts
choose_stocked v v' l t ts s taken = fit_stocked v v' t ts (choose v l t) s (choose_fits v l t ts s) taken

pub choose_ground : (v v' : View) → Ground v v' → (l : Tail) (t : ℕ) → choose v' l t ≡ choose v l t
choose_ground v v' g l t =
    let e = neighbour_ground v v' g l t in
    ⊎_elim (λ h. choose_neighbour v' l t (e ∙ h) ∙ same_neighbour v v' g l t (neighbour_says v l t h) ∙ sym (choose_neighbour v l t h))
    (λ h. choose_next v' l t (e ∙ h) ∙ next_ground v v' g t ∙ sym (choose_next v l t h)) (either (has_neighbour v l t))

-- ---- the function that chooses

module _ (p : Places) (b : List ℕ) (l : Tail) (t : ℕ) where
  abbrev v : View
  v = view_of p b

  -- the next search may begin where this one would have
  pub chooses_neighbour : (k from : Found) → DataType t → R3 v → Behind v t from → (has_neighbour v l t ≡ true) × (k ≡ neighbour v l t) → Chooses v l t (record { block = k; from = from })
  unfolding neighbour
  chooses_neighbour k from typed r3 h (q, e) =
      let n = neighbour_says v l t q in
      record {
        block = e ∙ sym (choose_neighbour v l t q);
        behind = h;
        before = rw e (elim (dec_lt (zone_of (end_sector l)) from.zone.0) [
          | yes x ↦ absurd (true≢false (sym (neighbour_begun v l t typed n r3) ∙ h.zones (zone_of (end_sector l)) x (omega (arith, n.low))))
          | no x ↦ omega arith
        ]);
      }

  -- it may begin at the next block
  pub chooses_next : (k : Found) → Layout p (length b) → has_neighbour v l t ≡ false → k ≡ next_block v t → Chooses v l t (record { block = k; from = k })
  chooses_next k h q e =
      record { block = e ∙ sym (choose_next v l t q); behind = rw e (next_behind v t (omega (arith, h.least))); before = omega arith }
