-- Which rule is broken: what is named fails there, nothing lower fails, and nothing is named exactly when all rules hold.
use Rattle.std.specs.Prelude.{Option, Some, None}
use mathlib.Core.Path.{◌≡◌, refl, ap}
use mathlib.Core.Logic.{inl, inr, ◌≢◌}
use mathlib.Core.List.{List, [], ◌++◌}
use Prim.Native.Nat.{ℕ, ◌<◌}
use native.Mathlib.Decide.{ℕ_discrete}
use native.Mathlib.Omega.{arith}
use Rattle.tables.specs.declared.places.Places.{Places}
use Rattle.tables.specs.Views.{view_of}
use Rattle.tables.specs.Rules.R6.{R6}
use Rattle.tables.specs.Lawful.{Lawful}
use Rattle.examination.specs.declared.fault.Fault.{Fault}
use Rattle.examination.specs.declared.fault.Fault.TheVariants.{AtZone, AtSector, AtIndex, AtCount}
use Rattle.examination.specs.Examined.{PlacedAt}
use Rattle.examination.specs.Rulings.{zone_rulings, index_rulings, file_rulings, rulings, Broken, Lower}
use Rattle.examination.specs.Faults.{rule_of, place_kind_of, fault_place, NamesFault}
use Rattle.examination.proofs.TailLaws.{tails_each, each_tails}
use Rattle.examination.proofs.ChainedLaws.{R5_each, each_R5}
use Rattle.examination.proofs.SectorLaws.{R7_each, each_R7}
use Rattle.examination.proofs.RulingLaws.{Kinded, HoldAll, Ascending, fault_stop, fault_next, no_fault_hold, named_fails, nothing_lower, names_hold, hold_nowhere, hold_none}

fault_some : (f : Option Fault) → f ≢ None → 0 < place_kind_of f
fault_some None ne = absurd (ne refl)
fault_some (Some (AtZone r z)) ne = omega arith
fault_some (Some (AtSector r s)) ne = omega arith
fault_some (Some (AtIndex r i)) ne = omega arith
fault_some (Some (AtCount r)) ne = omega arith

kind_none : (f : Option Fault) → place_kind_of f ≡ 0 → f ≡ None
kind_none None e = refl
kind_none (Some (AtZone r z)) e = absurd (omega arith)
kind_none (Some (AtSector r s)) e = absurd (omega arith)
kind_none (Some (AtIndex r i)) e = absurd (omega arith)
kind_none (Some (AtCount r)) e = absurd (omega arith)

module _ (p : Places) (b withheld : List ℕ) where
  -- ---- the rules are in order

  zone_kinds : Kinded (zone_rulings p b)
  zone_kinds = (omega arith, (omega arith, (omega arith, omega arith)))

  index_kinds : Kinded (index_rulings p b)
  index_kinds = (omega arith, (omega arith, (omega arith, (omega arith, omega arith))))

  kinds : Kinded (rulings p b withheld)
  kinds = (omega arith, (omega arith, (omega arith, (omega arith, (omega arith, (omega arith, (omega arith, (omega arith, (omega arith, (omega arith, omega arith))))))))))

  -- R4's own bytes and its chain are of one rule
  ascending : Ascending (rulings p b withheld)
  ascending =
      (inl (omega arith), (inl (omega arith), (inl (omega arith), (inr (refl, omega arith), (inl (omega arith), (inl (omega arith), (inl (omega arith), (inl (omega arith), (inl (omega arith), (omega arith, omega arith))))))))))

  -- ---- one part of the rules after another

  module _ (f : Option Fault) (h : NamesFault (zone_rulings p b) f) where
    pub zones_named : (x : Fault) → f ≡ Some x → NamesFault (rulings p b withheld) (Some x)
    zones_named = fault_stop (zone_rulings p b) (index_rulings p b ++ file_rulings p b withheld) f h

    module _ (e : f ≡ None) (g : Option Fault) (k : NamesFault (index_rulings p b) g) where
      -- R6 holds, so R7 and R8 may be asked
      pub index_r6 : g ≡ None → R6 (view_of p b)
      index_r6 n = (no_fault_hold (index_rulings p b) [] g k index_kinds n).1.1.1.0

      zones_passed : (x : Option Fault) → NamesFault (index_rulings p b ++ file_rulings p b withheld) x → NamesFault (rulings p b withheld) x
      zones_passed = fault_next (zone_rulings p b) (index_rulings p b ++ file_rulings p b withheld) f h zone_kinds e

      pub indexes_named : (x : Fault) → g ≡ Some x → NamesFault (rulings p b withheld) (Some x)
      indexes_named x n = zones_passed (Some x) (fault_stop (index_rulings p b) (file_rulings p b withheld) g k x n)

      pub files_named : (x : Option Fault) → g ≡ None → NamesFault (file_rulings p b withheld) x → NamesFault (rulings p b withheld) x
      files_named x n m = zones_passed x (fault_next (index_rulings p b) (file_rulings p b withheld) g k index_kinds n x m)

  -- ---- what is named

  module _ (f : Option Fault) (h : NamesFault (rulings p b withheld) f) where
    -- "it fails there"
    pub broken_there : f ≢ None → Broken p b withheld (rule_of f) (place_kind_of f) (fault_place f)
    broken_there ne = named_fails (rulings p b withheld) (rule_of f) (place_kind_of f) (fault_place f) h (fault_some f ne)

    -- "nothing lower fails"
    pub broken_lowest : f ≢ None → (rule kind place : ℕ) → Broken p b withheld rule kind place → Lower rule kind place (rule_of f) (place_kind_of f) (fault_place f) → ⊥
    broken_lowest ne rule kind place = nothing_lower (rulings p b withheld) ascending (rule_of f) (place_kind_of f) (fault_place f) h (fault_some f ne) rule kind place

  -- ---- the rules hold exactly when none fails

  module _ (at : PlacedAt b p) where
    lawful_hold : Lawful p b withheld → HoldAll (rulings p b withheld)
    lawful_hold l =
        (tails_each p b at l.r1.tails, (l.r2, (l.r3, (l.r4.own, ((λ k lk lo. (l.r4.long, l.r4.chain)), (R5_each (view_of p b) l.r5, (l.r6, (R7_each (view_of p b) withheld l.r7, (l.r8, ((λ k lk lo. l.r9), omega arith))))))))))

    hold_lawful : HoldAll (rulings p b withheld) → Lawful p b withheld
    hold_lawful h =
        let t = h.1.1.1 in
        let f = t.1.1.1.1 in
        let chain = t.1.0 0 (omega arith) (omega arith) in
        record {
          r1 = record { stand = at.stand; tails = each_tails p b at h.0 };
          r2 = h.1.0;
          r3 = h.1.1.0;
          r4 = record { own = t.0; long = chain.0; chain = chain.1 };
          r5 = each_R5 (view_of p b) t.1.1.0;
          r6 = t.1.1.1.0;
          r7 = each_R7 (view_of p b) withheld f.0;
          r8 = f.1.0;
          r9 = f.1.1.0 0 (omega arith) (omega arith);
        }

    module _ (f : Option Fault) (h : NamesFault (rulings p b withheld) f) where
      -- "nothing is found exactly when" all rules hold
      pub nothing_lawful : f ≡ None → Lawful p b withheld
      nothing_lawful e = hold_lawful (names_hold (rulings p b withheld) kinds (rule_of f) (place_kind_of f) (fault_place f) h (ap place_kind_of e))

      pub lawful_nothing : Lawful p b withheld → f ≡ None
      lawful_nothing l = kind_none f (hold_none (rulings p b withheld) (lawful_hold l) (rule_of f) (place_kind_of f) (fault_place f) h)

      -- books of which no rule fails at any place are lawful, and the other way round
      pub nowhere_lawful : ((rule kind place : ℕ) → Broken p b withheld rule kind place → ⊥) → Lawful p b withheld
      nowhere_lawful none =
          nothing_lawful (elim (ℕ_discrete (place_kind_of f) 0) [
            | yes e ↦ kind_none f e
            | no ne ↦ absurd (none (rule_of f) (place_kind_of f) (fault_place f) (named_fails (rulings p b withheld) (rule_of f) (place_kind_of f) (fault_place f) h (omega arith)))
          ])

    pub lawful_nowhere : Lawful p b withheld → (rule kind place : ℕ) → Broken p b withheld rule kind place → ⊥
    lawful_nowhere l = hold_nowhere (rulings p b withheld) (lawful_hold l)
