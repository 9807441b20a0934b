-- Rulings in order: how a list of them is gone through, and what is known of the one that is named.
use Rattle.std.specs.Prelude.{Option, Some, None}
use mathlib.Core.Path.{◌≡◌, refl, sym, ap, ap₂, ◌∙◌}
use mathlib.Core.Logic.{◌⊎◌, inl, inr}
use mathlib.Core.List.{List, [], ◌∷◌, ◌++◌}
use Prim.Native.Nat.{ℕ, ◌<◌}
use native.Mathlib.Decide.{dec_lt}
use native.Mathlib.Omega.{arith}
use Rattle.tables.specs.Each.{Each}
use Rattle.examination.specs.declared.fault.Fault.{Fault}
use Rattle.examination.specs.declared.fault.Fault.TheVariants.{AtZone, AtSector, AtIndex, AtCount}
use Rattle.examination.specs.Findings.{Lowest}
use Rattle.examination.specs.Rulings.{Ruling, BrokenIn, Lower, Names}
use Rattle.examination.specs.Faults.{rule_of, place_kind_of, fault_place, NamesFault}

-- ---- the first ruling of a list

module _ (x : Ruling) (xs : List Ruling) where
  -- it fails, at this place lowest
  pub named_here : (place : ℕ) → Lowest x.law x.from x.end place → Names (x ∷ xs) x.rule x.kind place
  unfolding Names
  named_here place h = inr (record { rule' = refl; kind' = refl; lowest = h })

  -- it holds, so that what is named is named by those after it
  pub named_next : (rule kind place : ℕ) → Each x.law x.from x.end → Names xs rule kind place → Names (x ∷ xs) rule kind place
  unfolding Names
  named_next rule kind place h n = inl (h, n)

-- by no ruling nothing is named
pub none_named : Names [] 0 0 0
unfolding Names
none_named = (refl, refl, refl)

-- a rule as a whole, at place 0
module _ (P : Type 0) where
  pub whole_fails : (P → ⊥) → Lowest (λ k. P) 0 1 0
  whole_fails h = record { low = omega arith; high = omega arith; fails = h; below = λ k l lo. absurd (omega arith) }

  pub whole_holds : P → Each (λ k. P) 0 1
  whole_holds h k l lo = h

-- ---- one list after another

-- kinds of place are not 0
abbrev pub Kinded : List Ruling → Type 0
Kinded [] = 0 < 1
Kinded (r ∷ rs) = (0 < r.kind) × Kinded rs

-- all of them hold
abbrev pub HoldAll : List Ruling → Type 0
HoldAll [] = 0 < 1
HoldAll (r ∷ rs) = Each r.law r.from r.end × HoldAll rs

fault_kind : (f : Fault) → 0 < place_kind_of (Some f)
fault_kind (AtZone r z) = omega arith
fault_kind (AtSector r s) = omega arith
fault_kind (AtIndex r i) = omega arith
fault_kind (AtCount r) = omega arith

names_stop : (xs ys : List Ruling) (rule kind place : ℕ) → Names xs rule kind place → 0 < kind → Names (xs ++ ys) rule kind place
unfolding Names
names_stop [] ys rule kind place h some = absurd (omega (arith, h.1))
names_stop (x ∷ xs) ys rule kind place (inl h) some = inl (h.0, names_stop xs ys rule kind place h.1 some)
names_stop (x ∷ xs) ys rule kind place (inr h) some = inr h

-- nothing is named, so all hold
pub names_hold : (xs : List Ruling) → Kinded xs → (rule kind place : ℕ) → Names xs rule kind place → kind ≡ 0 → HoldAll xs
unfolding Names
names_hold [] k rule kind place h z = k
names_hold (x ∷ xs) k rule kind place (inl h) z = (h.0, names_hold xs k.1 rule kind place h.1 z)
names_hold (x ∷ xs) k rule kind place (inr h) z = absurd (omega (arith, k.0, h.kind'))

names_on : (xs ys : List Ruling) (rule kind place : ℕ) → HoldAll xs → Names ys rule kind place → Names (xs ++ ys) rule kind place
unfolding Names
names_on [] ys rule kind place h n = n
names_on (x ∷ xs) ys rule kind place h n = inl (h.0, names_on xs ys rule kind place h.1 n)

module _ (xs ys : List Ruling) (f : Option Fault) (h : NamesFault xs f) where
  -- a fault among the first is that of all
  pub fault_stop : (x : Fault) → f ≡ Some x → NamesFault (xs ++ ys) (Some x)
  fault_stop x e = names_stop xs ys (rule_of (Some x)) (place_kind_of (Some x)) (fault_place (Some x)) (rw e at h) (fault_kind x)

  pub no_fault_hold : Kinded xs → f ≡ None → HoldAll xs
  no_fault_hold k e = names_hold xs k (rule_of f) (place_kind_of f) (fault_place f) h (ap place_kind_of e)

  -- where there is none, that of the others is
  pub fault_next : Kinded xs → f ≡ None → (g : Option Fault) → NamesFault ys g → NamesFault (xs ++ ys) g
  fault_next k e g n = names_on xs ys (rule_of g) (place_kind_of g) (fault_place g) (no_fault_hold k e) n

-- ---- one result

pub lowest_one : (P : ℕ → Type 0) (from end j k : ℕ) → Lowest P from end j → Lowest P from end k → j ≡ k
lowest_one P from end j k a b =
    elim (dec_lt j k) [
      | yes l ↦ absurd (a.fails (b.below j l a.low))
      | no h ↦ elim (dec_lt k j) [ yes l ↦ absurd (b.fails (a.below k l b.low)) | no g ↦ omega arith ]
    ]

pub names_one : (xs : List Ruling) (r k n r' k' n' : ℕ) → Names xs r k n → Names xs r' k' n' → (r ≡ r') × (k ≡ k') × (n ≡ n')
unfolding Names
names_one [] r k n r' k' n' h g = (h.0 ∙ sym g.0, h.1 ∙ sym g.1, h.2 ∙ sym g.2)
names_one (x ∷ xs) r k n r' k' n' (inl h) (inl g) = names_one xs r k n r' k' n' h.1 g.1
names_one (x ∷ xs) r k n r' k' n' (inl h) (inr g) = absurd (g.lowest.fails (h.0 n' g.lowest.high g.lowest.low))
names_one (x ∷ xs) r k n r' k' n' (inr h) (inl g) = absurd (h.lowest.fails (g.0 n h.lowest.high h.lowest.low))
names_one (x ∷ xs) r k n r' k' n' (inr h) (inr g) = (h.rule' ∙ sym g.rule', h.kind' ∙ sym g.kind', lowest_one x.law x.from x.end n n' h.lowest g.lowest)

-- an answer has its three numbers, and they have one answer
pub fault_one : (f g : Option Fault) → rule_of f ≡ rule_of g → place_kind_of f ≡ place_kind_of g → fault_place f ≡ fault_place g → f ≡ g
fault_one None None r k n = refl
fault_one (Some (AtZone a x)) (Some (AtZone b y)) r k n = ap₂ (λ (a m : ℕ). Some (AtZone a (record { 0 = m }))) r n
fault_one (Some (AtSector a x)) (Some (AtSector b y)) r k n = ap₂ (λ (a m : ℕ). Some (AtSector a (record { 0 = m }))) r n
fault_one (Some (AtIndex a x)) (Some (AtIndex b y)) r k n = ap₂ (λ (a m : ℕ). Some (AtIndex a (record { 0 = m }))) r n
fault_one (Some (AtCount a)) (Some (AtCount b)) r k n = ap (λ (a : ℕ). Some (AtCount a)) r
fault_one None (Some g) r k n = absurd (omega (arith, fault_kind g))
fault_one (Some f) None r k n = absurd (omega (arith, fault_kind f))
fault_one (Some (AtZone a x)) (Some (AtSector b y)) r k n = absurd (omega arith)
fault_one (Some (AtZone a x)) (Some (AtIndex b y)) r k n = absurd (omega arith)
fault_one (Some (AtZone a x)) (Some (AtCount b)) r k n = absurd (omega arith)
fault_one (Some (AtSector a x)) (Some (AtZone b y)) r k n = absurd (omega arith)
fault_one (Some (AtSector a x)) (Some (AtIndex b y)) r k n = absurd (omega arith)
fault_one (Some (AtSector a x)) (Some (AtCount b)) r k n = absurd (omega arith)
fault_one (Some (AtIndex a x)) (Some (AtZone b y)) r k n = absurd (omega arith)
fault_one (Some (AtIndex a x)) (Some (AtSector b y)) r k n = absurd (omega arith)
fault_one (Some (AtIndex a x)) (Some (AtCount b)) r k n = absurd (omega arith)
fault_one (Some (AtCount a)) (Some (AtZone b y)) r k n = absurd (omega arith)
fault_one (Some (AtCount a)) (Some (AtSector b y)) r k n = absurd (omega arith)
fault_one (Some (AtCount a)) (Some (AtIndex b y)) r k n = absurd (omega arith)

pub faults_one : (xs : List Ruling) (f g : Option Fault) → NamesFault xs f → NamesFault xs g → f ≡ g
faults_one xs f g h k =
    let e = names_one xs (rule_of f) (place_kind_of f) (fault_place f) (rule_of g) (place_kind_of g) (fault_place g) h k in
    fault_one f g e.0 e.1 e.2

-- ---- what is named fails there, and nothing lower fails

pub named_fails : (xs : List Ruling) (rule kind place : ℕ) → Names xs rule kind place → 0 < kind → BrokenIn xs rule kind place
unfolding Names
named_fails [] rule kind place h some = absurd (omega (arith, h.1))
named_fails (x ∷ xs) rule kind place (inl h) some = inr (named_fails xs rule kind place h.1 some)
named_fails (x ∷ xs) rule kind place (inr h) some = inl (record { rule' = h.rule'; kind' = h.kind'; low = h.lowest.low; high = h.lowest.high; fails = h.lowest.fails })

-- the order of rules and kinds: a lower rule, or in the same rule a lower kind
abbrev pub Before : Ruling → ℕ → ℕ → Type 0
Before x rule kind = (x.rule < rule) ⊎ ((x.rule ≡ rule) × (x.kind < kind))

abbrev pub BeforeNext : Ruling → List Ruling → Type 0
BeforeNext x [] = 0 < 1
BeforeNext x (y ∷ ys) = Before x y.rule y.kind

abbrev pub Ascending : List Ruling → Type 0
Ascending [] = 0 < 1
Ascending (x ∷ xs) = BeforeNext x xs × Ascending xs

before_before : (x y : Ruling) (rule kind : ℕ) → Before x y.rule y.kind → Before y rule kind → Before x rule kind
before_before x y rule kind (inl l) (inl m) = inl (omega arith)
before_before x y rule kind (inl l) (inr m) = inl (omega (arith, m.0))
before_before x y rule kind (inr l) (inl m) = inl (omega (arith, l.0))
before_before x y rule kind (inr l) (inr m) = inr (omega (arith, l.0, m.0), omega (arith, l.1, m.1))

-- what comes after x fails after x
after_broken : (x : Ruling) (ys : List Ruling) → BeforeNext x ys → Ascending ys → (rule kind place : ℕ) → BrokenIn ys rule kind place → Before x rule kind
after_broken x [] n a rule kind place b = absurd b
after_broken x (y ∷ ys) n a rule kind place (inl b) = rw (b.rule', b.kind') n
after_broken x (y ∷ ys) n a rule kind place (inr b) = before_before x y rule kind n (after_broken y ys a.0 a.1 rule kind place b)

-- nothing is before itself, nor before what comes before it
not_lower : (x : Ruling) (rule kind place place' : ℕ) → Before x rule kind → Lower rule kind place x.rule x.kind place' → ⊥
not_lower x rule kind place place' (inl l) (inl m) = omega arith
not_lower x rule kind place place' (inl l) (inr m) = omega (arith, m.0)
not_lower x rule kind place place' (inr l) (inl m) = omega (arith, l.0)
not_lower x rule kind place place' (inr l) (inr (e, inl m)) = omega (arith, l.1)
not_lower x rule kind place place' (inr l) (inr (e, inr m)) = omega (arith, l.1, m.0)

pub nothing_lower : (xs : List Ruling) → Ascending xs → (rule kind place : ℕ) → Names xs rule kind place → 0 < kind
    → (rule' kind' place' : ℕ) → BrokenIn xs rule' kind' place' → Lower rule' kind' place' rule kind place → ⊥
unfolding Names
nothing_lower [] a rule kind place h some rule' kind' place' b l = absurd b
nothing_lower (x ∷ xs) a rule kind place (inl h) some rule' kind' place' (inl b) l = b.fails (h.0 place' b.high b.low)
nothing_lower (x ∷ xs) a rule kind place (inl h) some rule' kind' place' (inr b) l = nothing_lower xs a.1 rule kind place h.1 some rule' kind' place' b l
nothing_lower (x ∷ xs) a rule kind place (inr h) some rule' kind' place' (inl b) (inl l) = omega (arith, h.rule', b.rule')
nothing_lower (x ∷ xs) a rule kind place (inr h) some rule' kind' place' (inl b) (inr (e, inl l)) = omega (arith, h.kind', b.kind')
nothing_lower (x ∷ xs) a rule kind place (inr h) some rule' kind' place' (inl b) (inr (e, inr l)) = b.fails (h.lowest.below place' l.1 b.low)
nothing_lower (x ∷ xs) a rule kind place (inr h) some rule' kind' place' (inr b) l =
    not_lower x rule' kind' place' place (after_broken x xs a.0 a.1 rule' kind' place' b) (rw (h.rule', h.kind') at l)

-- where all hold nothing fails, and nothing is named
pub hold_nowhere : (xs : List Ruling) → HoldAll xs → (rule kind place : ℕ) → BrokenIn xs rule kind place → ⊥
hold_nowhere [] h rule kind place b = absurd b
hold_nowhere (x ∷ xs) h rule kind place (inl b) = b.fails (h.0 place b.high b.low)
hold_nowhere (x ∷ xs) h rule kind place (inr b) = hold_nowhere xs h.1 rule kind place b

pub hold_none : (xs : List Ruling) → HoldAll xs → (rule kind place : ℕ) → Names xs rule kind place → kind ≡ 0
unfolding Names
hold_none [] h rule kind place n = n.1
hold_none (x ∷ xs) h rule kind place (inl n) = hold_none xs h.1 rule kind place n.1
hold_none (x ∷ xs) h rule kind place (inr n) = absurd (n.lowest.fails (h.0 place n.lowest.high n.lowest.low))
