-- The nine rules place by place. "The broken rule, R1 to R9, and the place: kind `zone`, `sector` or `index`, and number. The lowest rule
-- broken is named, in it the lowest place."
use Rattle.std.specs.Prelude.{◌≡◌, ◌⊎◌, ℕ, ◌+◌, ◌-◌, ◌*◌, ◌/◌, ◌≤◌, ◌<◌, List, [], ◌∷◌, ◌++◌, get_or, length}
use Rattle.tables.specs.declared.places.Places.{Places}
use Rattle.tables.specs.Each.{Each}
use Rattle.tables.specs.Views.{View, view_of, claims_over}
use Rattle.tables.specs.Withheld.{withheld_over}
use Rattle.tables.specs.Rules.R1.{zone_bytes, sector_bytes}
use Rattle.tables.specs.Rules.R2.{ZoneLaw}
use Rattle.tables.specs.Rules.R3.{BlockLaw}
use Rattle.tables.specs.Rules.R4.{Own, FreeChain}
use Rattle.tables.specs.Rules.R6.{PointerLaw}
use Rattle.tables.specs.Rules.R8.{FileLaw}
use Rattle.tables.specs.Rules.R9.{R9}
use Rattle.examination.specs.Chained.{ChainLaw}
use Rattle.examination.specs.Findings.{Lowest}

-- ---- what a rule says at a place, where the rule's own definition does not say it

-- byte o of the books is of the tail of the zone table or of the sector table
abbrev pub TailByte : Places → ℕ → Type 0
TailByte p o = ((p.zonetable + 6 * p.zones ≤ o) × (o < p.zonetable + zone_bytes p.zones)) ⊎ ((p.sectortable + 128 * p.zones ≤ o) × (o < p.sectortable + sector_bytes p.zones))

-- R1 at sector s of the books: "R1, once 1 to 3 do not apply, is about the null tails: the place is the sector of the books (0 to S-1) in
-- which the lowest non-null tail byte stands."
abbrev pub TailLaw : Places → List ℕ → ℕ → Type 0
TailLaw p b s = (o : ℕ) → TailByte p o → o / 1024 ≡ s → get_or b o 0 ≡ 0

-- R7 at sector s: "a sector is owned if it is under a pointer or under a header pointer; none is owned twice", and "a sector's bit is set exactly
-- if it is owned or withheld, and never both" (W7), so it fails at a sector that is owned twice, or owned and withheld, or whose bit does not
-- say whether it is one of the two. By counting, as R7 is; the words, SectorWords of R7, follow, and give it (SectorLaws: sector-words,
-- words-sector)
abbrev pub SectorLaw : View → List ℕ → ℕ → Type 0
SectorLaw v withheld s = claims_over v s + withheld_over v withheld s ≡ v.bit s

-- R4's chain
abbrev pub FreeChained : View → Type 0
FreeChained v = (m : ℕ) × FreeChain v m

-- ---- the rules in order

-- kinds of place, as they are answered
abbrev pub zone_kind : ℕ
zone_kind = 1

abbrev pub sector_kind : ℕ
sector_kind = 2

abbrev pub index_kind : ℕ
index_kind = 3

abbrev pub count_kind : ℕ
count_kind = 4

-- a rule that speaks of places of one kind: what it says at each from `from` on, below `end`
pub record Ruling : Type 1 where
  pub rule : ℕ
  pub kind : ℕ
  pub law : ℕ → Type 0
  pub from : ℕ
  pub end : ℕ

abbrev pub speaks : ℕ → ℕ → (ℕ → Type 0) → ℕ → ℕ → Ruling
speaks rule kind law from end = record { rule = rule; kind = kind; law = law; from = from; end = end }

-- "R1 and R7 name a sector, R2 and R3 a zone, R4 (own bytes), R5, R6 and R8 an index; R4's chain and R9 are kind `count`, place 0."
-- "R4: own bytes first. The chain (kind count, place 0) is named only where every table's own bytes are right."
abbrev pub zone_rulings : Places → List ℕ → List Ruling
zone_rulings p b = speaks 1 sector_kind (TailLaw p b) 0 (length b / 1024)
    ∷ speaks 2 zone_kind (ZoneLaw (view_of p b)) 1 (p.zones + 1)
    ∷ speaks 3 zone_kind (BlockLaw (view_of p b)) 2 p.zones
    ∷ []

abbrev pub index_rulings : Places → List ℕ → List Ruling
index_rulings p b = speaks 4 index_kind (Own (view_of p b)) 1 (p.indexes + 1)
    ∷ speaks 4 count_kind (λ k. FreeChained (view_of p b)) 0 1
    ∷ speaks 5 index_kind (ChainLaw (view_of p b)) 1 (p.indexes + 1)
    ∷ speaks 6 index_kind (PointerLaw (view_of p b)) 1 (p.indexes + 1)
    ∷ []

abbrev pub file_rulings : Places → List ℕ → List ℕ → List Ruling
file_rulings p b withheld = speaks 7 sector_kind (SectorLaw (view_of p b) withheld) 1024 (1024 * (p.zones - 1))
    ∷ speaks 8 index_kind (FileLaw (view_of p b)) 1 (p.indexes + 1)
    ∷ speaks 9 count_kind (λ k. R9 (view_of p b)) 0 1
    ∷ []

abbrev pub rulings : Places → List ℕ → List ℕ → List Ruling
rulings p b withheld = zone_rulings p b ++ (index_rulings p b ++ file_rulings p b withheld)

-- ---- where they fail

-- one of them, at this place
pub record FailsAt (r : Ruling) (rule kind place : ℕ) : Type 0 where
  pub rule' : rule ≡ r.rule
  pub kind' : kind ≡ r.kind
  pub low : r.from ≤ place
  pub high : place < r.end
  pub fails : r.law place → ⊥

-- the rule of this number fails at the place of this kind and number
abbrev pub BrokenIn : List Ruling → ℕ → ℕ → ℕ → Type 0
BrokenIn [] rule kind place = ⊥
BrokenIn (r ∷ rs) rule kind place = FailsAt r rule kind place ⊎ BrokenIn rs rule kind place

-- of the nine rules
abbrev pub Broken : Places → List ℕ → List ℕ → ℕ → ℕ → ℕ → Type 0
Broken p b withheld = BrokenIn (rulings p b withheld)

-- a lower rule, or in the same rule a lower place; within R4 tables come before the chain
abbrev pub Lower : ℕ → ℕ → ℕ → ℕ → ℕ → ℕ → Type 0
Lower rule kind place rule' kind' place' = (rule < rule') ⊎ ((rule ≡ rule') × ((kind < kind') ⊎ ((kind ≡ kind') × (place < place'))))

-- ---- what is named

-- a ruling fails, and this is the lowest place where it does
pub record NamedAt (r : Ruling) (rule kind place : ℕ) : Type 0 where
  pub rule' : rule ≡ r.rule
  pub kind' : kind ≡ r.kind
  pub lowest : Lowest r.law r.from r.end place

-- the first that fails, at the lowest place where it does; three zeros if none does
unfoldable pub Names : List Ruling → ℕ → ℕ → ℕ → Type 0
Names [] rule kind place = (rule ≡ 0) × (kind ≡ 0) × (place ≡ 0)
Names (r ∷ rs) rule kind place = (Each r.law r.from r.end × Names rs rule kind place) ⊎ NamedAt r rule kind place
