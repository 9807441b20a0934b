-- An answer of the examination rule by rule: document 02's rule, kind and place of each of its cases, zeros for nothing.
use Rattle.std.specs.Prelude.{ℕ, List, Option, Some, None}
use Rattle.examination.specs.declared.fault.Fault.{Fault}
use Rattle.examination.specs.declared.fault.Fault.TheVariants.{AtZone, AtSector, AtIndex, AtCount}
use Rattle.examination.specs.Rulings.{Ruling, zone_kind, sector_kind, index_kind, count_kind, Names}

abbrev pub rule_of : Option Fault → ℕ
rule_of None = 0
rule_of (Some (AtZone r z)) = r
rule_of (Some (AtSector r s)) = r
rule_of (Some (AtIndex r i)) = r
rule_of (Some (AtCount r)) = r

abbrev pub place_kind_of : Option Fault → ℕ
place_kind_of None = 0
place_kind_of (Some (AtZone r z)) = zone_kind
place_kind_of (Some (AtSector r s)) = sector_kind
place_kind_of (Some (AtIndex r i)) = index_kind
place_kind_of (Some (AtCount r)) = count_kind

abbrev pub fault_place : Option Fault → ℕ
fault_place None = 0
fault_place (Some (AtZone r z)) = z.0
fault_place (Some (AtSector r s)) = s.0
fault_place (Some (AtIndex r i)) = i.0
fault_place (Some (AtCount r)) = 0

-- what was found names the first of these rules that fails, and the lowest place where it does
abbrev pub NamesFault : List Ruling → Option Fault → Type 0
NamesFault rs f = Names rs (rule_of f) (place_kind_of f) (fault_place f)
