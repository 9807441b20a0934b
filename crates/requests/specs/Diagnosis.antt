-- "Say which rule the card breaks": the broken rule and its place. "Answers 1 to 3 are reported as `refused=`"; so
-- is 7 for the withheld list (W7); the volume need not be mounted.
use Rattle.std.specs.Prelude.{◌≡◌, ℕ, ◌≤◌, List, [], ◌∷◌, ◌++◌, length, Option, Some, None, Result, Ok, Err, IfOk}
use Rattle.tables.specs.declared.refusal.Refusal.{Refusal}
use Rattle.tables.specs.Refusals.{number, number_of}
use Rattle.tables.specs.Places.{places_of}
use Rattle.tables.specs.Gates.{Gate}
use Rattle.tables.specs.Books.{withheld_tests}
use Rattle.examination.specs.declared.fault.Fault.{Fault}
use Rattle.examination.specs.declared.fault.Fault.TheVariants.{AtZone, AtSector, AtIndex, AtCount}
use Rattle.examination.specs.Rulings.{rulings}
use Rattle.examination.specs.Faults.{rule_of, place_kind_of, fault_place, NamesFault}
use Rattle.requests.specs.declared.text.Text.{Text}
use Rattle.requests.specs.Text.{line_of}
use Rattle.requests.specs.Report.{refused_line}

-- this paper's rule, kind and place of an answer: zeros where no rule is broken, and beside a refusal
abbrev pub rule_value : Result (Option Fault) Refusal → ℕ
rule_value (Ok f) = rule_of f
rule_value (Err e) = 0

abbrev pub kind_value : Result (Option Fault) Refusal → ℕ
kind_value (Ok f) = place_kind_of f
kind_value (Err e) = 0

abbrev pub place_value : Result (Option Fault) Refusal → ℕ
place_value (Ok f) = fault_place f
place_value (Err e) = 0

-- broken_rule's promise: one of the numbers 1 to 3, 7 for the withheld list, or the lowest rule broken and in it the lowest place
pub record Diagnosed (b withheld : List ℕ) (r : Result (Option Fault) Refusal) : Type 0 where
  pub number : Gate (withheld_tests b withheld) (number_of r)
  pub answer : IfOk r (NamesFault (rulings (places_of b) b withheld))

-- ---- "Output: `rule=`, `kind=`, `place=`, one a line; `rule=none` alone if nothing fails."

-- rule=R
abbrev pub rule_line : ℕ → List ℕ
rule_line rule = line_of (114 ∷ 117 ∷ 108 ∷ 101 ∷ 61 ∷ 82 ∷ []) rule

-- place=
abbrev pub place_line : ℕ → List ℕ
place_line place = line_of (112 ∷ 108 ∷ 97 ∷ 99 ∷ 101 ∷ 61 ∷ []) place

-- kind=zone, kind=sector, kind=index and kind=count, each with its line feed
abbrev pub zone_line : List ℕ
zone_line = 107 ∷ 105 ∷ 110 ∷ 100 ∷ 61 ∷ 122 ∷ 111 ∷ 110 ∷ 101 ∷ 10 ∷ []

abbrev pub sector_line : List ℕ
sector_line = 107 ∷ 105 ∷ 110 ∷ 100 ∷ 61 ∷ 115 ∷ 101 ∷ 99 ∷ 116 ∷ 111 ∷ 114 ∷ 10 ∷ []

abbrev pub index_line : List ℕ
index_line = 107 ∷ 105 ∷ 110 ∷ 100 ∷ 61 ∷ 105 ∷ 110 ∷ 100 ∷ 101 ∷ 120 ∷ 10 ∷ []

abbrev pub count_line : List ℕ
count_line = 107 ∷ 105 ∷ 110 ∷ 100 ∷ 61 ∷ 99 ∷ 111 ∷ 117 ∷ 110 ∷ 116 ∷ 10 ∷ []

-- rule=none and its line feed
abbrev pub none_line : List ℕ
none_line = 114 ∷ 117 ∷ 108 ∷ 101 ∷ 61 ∷ 110 ∷ 111 ∷ 110 ∷ 101 ∷ 10 ∷ []

-- the three lines of a rule, a kind and a place
unfoldable pub place_lines : ℕ → List ℕ → ℕ → List ℕ
place_lines rule kind place = rule_line rule ++ (kind ++ place_line place)

abbrev pub fault_lines : Option Fault → List ℕ
fault_lines None = none_line
fault_lines (Some (AtZone rule z)) = place_lines rule zone_line z.0
fault_lines (Some (AtSector rule s)) = place_lines rule sector_line s.0
fault_lines (Some (AtIndex rule i)) = place_lines rule index_line i.0
fault_lines (Some (AtCount rule)) = place_lines rule count_line 0

abbrev pub diagnosis_lines : Result (Option Fault) Refusal → List ℕ
diagnosis_lines (Ok f) = fault_lines f
diagnosis_lines (Err e) = refused_line (number e)

-- a text of these bytes, at most 64
pub record ShortText (xs : List ℕ) (t : Text) : Type 0 where
  pub text : t ≡ xs
  pub short : length xs ≤ 64

-- broken_text's promise: every byte of its text, of at most 64
pub record DiagnosisText (b withheld : List ℕ) (t : Text) : Type 0 where
  pub diagnosis : Result (Option Fault) Refusal
  pub diagnosed : Diagnosed b withheld diagnosis
  pub lines : ShortText (diagnosis_lines diagnosis) t
