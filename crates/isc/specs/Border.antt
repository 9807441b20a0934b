-- What the C functions hand back beside a request's own promise: values through pointers, a text into a lent buffer.
use Rattle.std.specs.Prelude.{◌≡◌, Bool, not, ℕ, ◌≤◌, ◌<◌, List, eqb, length, Option, Result}
use Rattle.field.specs.Parts.{over}
use Rattle.tables.specs.declared.kinds.Index.{Index}
use Rattle.tables.specs.declared.kinds.Sector.{Sector}
use Rattle.tables.specs.declared.refusal.Refusal.{Refusal}
use Rattle.tables.specs.Gates.{Gate}
use Rattle.tables.specs.Refusals.{number_of}
use Rattle.examination.specs.declared.fault.Fault.{Fault}
use Rattle.tables.specs.Books.{book_tests}
use Rattle.requests.specs.declared.space.Space.{Space}
use Rattle.requests.specs.Answers.{value_of}
use Rattle.requests.specs.Create.{id_value}
use Rattle.requests.specs.Locate.{sector_value, Locates}
use Rattle.requests.specs.Space.{sectors_value, used_value, Spaced}
use Rattle.requests.specs.Report.{report_of}
use Rattle.requests.specs.Diagnosis.{rule_value, kind_value, place_value, Diagnosed, diagnosis_lines}

-- "`exchange` is 0 for no and anything else for yes"
abbrev pub asked : ℕ → Bool
asked exchange = not (eqb exchange 0)

-- a request with one value, with its promise: the number and the value, 0 on a refusal
pub record AnswerOut (promise : Result ℕ Refusal → Type 0) (r value : ℕ) : Type 0 where
  pub answer : Result ℕ Refusal
  pub holds : promise answer
  pub number : r ≡ number_of answer
  pub one : value ≡ value_of answer

-- a create, with its promise: the number and the new file's id, 0 on a refusal
pub record CreateOut (promise : Result Index Refusal → Type 0) (r id : ℕ) : Type 0 where
  pub answer : Result Index Refusal
  pub holds : promise answer
  pub number : r ≡ number_of answer
  pub value : id ≡ id_value answer

-- locate: the number and the sector, 0 on a refusal
pub record LocateOut (b withheld : List ℕ) (id k r sector : ℕ) : Type 0 where
  pub answer : Result Sector Refusal
  pub locates : Locates b withheld id k answer
  pub number : r ≡ number_of answer
  pub value : sector ≡ sector_value answer

-- space: the number and the values of the answer, zeros on a refusal
pub record SpaceOut (b withheld : List ℕ) (r sectors used : ℕ) : Type 0 where
  pub answer : Result Space Refusal
  pub spaced : Spaced b withheld answer
  pub number : r ≡ number_of answer
  pub all : sectors ≡ sectors_value answer
  pub taken : used ≡ used_value answer

-- which rule is broken: the number, the rule, the kind of place and the place, zeros on a refusal
pub record BrokenOut (b withheld : List ℕ) (r rule kind place : ℕ) : Type 0 where
  pub answer : Result (Option Fault) Refusal
  pub diagnosed : Diagnosed b withheld answer
  pub number : r ≡ number_of answer
  pub broken : rule ≡ rule_value answer
  pub sort : kind ≡ kind_value answer
  pub place' : place ≡ place_value answer

-- ---- texts

-- lines of which P holds stand at the start of the text, and their length is answered
pub record Lines (P : List ℕ → Type 0) (text : List ℕ) (r : ℕ) (text' : List ℕ) (len : ℕ) : Type 0 where
  pub lines : List ℕ
  pub holds : P lines
  pub zero : r ≡ 0
  pub bytes : text' ≡ over text 0 lines
  pub count : len ≡ length lines

-- a text shorter than `least` bytes is refused as 7, with nothing written
pub record TextOut (least : ℕ) (P : List ℕ → Type 0) (text : List ℕ) (r : ℕ) (text' : List ℕ) (len : ℕ) : Type 0 where
  pub refused : length text < least → (r ≡ 7) × (text' ≡ text) × (len ≡ 0)
  pub written : least ≤ length text → Lines P text r text' len

-- the report of the books b, and which rule they break
pub record ReportLines (b withheld xs : List ℕ) : Type 0 where
  pub number : ℕ
  pub gate : Gate (book_tests b withheld) number
  pub is : xs ≡ report_of number b

pub record BrokenLines (b withheld xs : List ℕ) : Type 0 where
  pub diagnosis : Result (Option Fault) Refusal
  pub diagnosed : Diagnosed b withheld diagnosis
  pub is : xs ≡ diagnosis_lines diagnosis
