-- Which rule the card breaks: each way out, one result, the lines' lengths, and what number 4 has to do with it.
use Rattle.std.specs.Prelude.{None, Result, Ok, Err, Option}
use mathlib.Core.Path.{◌≡◌, refl, sym, ap, ◌∙◌}
use mathlib.Core.Logic.{◌≢◌}
use mathlib.Core.List.{List, [], ◌∷◌, ◌++◌}
use Prim.Native.Nat.{ℕ, ◌≤◌, ◌<◌}
use native.Mathlib.Decide.{ℕ_discrete}
use native.Mathlib.Omega.{arith}
use lib.ListN.{length, length-append}
use Rattle.tables.specs.declared.places.Places.{Places}
use Rattle.tables.specs.Gates.{Gate}
use Rattle.tables.specs.Places.{places_of}
use Rattle.tables.specs.Books.{Sized, Marked, Placed, withheld_tests, book_tests}
use Rattle.tables.specs.Lawful.{Lawful}
use Rattle.tables.specs.Views.{view_of}
use Rattle.tables.specs.Withheld.{Withholds}
use Rattle.tables.proofs.GateLaws.{gate_one, gate_fails, gate_passes, gate_end, gate_stop, gate_skip, gate_head, zero_good}
use Rattle.examination.specs.declared.fault.Fault.{Fault}
use Rattle.examination.specs.Examined.{PlacedAt}
use Rattle.examination.specs.Rulings.{rulings, Broken, Lower}
use Rattle.examination.specs.Faults.{rule_of, place_kind_of, fault_place, NamesFault}
use Rattle.examination.proofs.CheckLaws.{has_layout, list_zero}
use Rattle.examination.proofs.RulingLaws.{faults_one}
use Rattle.examination.proofs.BrokenLaws.{broken_there, broken_lowest, nothing_lawful, lawful_nothing}
use Rattle.requests.specs.declared.text.Text.{Text}
use Rattle.requests.specs.Report.{refused_line}
use Rattle.requests.specs.Diagnosis.{Diagnosed, rule_line, place_line, place_lines, fault_lines, diagnosis_lines, ShortText, DiagnosisText}
use Rattle.requests.proofs.ReportLaws.{line_short, refused_short, books_few}
use Rattle.tables.specs.Refusals.{number_of}
use Rattle.tables.specs.declared.refusal.Refusal.{Refusal}
use Rattle.tables.specs.Refusals.{number}
use Rattle.tables.proofs.RefusalLaws.{answers_one}

-- books to which none of the numbers 1 to 3 applies, nor 7 to their list
zero_placed : (b withheld : List ℕ) → Gate (withheld_tests b withheld) 0 → PlacedAt b (places_of b)
zero_placed b withheld g =
    let s = gate_head 1 (Sized b) _ g in
    let m = gate_head 2 (Marked b) _ s.1 in
    let p = gate_head 3 (Placed b) _ m.1 in
    record { places = refl; sized = s.0; marked = m.0; placed = p.0; stand = p.0.stand; layout = has_layout b (places_of b) s.0 p.0.limits refl p.0.stand }

module _ (b withheld : List ℕ) where
  -- ---- the two ways out

  pub diagnosis_refused : (why : Refusal) → Gate (withheld_tests b withheld) (number why) → Diagnosed b withheld (Err why)
  diagnosis_refused why h = record { number = h; answer = tt }

  pub diagnosis_found : (p : Places) (f : Option Fault) → PlacedAt b p → Withholds (view_of p b) withheld → NamesFault (rulings p b withheld) f → Diagnosed b withheld (Ok f)
  diagnosis_found p f at list h = record { number = list_zero b withheld p at list; answer = rw at.places at h }

  -- ---- one result

  pub diagnosed_one : (r s : Result (Option Fault) Refusal) → Diagnosed b withheld r → Diagnosed b withheld s → r ≡ s
  diagnosed_one r s h k =
      answers_one r s _ _ h.answer k.answer (faults_one (rulings (places_of b) b withheld)) (gate_one (withheld_tests b withheld) (number_of r) (number_of s) h.number k.number)

  pub diagnosis_text_one : (t u : Text) → DiagnosisText b withheld t → DiagnosisText b withheld u → t ≡ u
  diagnosis_text_one t u h k = h.lines.text ∙ ap diagnosis_lines (diagnosed_one h.diagnosis k.diagnosis h.diagnosed k.diagnosed) ∙ sym k.lines.text

  -- ---- what is named

  module _ (f : Option Fault) (h : Diagnosed b withheld (Ok f)) where
    named : NamesFault (rulings (places_of b) b withheld) f
    named = h.answer

    -- "it fails there, nothing lower fails"
    pub named_there : f ≢ None → Broken (places_of b) b withheld (rule_of f) (place_kind_of f) (fault_place f)
    named_there ne = broken_there (places_of b) b withheld f named ne

    pub named_lowest : f ≢ None → (rule kind place : ℕ) → Broken (places_of b) b withheld rule kind place → Lower rule kind place (rule_of f) (place_kind_of f) (fault_place f) → ⊥
    named_lowest ne = broken_lowest (places_of b) b withheld f named ne

    -- "nothing is found exactly when the request would not answer 4"
    pub nothing_not_4 : f ≡ None → Gate (book_tests b withheld) 0
    nothing_not_4 e = gate_skip (withheld_tests b withheld) _ 0 0 h.number refl (gate_passes 4 (Lawful (places_of b) b withheld) [] 0 (nothing_lawful (places_of b) b withheld (zero_placed b withheld h.number) f named e) gate_end)

    pub fault_is_4 : f ≢ None → Gate (book_tests b withheld) 4
    fault_is_4 ne = gate_skip (withheld_tests b withheld) _ 0 4 h.number refl (gate_fails 4 (Lawful (places_of b) b withheld) [] (omega arith) (λ l. ne (lawful_nothing (places_of b) b withheld (zero_placed b withheld h.number) f named l)))

    pub not_4_nothing : Gate (book_tests b withheld) 0 → f ≡ None
    not_4_nothing g = lawful_nothing (places_of b) b withheld (zero_placed b withheld h.number) f named (zero_good b withheld g).books.lawful

-- ---- the text

unplaced_few : (b withheld : List ℕ) (n : ℕ) → Gate (withheld_tests b withheld) n → n ≤ 7
unplaced_few b withheld n g = elim (ℕ_discrete n 0) [ yes e ↦ omega arith | no ne ↦ books_few b withheld n (gate_stop (withheld_tests b withheld) _ n g ne) ]

-- no two numbers of 32 bits make the three lines longer
pub place_short : (rule place : ℕ) (kind : List ℕ) → rule < 4294967296 → place < 4294967296 → length kind ≤ 12 → length (place_lines rule kind place) ≤ 64
unfolding place_lines
place_short rule place kind hr hp hk =
    omega (arith, length-append (rule_line rule) (kind ++ place_line place), length-append kind (place_line place), line_short (114 ∷ 117 ∷ 108 ∷ 101 ∷ 61 ∷ 82 ∷ []) 9 rule (omega arith), line_short (112 ∷ 108 ∷ 97 ∷ 99 ∷ 101 ∷ 61 ∷ []) 9 place (omega arith))

pub lines_room : (rule place : ℕ) (kind : List ℕ) → rule < 4294967296 → place < 4294967296 → length kind ≤ 12 → length (place_lines rule kind place) ≤ 192
lines_room rule place kind hr hp hk = omega (arith, place_short rule place kind hr hp hk)

module _ (b withheld : List ℕ) (d : Result (Option Fault) Refusal) (h : Diagnosed b withheld d) (t : Text) where
  pub text_found : (f : Option Fault) → d ≡ Ok f → ShortText (fault_lines f) t → DiagnosisText b withheld t
  text_found f e s = record { diagnosis = Ok f; diagnosed = rw e at h; lines = s }

  pub text_refused : (why : Refusal) → d ≡ Err why → t ≡ refused_line (number why) → DiagnosisText b withheld t
  text_refused why e s =
      let n = number why in
      let g : Gate (withheld_tests b withheld) n = (rw e at h).number in
      record { diagnosis = Err why; diagnosed = rw e at h; lines = record { text = s; short = omega (arith, refused_short n (omega (arith, unplaced_few b withheld n g))) } }
